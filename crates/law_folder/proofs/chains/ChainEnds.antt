-- A chain that ends at the word 0 is whole.
use Rattle.std.proofs.Common.{◌≡◌, ⊎_elim, ℕ, zero, suc, ◌^◌, List, [], ◌∷◌, map, refl, ap, sym, ◌∙◌, subst, Bool, true, false}
use Rattle.std.specs.Prelude.{◌==◌, if◌then◌else◌, not}
use Rattle.std.proofs.lemmas.Bool.{and_parts, cases_Bool, eq-eqb, eqb-true, or_left, or_right}
use Rattle.spec_format.specs.BlockFiles.{is_among}
use Rattle.spec_folder.specs.Chains.{Chain, IsChain, Linked, chain, chain_from, file_and_block, is_of_bucket, is_reached}
use Rattle.spec_folder.specs.ListView.{Distinct}
use Rattle.spec_folder.specs.View.{StoreView}

-- what a walk reaches where it ends at 0
record IsWalked (v : StoreView) (b : ℕ) (met : List ℕ) (w : ℕ) (cs : List ℕ) : Type 0 where
  linked : Linked v b w cs
  once : Distinct (map file_and_block cs)
  apart : (x : ℕ) → is_among met x ≡ true → is_among (map file_and_block cs) x ≡ false

walked-on : (v : StoreView) (b : ℕ) (met : List ℕ) (w : ℕ) (more : Chain) → ((cs : List ℕ) → more ≡ record { reached = cs; end = 0 } → IsWalked v b (file_and_block w ∷ met) (v.chain_next w) cs)
    → (cs : List ℕ) (t : Bool) → is_reached v b met w ≡ t → (let longer : Chain = record more { reached = w ∷ more.reached } in let here : Chain = record { reached = []; end = w } in if t then longer else here) ≡ record { reached = cs; end = 0 } → IsWalked v b met w cs
walked-on v b met w more later [] true is e = absurd (let z : ◌≡◌ {A = List ℕ} (w ∷ more.reached) [] = ap (λ (x : Chain). x.reached) e in cc)
walked-on v b met w more later (c ∷ cs) true is e =
    let heads : w ∷ more.reached ≡ c ∷ cs = ap (λ (x : Chain). x.reached) e in
    let head : w ≡ c = cc in
    let tail : more.reached ≡ cs = cc in
    let last : more.end ≡ 0 = ap (λ (x : Chain). x.end) e in
    let rest : IsWalked v b (file_and_block w ∷ met) (v.chain_next w) cs = later cs (λ i. record { reached = tail i; end = last i }) in
    let parts = and_parts (not (is_among met (file_and_block w))) (is_of_bucket v b w) is in
    subst (λ (x : ℕ). IsWalked v b met w (x ∷ cs)) head (record {
      linked = (refl, parts.1, rest.linked);
      once = (rest.apart (file_and_block w) (or_left (file_and_block w == file_and_block w) (is_among met (file_and_block w)) (eq-eqb (file_and_block w) (file_and_block w) refl)), rest.once);
      apart = λ x among. ⊎_elim
          (λ (h : (file_and_block w == x) ≡ true). absurd (let a : is_among met (file_and_block w) ≡ true = subst (λ (y : ℕ). is_among met y ≡ true) (sym (eqb-true (file_and_block w) x h)) among in let z : false ≡ true = ap not (sym a) ∙ parts.0 in cc))
          (λ (h : (file_and_block w == x) ≡ false). let r = rest.apart x (or_right (file_and_block w == x) (is_among met x) among) in rw (h, r) refl)
          (cases_Bool (file_and_block w == x));
    })
walked-on v b met w more later [] false is e = record { linked = ap (λ (x : Chain). x.end) e; once = tt; apart = λ x among. refl }
walked-on v b met w more later (c ∷ cs) false is e = absurd (let z : ◌≡◌ {A = List ℕ} [] (c ∷ cs) = ap (λ (x : Chain). x.reached) e in cc)

walked : (v : StoreView) (b turns : ℕ) (met : List ℕ) (w : ℕ) (cs : List ℕ) → chain_from v b turns met w ≡ record { reached = cs; end = 0 } → IsWalked v b met w cs
unfolding chain_from
walked v b zero met w [] e = record { linked = ap (λ (c : Chain). c.end) e; once = tt; apart = λ x among. refl }
walked v b zero met w (c ∷ cs) e = absurd (let z : ◌≡◌ {A = List ℕ} [] (c ∷ cs) = ap (λ (x : Chain). x.reached) e in cc)
walked v b (suc turns) met w cs e = walked-on v b met w (chain_from v b turns (file_and_block w ∷ met) (v.chain_next w)) (walked v b turns (file_and_block w ∷ met) (v.chain_next w)) cs (is_reached v b met w) refl e

-- a chain that ends at the word 0 is that of the records that it reaches
pub chain-back : (v : StoreView) (b : ℕ) (cs : List ℕ) → chain v b ≡ record { reached = cs; end = 0 } → IsChain v b cs
chain-back v b cs e = let w = walked v b (2 ^ 24) [] (v.table b) cs e in record { linked = w.linked; once = w.once }
