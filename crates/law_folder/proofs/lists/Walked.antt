-- A walk is of different nodes, each with a right or absent checksum.
use Rattle.std.proofs.Common.{◌≡◌, ℕ, zero, suc, List, [], ◌∷◌, refl, sym, ◌∙◌, subst, Bool, true, false, ⊎_elim}
use Rattle.std.specs.Prelude.{not, ◌&&◌, ◌||◌, ◌==◌, if◌then◌else◌}
use Rattle.std.proofs.lemmas.Bool.{cases_Bool, eq-eqb, or_left}
use Rattle.std.proofs.lemmas.Bool.Decides.{eqb_tells}
use Rattle.std.proofs.Math.Dec.{eqb}
use Rattle.spec_format.specs.BlockFiles.{is_among}
use Rattle.spec_folder.specs.ListView.{ListView, Distinct}
use Rattle.spec_folder.specs.Walk.{walk, walk_from}
use Rattle.law_folder.specs.ListLaws.{WalksAreDistinct}

module _ (checks : ℕ → Bool) (next prev : ℕ → ℕ) where
  not_met : (b c d : Bool) → (b && not c && d) ≡ true → c ≡ false
  not_met true false true e = refl
  not_met true false false e = cc
  not_met true true d e = cc
  not_met false c d e = cc

  -- no node that was met is walked
  walked-fresh : (most : ℕ) (met : List ℕ) (before word w : ℕ) → is_among (walk_from checks next prev most met before word) w ≡ true → is_among met w ≡ false
  unfolding walk_from
  walked-fresh zero met before word w among = absurd (let c : false ≡ true = among in cc)
  walked-fresh (suc most) met before word w among = go (checks word && not (is_among met word) && (prev word == before)) refl among (walked-fresh most (word ∷ met) word (next word) w) where
    go : (t : Bool) → (checks word && not (is_among met word) && (prev word == before)) ≡ t
        → is_among (if t then (word ∷ (if next word == word then [] else walk_from checks next prev most (word ∷ met) word (next word))) else []) w ≡ true
        → (is_among (walk_from checks next prev most (word ∷ met) word (next word)) w ≡ true → is_among (word ∷ met) w ≡ false) → is_among met w ≡ false
    go false e h more = absurd (let c : false ≡ true = h in cc)
    go true e h more = ⊎_elim
        (λ (f : (eqb word w ≡ true) × (word ≡ w)). subst (λ (x : ℕ). is_among met x ≡ false) f.1 (not_met (checks word) (is_among met word) (prev word == before) e))
        (λ (f : (eqb word w ≡ false) × _). later (next word == word) (rw f.0 at h))
        (eqb_tells word w) where
          later : (s : Bool) → is_among (if s then [] else walk_from checks next prev most (word ∷ met) word (next word)) w ≡ true → is_among met w ≡ false
          later true g = absurd (let c : false ≡ true = g in cc)
          later false g = tail (word == w) (is_among met w) (more g)
            where
              tail : (p q : Bool) → (p || q) ≡ false → q ≡ false
              tail true q e = cc
              tail false q e = e

  walked-once : (most : ℕ) (met : List ℕ) (before word : ℕ) → Distinct (walk_from checks next prev most met before word)
  unfolding walk_from
  walked-once zero met before word = tt
  walked-once (suc most) met before word = go (checks word && not (is_among met word) && (prev word == before)) (next word == word) (walked-once most (word ∷ met) word (next word)) (λ h. walked-fresh most (word ∷ met) word (next word) word h) where
    go : (t s : Bool) → Distinct (walk_from checks next prev most (word ∷ met) word (next word)) → (is_among (walk_from checks next prev most (word ∷ met) word (next word)) word ≡ true → is_among (word ∷ met) word ≡ false)
        → Distinct (if t then (word ∷ (if s then [] else walk_from checks next prev most (word ∷ met) word (next word))) else [])
    go false s more fresh = tt
    go true true more fresh = (refl, tt)
    go true false more fresh = (
      ⊎_elim
          (λ (h : is_among (walk_from checks next prev most (word ∷ met) word (next word)) word ≡ true). absurd (let c : true ≡ false = sym (or_left (word == word) (is_among met word) (eq-eqb word word refl)) ∙ fresh h in cc))
          (λ (h : is_among (walk_from checks next prev most (word ∷ met) word (next word)) word ≡ false). h)
          (cases_Bool (is_among (walk_from checks next prev most (word ∷ met) word (next word)) word)),
      more,
    )

  check-first : (b c d : Bool) → (b && not c && d) ≡ true → b ≡ true
  check-first true c d e = refl
  check-first false c d e = cc

  -- each walked node has a right or absent checksum
  walked-checks : (most : ℕ) (met : List ℕ) (before word w : ℕ) → is_among (walk_from checks next prev most met before word) w ≡ true → checks w ≡ true
  unfolding walk_from
  walked-checks zero met before word w among = absurd (let c : false ≡ true = among in cc)
  walked-checks (suc most) met before word w among = go (checks word && not (is_among met word) && (prev word == before)) refl among (walked-checks most (word ∷ met) word (next word) w) where
    go : (t : Bool) → (checks word && not (is_among met word) && (prev word == before)) ≡ t
        → is_among (if t then (word ∷ (if next word == word then [] else walk_from checks next prev most (word ∷ met) word (next word))) else []) w ≡ true
        → (is_among (walk_from checks next prev most (word ∷ met) word (next word)) w ≡ true → checks w ≡ true) → checks w ≡ true
    go false e h more = absurd (let c : false ≡ true = h in cc)
    go true e h more = ⊎_elim
        (λ (f : (eqb word w ≡ true) × (word ≡ w)). subst (λ (x : ℕ). checks x ≡ true) f.1 (check-first (checks word) (is_among met word) (prev word == before) e))
        (λ (f : (eqb word w ≡ false) × _). later (next word == word) (rw f.0 at h))
        (eqb_tells word w) where
          later : (s : Bool) → is_among (if s then [] else walk_from checks next prev most (word ∷ met) word (next word)) w ≡ true → checks w ≡ true
          later true g = absurd (let c : false ≡ true = g in cc)
          later false g = more g

pub walk-once : (list : ListView) → Distinct (walk list)
unfolding walk
walk-once list = walked-once list.checks list.next list.prev 131072 [] list.head list.head

pub walks-distinct : WalksAreDistinct
unfolding walk
walks-distinct list = (walk-once list, λ node among. walked-checks list.checks list.next list.prev 131072 [] list.head list.head node among)
