-- Lists of used blocks: what is in them, and what occurs twice.
use Rattle.std.proofs.Common.{◌≡◌, ℕ, zero, suc, ◌+◌, ◌<◌, arith, List, [], ◌∷◌, ◌++◌, map, refl, ◌∙◌, true, false, ⊎_elim}
use Rattle.std.specs.Prelude.{◌||◌, ◌==◌}
use Rattle.std.specs.List.{flat_map, range_with_len}
use Rattle.std.proofs.lemmas.Bool.{cases_Bool, or_left, or_right, or_parts, or_from}
use Rattle.std.proofs.lemmas.Bool.Decides.{eqb_tells}
use Rattle.std.proofs.Math.Dec.{eqb}
pub use Rattle.std.proofs.lemmas.Bool.{or_from as neither}
use Rattle.spec_format.specs.Claims.{Claim, BlockOf, ExternalOf, same_claim, has_claim, claims_of, repeats}
use Rattle.spec_format.specs.Address.{kind_of, block_count, file_selector, first_block, external_number, external}
use Rattle.spec_folder.specs.Loads.{Loaded, all_claims, record_claims}
use Rattle.law_folder.proofs.states.Laid.{same_claim-self}
pub use Rattle.law_folder.proofs.walks.Shown.{has_claim-append as claim-append}

pub no-claim : (c : Claim) → has_claim [] c ≡ false
unfolding has_claim
no-claim c = refl

pub claim-head : (d : Claim) (ys : List Claim) (c : Claim) → has_claim (d ∷ ys) c ≡ (same_claim c d || has_claim ys c)
unfolding has_claim
claim-head d ys c = refl

pub repeats-append : (xs ys : List Claim) → repeats xs ≡ false → repeats ys ≡ false → ((c : Claim) → has_claim xs c ≡ true → has_claim ys c ≡ true → ⊥) → repeats (xs ++ ys) ≡ false
unfolding repeats
repeats-append [] ys a b apart = b
repeats-append (x ∷ xs) ys a b apart =
    let p = or_parts (has_claim xs x) (repeats xs) a in
    let here : has_claim (x ∷ xs) x ≡ true = claim-head x xs x ∙ or_left (same_claim x x) (has_claim xs x) (same_claim-self x) in
    let lacks : has_claim ys x ≡ false = ⊎_elim (λ (e : has_claim ys x ≡ true). absurd (apart x here e)) (λ (e : has_claim ys x ≡ false). e) (cases_Bool (has_claim ys x)) in
    or_from (has_claim (xs ++ ys) x) (repeats (xs ++ ys)) (claim-append xs ys x ∙ or_from (has_claim xs x) (has_claim ys x) p.0 lacks)
    (repeats-append xs ys p.1 b (λ c h g. apart c (claim-head x xs c ∙ or_right (same_claim c x) (has_claim xs c) h) g))

-- the used blocks of its record are a loaded record's
pub contents-claims : (l : Loaded) (c : Claim) → has_claim (claims_of l.contents) c ≡ true → has_claim (all_claims l) c ≡ true
unfolding all_claims record_claims
contents-claims l c h = claim-append (claims_of l.node) (record_claims l) c ∙ or_right (has_claim (claims_of l.node) c) (has_claim (record_claims l) c) (claim-append (claims_of l.contents) (flat_map claims_of l.others) c ∙ or_left (has_claim (claims_of l.contents) c) (has_claim (flat_map claims_of l.others) c) h)

pub some-blocks : (w : ℕ) → 0 < block_count w
unfolding block_count
some-blocks w = omega arith

-- a word that is not 0 uses something
pub some-claim : (w : ℕ) → (w ≡ 0 → ⊥) → (c : Claim) × (has_claim (claims_of w) c ≡ true)
unfolding claims_of
some-claim w apart = ⊎_elim
    (λ (z : (eqb w 0 ≡ true) × (w ≡ 0)). absurd (apart z.1))
    (λ (z : (eqb w 0 ≡ false) × _). ⊎_elim
    (λ (k : (kind_of w == external) ≡ true). (ExternalOf (external_number w), rw (z.0, k) (claim-head (ExternalOf (external_number w)) [] (ExternalOf (external_number w)) ∙ or_left (same_claim (ExternalOf (external_number w)) (ExternalOf (external_number w))) (has_claim [] (ExternalOf (external_number w))) (same_claim-self (ExternalOf (external_number w))))))
    (λ (k : (kind_of w == external) ≡ false). (BlockOf (file_selector w) (first_block w), rw (z.0, k) (go (block_count w) (some-blocks w))))
    (cases_Bool (kind_of w == external)))
    (eqb_tells w 0) where
      go : (n : ℕ) → 0 < n → has_claim (map (λ b. BlockOf (file_selector w) b) (range_with_len (first_block w) n)) (BlockOf (file_selector w) (first_block w)) ≡ true
      go zero some = absurd (omega arith)
      go (suc n) some = claim-head (BlockOf (file_selector w) (first_block w)) (map (λ b. BlockOf (file_selector w) b) (range_with_len (first_block w + 1) n)) (BlockOf (file_selector w) (first_block w))
          ∙ or_left (same_claim (BlockOf (file_selector w) (first_block w)) (BlockOf (file_selector w) (first_block w))) (has_claim (map (λ b. BlockOf (file_selector w) b) (range_with_len (first_block w + 1) n)) (BlockOf (file_selector w) (first_block w))) (same_claim-self (BlockOf (file_selector w) (first_block w)))
