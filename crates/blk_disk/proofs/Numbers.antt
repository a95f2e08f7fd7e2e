-- The least number that no linked file has.
use Rattle.std.proofs.Common.{◌≡◌, ℕ, zero, suc, ◌+◌, ◌<◌, ◌≤◌, Bool, true, false, ◌||◌, if◌then◌else◌, List, [], ◌∷◌, length, nat_eq, refl, sym, ◌∙◌, ap, ap₂, arith, ⊎_elim}
use Rattle.std.specs.Prelude.{◌==◌}
use Rattle.std.specs.List.{list_any}
use Rattle.std.proofs.lemmas.Bool.{cases_lt}
use Rattle.std.proofs.lemmas.Bool.Decides.{nat_tests}
use Rattle.std.proofs.lemmas.Map.Steps.{le-length_from_below}
use Rattle.spec_format.specs.BlockFiles.{is_among}
use Rattle.blk_disk.specs.declared.tables.BlockFiles.{BlockFiles}
use Rattle.blk_disk.specs.Tables.{all_files}
use Rattle.blk_disk.specs.Growth.{IsLeastFileNumber, free_number, least_from}

differ : (b : Bool) → b ≡ true → b ≡ false → ⊥
differ b e d = cc

-- what is found is the least
pub least_is : (numbers : List ℕ) (turns start n : ℕ) → start ≤ n → n < start + turns → is_among numbers n ≡ false → ((m : ℕ) → start ≤ m → m < n → is_among numbers m ≡ true) → least_from numbers turns start ≡ n
unfolding least_from
least_is numbers zero start n low high free taken = absurd (omega arith)
least_is numbers (suc turns) start n low high free taken =
    by_test (is_among numbers start) refl (λ less. least_is numbers turns (start + 1) n less (omega arith) free (λ m from below. taken m (omega arith) below))
  where
    by_test : (t : Bool) → is_among numbers start ≡ t → (start + 1 ≤ n → least_from numbers turns (start + 1) ≡ n) → (if t then least_from numbers turns (start + 1) else start) ≡ n
    by_test true e more = ⊎_elim (λ (less : start < n). more (omega arith)) (λ (upto : n ≤ start). let same : start ≡ n = omega arith in absurd (differ (is_among numbers n) (ap (is_among numbers) (sym same) ∙ e) free)) (cases_lt start n)
    by_test false e more = ⊎_elim (λ (less : start < n). absurd (differ (is_among numbers start) (taken start (omega arith) less) e)) (λ (upto : n ≤ start). omega arith) (cases_lt start n)

pub free_is : (files : BlockFiles) (n : ℕ) → IsLeastFileNumber files n → free_number files ≡ n
unfolding free_number
free_is files n least = least_is (all_files files) 252 4 n least.least_number (let small = least.most_number in omega (arith, small)) least.free least.taken

-- the test for a member, with its sides changed
any_same : (xs : List ℕ) (q : ℕ) → is_among xs q ≡ list_any (nat_eq q) xs
any_same [] q = refl
any_same (x ∷ xs) q = ap₂ (λ (a b : Bool). a || b) (let e : (x == q) ≡ nat_eq q x = grind (arith, nat_tests) in e) (any_same xs q)

-- a list of so many numbers doesn't have one number more from 4 on
pub one_free : (xs : List ℕ) → ((m : ℕ) → 4 ≤ m → m < 4 + length xs + 1 → is_among xs m ≡ true) → ⊥
one_free xs all =
    let long = le-length_from_below (0 ∷ 1 ∷ 2 ∷ 3 ∷ xs) (4 + length xs + 1) (λ q below. sym (any_same (0 ∷ 1 ∷ 2 ∷ 3 ∷ xs) q) ∙ among q below) in
    omega (arith, long)
  where
    or_true : (a b : Bool) → b ≡ true → (a || b) ≡ true
    or_true true b e = refl
    or_true false b e = e

    among : (q : ℕ) → q < 4 + length xs + 1 → is_among (0 ∷ 1 ∷ 2 ∷ 3 ∷ xs) q ≡ true
    among zero below = refl
    among (suc zero) below = refl
    among (suc (suc zero)) below = refl
    among (suc (suc (suc zero))) below = refl
    among (suc (suc (suc (suc q)))) below =
        let n : ℕ = suc (suc (suc (suc q))) in
        or_true (0 == n) (is_among (1 ∷ 2 ∷ 3 ∷ xs) n) (or_true (1 == n) (is_among (2 ∷ 3 ∷ xs) n) (or_true (2 == n) (is_among (3 ∷ xs) n) (or_true (3 == n) (is_among xs n) (all n (omega arith) below))))
