-- The first check that fails.
use Rattle.std.specs.Prelude.{nat_le}
use Rattle.std.proofs.Common.{inr, ◌%◌, ◌^◌, ◌==◌, ◌-◌, ◌≡◌, ℕ, ◌+◌, Bool, true, false, if◌then◌else◌, List, None, Some, refl, arith, ◌≤◌}
use Rattle.std.proofs.lemmas.Bool.Decides.{nat_tests}
use Rattle.spec_image.specs.Image.{Block}
use Rattle.spec_image.specs.Checks.{first_of}
use Rattle.spec_image.proofs.FirstChecks.{all_none, passed}
use Rattle.spec_format.specs.BlockFiles.{file_checks, is_link}
use Rattle.blk_disk.specs.Loading.{HasRoom, MayBeNext, next_of}

-- the length of a file whose checks hold
pub length_passed : (kind : ℕ) (met : List ℕ) (left n : ℕ) (f : ℕ → ℕ) (size : ℕ) → first_of (file_checks kind met left n f size) ≡ None → 8192 ≤ size
unfolding file_checks
length_passed kind met left n f size none =
    let test : nat_le 8192 size ≡ true = passed (Block n) 8192 (size % 2 ^ 32) (nat_le 8192 size) (all_none (file_checks kind met left n f size) none 0) in
    grind (arith, nat_tests)

-- a link has space, after one more file
pub link_room : (met : List ℕ) (count next : ℕ) → is_link met (59 - count) next ≡ true → HasRoom (count + 1) (next_of next)
unfolding is_link
link_room met count next holds = by_test (next == 0) refl
  where
    by_test : (t : Bool) → (next == 0) ≡ t → HasRoom (count + 1) (if t then None else Some next)
    by_test true e = tt
    by_test false e = grind (arith, nat_tests)

-- a link has a number that links have
pub link_number : (kind : ℕ) (met : List ℕ) (left next : ℕ) → is_link met left next ≡ true → MayBeNext kind (next_of next)
unfolding is_link
link_number kind met left next holds = by_test (next == 0) refl
  where
    by_test : (t : Bool) → (next == 0) ≡ t → MayBeNext kind (if t then None else Some next)
    by_test true e = tt
    by_test false e = let low : 4 ≤ next = grind (arith, nat_tests) in let high : next ≤ 255 = grind (arith, nat_tests) in inr (low, high)
