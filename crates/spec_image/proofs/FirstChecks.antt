-- The first check that fails.
use Rattle.std.proofs.Common.{◌≡◌, ℕ, zero, suc, Bool, true, false, List, [], ◌∷◌, ◌++◌, get_or, Option, None, Some, refl}
use Rattle.spec_image.specs.Image.{File}
use Rattle.spec_image.specs.Checks.{Damage, first_of, check_found}

-- checks of which one fails, and further ones
pub append_some : (xs ys : List (Option Damage)) (d : Damage) → first_of xs ≡ Some d → first_of (xs ++ ys) ≡ Some d
append_some [] ys d e = absurd (clash e)
  where
    clash : None ≡ Some d → ⊥
    clash c = cc
append_some (None ∷ xs) ys d e = append_some xs ys d e
append_some (Some x ∷ xs) ys d e = e

-- checks of which none fails, and further ones
pub append_none : (xs ys : List (Option Damage)) → first_of xs ≡ None → first_of (xs ++ ys) ≡ first_of ys
append_none [] ys e = refl
append_none (None ∷ xs) ys e = append_none xs ys e
append_none (Some x ∷ xs) ys e = absurd (clash e)
  where
    clash : Some x ≡ None → ⊥
    clash c = cc

-- where no check fails, each passes
pub all_none : (xs : List (Option Damage)) → first_of xs ≡ None → (k : ℕ) → get_or xs k None ≡ None
all_none [] e k = refl
all_none (None ∷ xs) e zero = refl
all_none (None ∷ xs) e (suc k) = all_none xs e k
all_none (Some d ∷ xs) e k = absurd (clash e)
  where
    clash : Some d ≡ None → ⊥
    clash c = cc

-- a check that passed
pub passed : (file : File) (at found : ℕ) (holds : Bool) → check_found file at found holds ≡ None → holds ≡ true
passed file at found true e = refl
passed file at found false e = absurd (clash (record { file = file; at = at; found = found }) e)
  where
    clash : (d : Damage) → Some d ≡ None → ⊥
    clash d c = cc
