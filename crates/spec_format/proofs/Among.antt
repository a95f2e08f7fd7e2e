-- Whether a number is in a list of files.
use Rattle.std.proofs.Common.{◌≡◌, ℕ, Bool, ◌||◌, List, [], ◌∷◌, ◌++◌, ◌∙◌, ap}
use Rattle.std.specs.Prelude.{◌==◌}
use Rattle.std.proofs.lemmas.List.Folds.{list_any-append}
use Rattle.std.proofs.Math.Bool.{or-false}
use Rattle.spec_format.specs.BlockFiles.{is_among}

pub is_among-append : (xs ys : List ℕ) (n : ℕ) → is_among (xs ++ ys) n ≡ (is_among xs n || is_among ys n)
is_among-append xs ys n = list_any-append (λ m. m == n) xs ys

-- one more file
pub is_among_more : (xs : List ℕ) (x n : ℕ) → is_among (xs ++ x ∷ []) n ≡ (is_among xs n || (x == n))
is_among_more xs x n = is_among-append xs (x ∷ []) n ∙ ap (λ (b : Bool). is_among xs n || b) (or-false (x == n))
