-- Sums and counts over lists in which one element is moved to the front.
use Rattle.std.proofs.Common.{◌≡◌, ℕ, ◌+◌, List, [], ◌∷◌, ◌++◌, refl, sym, ◌∙◌, ap, Bool, true, false, arith, Option, Some, None}
use Rattle.std.specs.Prelude.{◌||◌, ◌==◌}
use Rattle.std.specs.List.{cons_option, filter_map, flat_map, sum_by, count_by}
use Rattle.std.proofs.lemmas.Grind.{common_steps}
use Rattle.spec_format.specs.BlockFiles.{is_among}
use Rattle.spec_folder.specs.ListView.{Distinct}
use Rattle.spec_folder.specs.Loads.{Loaded}
use Rattle.law_folder.proofs.lists.Lists.{is_among-append, Distinct-without, has_not}

-- a number that adds up over a list
pub record AddsUp (f : List ℕ → ℕ) : Type 0 where
  pub more : (x : ℕ) (xs : List ℕ) → f (x ∷ xs) ≡ f (x ∷ []) + f xs

pub moved-same : (f : List ℕ → ℕ) → AddsUp f → (prefix : List ℕ) (x : ℕ) (suffix : List ℕ) → f (x ∷ prefix ++ suffix) ≡ f (prefix ++ x ∷ suffix)
moved-same f adds [] x suffix = refl
moved-same f adds (y ∷ prefix) x suffix =
    let a = moved-same f adds prefix x suffix in
    let b = adds.more x (y ∷ prefix ++ suffix) in
    let c = adds.more y (prefix ++ suffix) in
    let d = adds.more y (prefix ++ x ∷ suffix) in
    let e = adds.more x (prefix ++ suffix) in
    omega (arith, a, b, c, d, e)

count-append : (p : ℕ → Bool) (xs ys : List ℕ) → count_by p (xs ++ ys) ≡ count_by p xs + count_by p ys
count-append p [] ys = grind (arith, common_steps)
count-append p (x ∷ xs) ys = let e = count-append p xs ys in grind (arith, common_steps, e)

-- so do counts and sums of what lies at nodes
pub counts-add : (p : ℕ → Bool) (words : Loaded → List ℕ) (at : ℕ → Option Loaded) → AddsUp (λ nodes. count_by p (flat_map words (filter_map at nodes)))
counts-add p words at = record { more = λ x xs. go (at x) (filter_map at xs) } where
  go : (o : Option Loaded) (ls : List Loaded) → count_by p (flat_map words (cons_option o ls)) ≡ count_by p (flat_map words (cons_option o [])) + count_by p (flat_map words ls)
  go None ls = omega arith
  go (Some l) ls = let a = count-append p (words l) (flat_map words ls) in let b = count-append p (words l) [] in omega (arith, a, b)

pub sums-add : (f : Loaded → ℕ) (at : ℕ → Option Loaded) → AddsUp (λ nodes. sum_by f (filter_map at nodes))
sums-add f at = record { more = λ x xs. go (at x) (filter_map at xs) } where
  go : (o : Option Loaded) (ls : List Loaded) → sum_by f (cons_option o ls) ≡ sum_by f (cons_option o []) + sum_by f ls
  go None ls = grind (arith, common_steps)
  go (Some l) ls = grind (arith, common_steps)

-- the same words
pub moved-among : (prefix : List ℕ) (x : ℕ) (suffix : List ℕ) (w : ℕ) → is_among (x ∷ prefix ++ suffix) w ≡ is_among (prefix ++ x ∷ suffix) w
moved-among prefix x suffix w =
    ap (λ (b : Bool). (x == w) || b) (is_among-append prefix suffix w) ∙ swap (x == w) (is_among prefix w) (is_among suffix w) ∙ sym (is_among-append prefix (x ∷ suffix) w) where
      swap : (p q s : Bool) → (p || (q || s)) ≡ (q || (p || s))
      swap true true s = refl
      swap true false s = refl
      swap false q s = refl

pub moved-distinct : (prefix : List ℕ) (x : ℕ) (suffix : List ℕ) → Distinct (prefix ++ x ∷ suffix) → Distinct (x ∷ prefix ++ suffix)
moved-distinct prefix x suffix d = (has_not prefix x suffix d, Distinct-without prefix x suffix d)
