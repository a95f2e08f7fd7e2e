-- Different numbers below a bound, and chains by their first blocks.
use Rattle.std.proofs.Common.{◌≡◌, ◌≢◌, ⊎_elim, ℕ, zero, suc, ◌^◌, ◌<◌, ◌≤◌, true, false, List, [], ◌∷◌, length, map, refl, sym, ◌∙◌, ap, arith}
use Rattle.std.specs.Prelude.{◌==◌, not}
use Rattle.std.specs.List.{filter}
use Rattle.std.proofs.lemmas.Bool.{or_parts, or_cases, or_left, and_parts, eq-eqb, eqb-true}
use Rattle.std.proofs.lemmas.List.{length-map}
use Rattle.std.proofs.lemmas.Bool.Decides.{eqb_tells}
use Rattle.std.proofs.Math.Dec.{eqb}
use Rattle.spec_format.specs.BlockFiles.{is_among}
use Rattle.spec_folder.specs.ListView.{Distinct}
use Rattle.spec_folder.specs.Chains.{file_and_block}
use Rattle.law_folder.specs.ListLaws.{WholeChainsAreShort}
use Rattle.law_folder.proofs.walks.Shown.{is_among-filter, Distinct-filter}

-- a list without a number that it hasn't is the same list
pub unchanged : (n : ℕ) (xs : List ℕ) → is_among xs n ≡ false → filter (λ x. not (x == n)) xs ≡ xs
unchanged n [] e = refl
unchanged n (x ∷ xs) e = let p = or_parts (x == n) (is_among xs n) e in rw p.0 (ap (λ (ys : List ℕ). x ∷ ys) (unchanged n xs p.1))

-- without one number a list of different numbers is shorter by one at most
one-less : (n : ℕ) (xs : List ℕ) → Distinct xs → length xs ≤ suc (length (filter (λ x. not (x == n)) xs))
one-less n [] d = omega arith
one-less n (x ∷ xs) d = ⊎_elim
    (λ (e : (eqb x n ≡ true) × (x ≡ n)). let gone : is_among xs n ≡ false = ap (is_among xs) (sym e.1) ∙ d.0 in rw (e.0, unchanged n xs gone) (omega arith))
    (λ (e : (eqb x n ≡ false) × (x ≢ n)). rw e.0 (let more : length xs ≤ suc (length (filter (λ y. not (y == n)) xs)) = one-less n xs d.1 in omega (arith, more)))
    (eqb_tells x n)

-- different numbers below a bound are no more than the bound
pub at-most : (n : ℕ) (xs : List ℕ) → Distinct xs → ((x : ℕ) → is_among xs x ≡ true → x < n) → length xs ≤ n
at-most n [] d below = omega arith
at-most zero (x ∷ xs) d below = let none : x < 0 = below x (or_left (x == x) (is_among xs x) (eq-eqb x x refl)) in absurd (omega (arith, none))
at-most (suc n) (x ∷ xs) d below =
    let rest : length (filter (λ y. not (y == n)) (x ∷ xs)) ≤ n = at-most n (filter (λ y. not (y == n)) (x ∷ xs)) (Distinct-filter (λ y. not (y == n)) (x ∷ xs) d) smaller in
    let one : length (x ∷ xs) ≤ suc (length (filter (λ y. not (y == n)) (x ∷ xs))) = one-less n (x ∷ xs) d in
    omega (arith, rest, one) where
      smaller : (z : ℕ) → is_among (filter (λ y. not (y == n)) (x ∷ xs)) z ≡ true → z < n
      smaller z among =
          let both = and_parts (not (z == n)) (is_among (x ∷ xs) z) (sym (is_among-filter (λ y. not (y == n)) (x ∷ xs) z) ∙ among) in
          let most : z < suc n = below z both.1 in
          ⊎_elim
          (λ (e : (eqb z n ≡ true) × (z ≡ n)). absurd (let c : false ≡ true = ap not (sym e.0) ∙ both.0 in cc))
          (λ (e : (eqb z n ≡ false) × (z ≢ n)). let apart : z ≢ n = e.1 in omega (arith, most, apart))
          (eqb_tells z n)

-- a first block is that of one of the words
pub below-all : (words : List ℕ) (x : ℕ) → is_among (map file_and_block words) x ≡ true → x < 2 ^ 24
below-all [] x h = cc
below-all (w ∷ words) x h = ⊎_elim (λ (e : (file_and_block w == x) ≡ true). let is : file_and_block w ≡ x = eqb-true (file_and_block w) x e in omega (arith, is)) (λ (e : is_among (map file_and_block words) x ≡ true). below-all words x e) (or_cases (file_and_block w == x) (is_among (map file_and_block words) x) h)

pub chains-short : WholeChainsAreShort
chains-short v b words is =
    let most : length (map file_and_block words) ≤ 2 ^ 24 = at-most (2 ^ 24) (map file_and_block words) is.once (below-all words) in
    omega (arith, most, length-map words file_and_block)
