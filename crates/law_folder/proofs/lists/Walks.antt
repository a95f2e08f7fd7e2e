-- The walk of a whole list.
use Rattle.std.proofs.Common.{◌≡◌, ℕ, zero, suc, ◌≤◌, ◌≢◌, Bool, false, eqb, List, [], ◌∷◌, length, refl, ap, ◌∙◌, arith}
use Rattle.std.proofs.lemmas.Bool.Decides.{nat_tests}
use Rattle.std.proofs.lemmas.Bool.{or_parts}
use Rattle.spec_folder.specs.ListView.{ListView, Segment, Joined, Distinct, last_or, IsList}
use Rattle.spec_format.specs.BlockFiles.{is_among}
use Rattle.spec_folder.specs.Walk.{walk, walk_from}

-- none of the nodes is in `met`
abbrev pub Fresh : List ℕ → List ℕ → Type 0
Fresh met [] = Unit {0}
Fresh met (x ∷ xs) = (is_among met x ≡ false) × Fresh met xs

pub Fresh-none : (xs : List ℕ) → Fresh [] xs
Fresh-none [] = tt
Fresh-none (x ∷ xs) = (refl, Fresh-none xs)

-- one more that is met, which is none of these
pub Fresh-more : (met : List ℕ) (w : ℕ) (xs : List ℕ) → is_among xs w ≡ false → Fresh met xs → Fresh (w ∷ met) xs
Fresh-more met w [] lacks fresh = tt
Fresh-more met w (x ∷ xs) lacks fresh =
    (or_left_of x w met (or_parts (eqb x w) (is_among xs w) lacks).0 fresh.0, Fresh-more met w xs (or_parts (eqb x w) (is_among xs w) lacks).1 fresh.1)
  where
    or_left_of : (x w : ℕ) (met : List ℕ) → eqb x w ≡ false → is_among met x ≡ false → is_among (w ∷ met) x ≡ false
    or_left_of x w met ne lacks = grind (arith, nat_tests)

walk_from_zero : (checks : ℕ → Bool) (next prev : ℕ → ℕ) (k : ℕ) (met : List ℕ) (before w : ℕ) → checks w ≡ false → walk_from checks next prev k met before w ≡ []
unfolding walk_from
walk_from_zero checks next prev zero met before w bad = refl
walk_from_zero checks next prev (suc k) met before w bad = rw bad

module _ (checks : ℕ → Bool) (next prev : ℕ → ℕ) where
  last_node : (k : ℕ) (met : List ℕ) (before w : ℕ) → Joined checks next prev before w w → is_among met w ≡ false → walk_from checks next prev (suc k) met before w ≡ w ∷ []
  unfolding walk_from
  last_node k met before w joined fresh =
      let n = joined.next_is in let g = joined.good in let p = joined.prev_is in grind (arith, nat_tests)

  next_node : (k : ℕ) (met : List ℕ) (before w y : ℕ) → Joined checks next prev before w y → is_among met w ≡ false → w ≢ y → walk_from checks next prev (suc k) met before w ≡ w ∷ walk_from checks next prev k (w ∷ met) w y
  unfolding walk_from
  next_node k met before w y joined fresh ne =
      let n = joined.next_is in let g = joined.good in let p = joined.prev_is in grind (arith, nat_tests)

  pub walk_segment : (k : ℕ) (met : List ℕ) (before w : ℕ) (xs : List ℕ) → length xs ≤ k → Distinct (w ∷ xs) → Fresh met (w ∷ xs) → Segment checks next prev before (w ∷ xs) (last_or w xs)
      → walk_from checks next prev (suc k) met before w ≡ w ∷ xs
  walk_segment k met before w [] few distinct fresh segment = last_node k met before w segment.0 fresh.0
  walk_segment zero met before w (x ∷ xs) few distinct fresh segment = absurd (omega arith)
  walk_segment (suc k) met before w (x ∷ xs) few distinct fresh segment =
      let ne : w ≢ x = λ e. grind (arith, nat_tests, distinct.0) in
      let rest = walk_segment k (w ∷ met) w x xs (omega arith) distinct.1 (Fresh-more met w (x ∷ xs) distinct.0 fresh.1) segment.1 in
      next_node (suc k) met before w x segment.0 fresh.0 ne ∙ ap (λ (l : List ℕ). w ∷ l) rest

pub walk_list : (l : ListView) (nodes : List ℕ) → IsList l nodes → walk l ≡ nodes
unfolding walk
walk_list l [] list = rw list.head_is (walk_from_zero l.checks l.next l.prev 131072 [] 0 0 list.no_zero)
walk_list l (x ∷ xs) list = rw list.head_is (walk_segment l.checks l.next l.prev 131071 [] x x xs (omega (arith, list.few)) list.distinct (Fresh-none (x ∷ xs)) list.linked)
