-- A permutation of words is one of those that pass a test.
use Rattle.std.proofs.Common.{ℕ, zero, suc, ◌<◌, Bool, true, false, List, [], ◌∷◌, filter, length, get_or, set, swap, arith, ⊎_elim, ◌≡◌}
use Rattle.std.specs.List.Sorted.{IsPermutation}
use Rattle.std.proofs.lemmas.Bool.{cases_Bool}
use Rattle.std.proofs.lemmas.List.Sorted.{IsPermutation-append_comm, IsPermutation-append_left, IsPermutation-cons, IsPermutation-keeps, IsPermutation-refl, IsPermutation-trans}

module _ (p : ℕ → Bool) where
  abbrev R : List ℕ → List ℕ → Type 0
  R xs ys = IsPermutation (filter p xs) (filter p ys)

  skip : (x : ℕ) (xs ys : List ℕ) → R xs ys → R (x ∷ xs) (x ∷ ys)
  skip x xs ys h = ⊎_elim
      (λ (e : p x ≡ true). rw e (IsPermutation-cons x (filter p xs) (filter p ys) h))
      (λ (e : p x ≡ false). rw e h)
      (cases_Bool (p x))

  turn : (x y : ℕ) (xs : List ℕ) → R (x ∷ y ∷ xs) (y ∷ x ∷ xs)
  turn x y xs = ⊎_elim
      (λ (a : p x ≡ true). ⊎_elim
      (λ (b : p y ≡ true). rw (a, b) (IsPermutation-append_left (filter p xs) (x ∷ y ∷ []) (y ∷ x ∷ []) (IsPermutation-append_comm (x ∷ []) (y ∷ []))))
      (λ (b : p y ≡ false). rw (a, b) (IsPermutation-refl (x ∷ filter p xs)))
      (cases_Bool (p y)))
      (λ (a : p x ≡ false). ⊎_elim
      (λ (b : p y ≡ true). rw (a, b) (IsPermutation-refl (y ∷ filter p xs)))
      (λ (b : p y ≡ false). rw (a, b) (IsPermutation-refl (filter p xs)))
      (cases_Bool (p y)))
      (cases_Bool (p x))

  chain : (xs ys zs : List ℕ) → R xs ys → R ys zs → R xs zs
  chain xs ys zs one two = IsPermutation-trans (filter p xs) (filter p ys) (filter p zs) one two

  to-head : (l : List ℕ) (j : ℕ) (x d : ℕ) → j < length l → R (x ∷ l) (get_or l j d ∷ set l j x)
  to-head [] j x d h = absurd (omega (arith, h))
  to-head (y ∷ l) zero x d h = turn x y l
  to-head (y ∷ l) (suc j) x d h =
      chain (x ∷ y ∷ l) (y ∷ x ∷ l) (get_or l j d ∷ y ∷ set l j x) (turn x y l)
      (chain (y ∷ x ∷ l) (y ∷ get_or l j d ∷ set l j x) (get_or l j d ∷ y ∷ set l j x) (skip y (x ∷ l) (get_or l j d ∷ set l j x) (to-head l j x d (omega (arith, h)))) (turn y (get_or l j d) (set l j x)))

  exchanged : (l : List ℕ) (i j : ℕ) (d : ℕ) → i < length l → j < length l → R l (set (set l i (get_or l j d)) j (get_or l i d))
  exchanged [] i j d a b = absurd (omega (arith, a))
  exchanged (x ∷ l) zero zero d a b = IsPermutation-refl (filter p (x ∷ l))
  exchanged (x ∷ l) zero (suc j) d a b = to-head l j x d (omega (arith, b))
  exchanged (x ∷ l) (suc i) zero d a b = to-head l i x d (omega (arith, a))
  exchanged (x ∷ l) (suc i) (suc j) d a b = skip x l (set (set l i (get_or l j d)) j (get_or l i d)) (exchanged l i j d (omega (arith, a)) (omega (arith, b)))

  swapped : (l : List ℕ) (i j : ℕ) → i < length l → j < length l → R l (swap l i j)
  swapped [] i j a b = IsPermutation-refl []
  swapped (x ∷ l) i j a b = exchanged (x ∷ l) i j x a b

  pub filtered-alike : (xs ys : List ℕ) → IsPermutation xs ys → IsPermutation (filter p xs) (filter p ys)
  filtered-alike xs = IsPermutation-keeps xs (R xs) (IsPermutation-refl (filter p xs)) (λ l i j a b h. chain xs l (swap l i j) h (swapped l i j a b))
