-- Slots with a number or none: how many have a number, and how many different ones there are.
use Rattle.std.proofs.Common.{◌≡◌, ℕ, zero, suc, ◌+◌, ◌<◌, ◌≤◌, ltb, Bool, true, false, List, [], ◌∷◌, length, set, get_or, map, Option, Some, None, cond, count_by, refl, sym, ap, ◌∙◌, inl, inr, arith}
use Rattle.std.specs.Prelude.{◌||◌}
use Rattle.std.specs.List.{list_any, position}
use Rattle.std.proofs.lemmas.Bool.{cases_eq, cases_Bool}
use Rattle.std.proofs.lemmas.Bool.Decides.{nat_tests}
use Rattle.std.proofs.lemmas.List.Sums.{sum_by-cons, position_or_len_is}
use Rattle.blk_model.specs.State.{is_number}
use Rattle.blk_handles.specs.Bindings.{distinct_count}

-- a function on slots is the same where each slot gives the same
pub same-slots : {A B : Type 0} (f g : Option A → B) (xs : List (Option A)) → f None ≡ g None → ((i : ℕ) (a : A) → get_or xs i None ≡ Some a → f (Some a) ≡ g (Some a)) → map f xs ≡ map g xs
same-slots f g [] free each = refl
same-slots {A} {B} f g (x ∷ xs) free each = let rest = same-slots f g xs free (λ i a is. each (suc i) a is) in rw (rest, first x (λ a is. each 0 a is)) refl where
  first : (x : Option A) → ((a : A) → x ≡ Some a → f (Some a) ≡ g (Some a)) → f x ≡ g x
  first None each = free
  first (Some a) each = each a refl

-- a test of what a function gives, as one test
pub list_any-map : {A B : Type 0} (p : B → Bool) (f : A → B) (xs : List A) → list_any p (map f xs) ≡ list_any (λ x. p (f x)) xs
list_any-map p f [] = refl
list_any-map p f (x ∷ xs) = ap (λ b. p (f x) || b) (list_any-map p f xs)

pub count_by-map : {A B : Type 0} (p : B → Bool) (f : A → B) (xs : List A) → count_by p (map f xs) ≡ count_by (λ x. p (f x)) xs
count_by-map p f [] = refl
count_by-map p f (x ∷ xs) = omega (arith, count_by-map p f xs, sum_by-cons (λ y. cond (p y) 1 0) (f x) (map f xs), sum_by-cons (λ y. cond (p (f y)) 1 0) x xs)

-- two tests that agree
pub list_any-same : {A : Type 0} (p q : A → Bool) (xs : List A) → ((x : A) → p x ≡ q x) → list_any p xs ≡ list_any q xs
list_any-same p q [] same = refl
list_any-same p q (x ∷ xs) same = rw (same x, list_any-same p q xs same) refl

one : {b c : Bool} → b ≡ c → cond {A = ℕ} b 1 0 ≡ cond c 1 0
one e = ap {B = ℕ} (λ b. cond b 1 0) e

pub count_by-same : {A : Type 0} (p q : A → Bool) (xs : List A) → ((x : A) → p x ≡ q x) → count_by p xs ≡ count_by q xs
count_by-same p q [] same = refl
count_by-same p q (x ∷ xs) same = omega (arith, count_by-same p q xs same, sum_by-cons (λ y. cond (p y) 1 0) x xs, sum_by-cons (λ y. cond (q y) 1 0) x xs, one (same x))

-- a count is above 0 exactly where the test passes somewhere
pub count_by-zero : {A : Type 0} (p : A → Bool) (xs : List A) → list_any p xs ≡ false → count_by p xs ≡ 0
count_by-zero p [] none = refl
count_by-zero p (x ∷ xs) none = grind (arith, count_by-zero p xs, sum_by-cons (λ y. cond (p y) 1 0) x xs)

pub list_any-counted : {A : Type 0} (p : A → Bool) (xs : List A) → 0 < count_by p xs → list_any p xs ≡ true
list_any-counted p xs some = elim (cases_Bool (list_any p xs)) [
  | inl passes ↦ passes
  | inr fails ↦ absurd (omega (arith, some, count_by-zero p xs fails))
]

pub list_any-uncounted : {A : Type 0} (p : A → Bool) (xs : List A) → count_by p xs ≡ 0 → list_any p xs ≡ false
list_any-uncounted p [] none = refl
list_any-uncounted p (x ∷ xs) none = grind (arith, list_any-uncounted p xs, sum_by-cons (λ y. cond (p y) 1 0) x xs)

-- no slot passes where none is counted
pub not-counted : {A : Type 0} (p : Option A → Bool) (xs : List (Option A)) → p None ≡ false → count_by p xs ≡ 0 → (i : ℕ) → p (get_or xs i None) ≡ false
not-counted p [] free none i = free
not-counted p (x ∷ xs) free none zero = grind (arith, sum_by-cons (λ y. cond (p y) 1 0) x xs)
not-counted p (x ∷ xs) free none (suc i) = not-counted p xs free (omega (arith, sum_by-cons (λ y. cond (p y) 1 0) x xs)) i

-- a slot that passes is counted
pub counted : {A : Type 0} (p : Option A → Bool) (xs : List (Option A)) (i : ℕ) → p None ≡ false → p (get_or xs i None) ≡ true → 0 < count_by p xs
counted p xs i free is = elim (cases_eq (count_by p xs) 0) [
  | inl none ↦ absurd (let no = not-counted p xs free none i in let e = sym no ∙ is in cc)
  | inr some ↦ omega arith
]

-- a count where one slot is written
pub count_by-set : {A : Type 0} (p : A → Bool) (xs : List A) (i : ℕ) (d y : A) → i < length xs → count_by p (set xs i y) + cond (p (get_or xs i d)) 1 0 ≡ count_by p xs + cond (p y) 1 0
count_by-set p [] i d y within = absurd (omega (arith, within))
count_by-set p (x ∷ xs) zero d y within = omega (arith, sum_by-cons (λ z. cond (p z) 1 0) x xs, sum_by-cons (λ z. cond (p z) 1 0) y xs)
count_by-set p (x ∷ xs) (suc i) d y within = omega (arith, count_by-set p xs i d y (omega arith), sum_by-cons (λ z. cond (p z) 1 0) x xs, sum_by-cons (λ z. cond (p z) 1 0) x (set xs i y))

-- a test where a free slot gets a number
pub list_any-set : {A : Type 0} (p : Option A → Bool) (xs : List (Option A)) (i : ℕ) (y : Option A) → p None ≡ false → i < length xs → get_or xs i None ≡ None → list_any p (set xs i y) ≡ (p y || list_any p xs)
list_any-set p [] i y free within is = absurd (omega (arith, within))
list_any-set p (x ∷ xs) zero y free within is = rw (is, free) refl
list_any-set p (x ∷ xs) (suc i) y free within is = grind (arith, list_any-set p xs i y free (omega arith) is)

-- a free slot that gets a number adds one exactly where no slot had the number
pub distinct_count-set : (xs : List (Option ℕ)) (i k : ℕ) → i < length xs → get_or xs i None ≡ None → distinct_count (set xs i (Some k)) ≡ cond (list_any (is_number k) xs) 0 1 + distinct_count xs
distinct_count-set [] i k within is = absurd (omega (arith, within))
distinct_count-set (None ∷ xs) zero k within is = refl
distinct_count-set (Some n ∷ xs) zero k within is = cc
distinct_count-set (None ∷ xs) (suc i) k within is = distinct_count-set xs i k (omega arith) is
distinct_count-set (Some n ∷ xs) (suc i) k within is =
    let rest = distinct_count-set xs i k (omega arith) is in
    let any = list_any-set (is_number n) xs i (Some k) refl (omega arith) is in
    elim (cases_eq n k) [
      | inl same ↦ grind (arith, nat_tests)
      | inr other ↦ grind (arith, nat_tests)
    ]

-- there are no more different numbers than slots, and fewer where one is free
distinct_count-le : (xs : List (Option ℕ)) → distinct_count xs ≤ length xs
distinct_count-le [] = omega arith
distinct_count-le (None ∷ xs) = omega (arith, distinct_count-le xs)
distinct_count-le (Some n ∷ xs) = grind (arith, distinct_count-le xs)

pub distinct_count-free : (xs : List (Option ℕ)) (i : ℕ) → i < length xs → get_or xs i None ≡ None → distinct_count xs < length xs
distinct_count-free [] i within is = absurd (omega (arith, within))
distinct_count-free (None ∷ xs) zero within is = omega (arith, distinct_count-le xs)
distinct_count-free (Some n ∷ xs) zero within is = cc
distinct_count-free (None ∷ xs) (suc i) within is = omega (arith, distinct_count-free xs i (omega arith) is)
distinct_count-free (Some n ∷ xs) (suc i) within is = grind (arith, distinct_count-free xs i (omega arith) is)

-- the first place that passes, and none
pub position-first : {A : Type 0} (p : A → Bool) (xs : List A) (i : ℕ) (d : A) → i < length xs → ((k : ℕ) → k < i → p (get_or xs k d) ≡ false) → p (get_or xs i d) ≡ true → position p xs ≡ Some i
position-first p xs i d within before passes =
    let at = position_or_len_is p xs i d (omega (arith, within)) before (λ small. passes) in
    let small : ltb i (length xs) ≡ true = grind (arith, nat_tests, within) in
    rw (at, small) refl

pub position-none : {A : Type 0} (p : A → Bool) (xs : List A) (d : A) → ((k : ℕ) → k < length xs → p (get_or xs k d) ≡ false) → position p xs ≡ None
position-none p xs d fails =
    let at = position_or_len_is p xs (length xs) d (omega arith) fails (λ small. absurd (omega (arith, small))) in
    let past : ltb (length xs) (length xs) ≡ false = grind (arith, nat_tests) in
    rw (at, past) refl
