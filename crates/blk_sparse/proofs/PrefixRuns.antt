-- The run of present bytes that begins where it is asked for has as many as come before the first that is missing; and only that many are asked for again.
use Rattle.std.proofs.Common.{◌≡◌, ℕ, zero, suc, ◌+◌, ◌≤◌, List, [], ◌∷◌, map, length, refl, ap, sym, ◌∙◌, arith, Bool, true, false, Option, Some, None}
use Rattle.std.specs.Prelude.{◌==◌, is_some, take_while, if◌then◌else◌}
use Rattle.std.proofs.lemmas.Bool.{eqb-false, eqb-true}
use Rattle.blk_model.specs.Bytes.{numbers_from}
use Rattle.blk_model.specs.Sparse.{byte_at, first_run, present_run, sparse_bytes, up_to_missing}
use Rattle.blk_model.specs.State.{Object}
use Rattle.blk_sparse.specs.Reading.{byte_of_part, part_bytes}
use Rattle.blk_sparse.proofs.PresentRuns.{IsRunPrefix, run-front, while-false, while-true}

-- as many as pass the test at the front
missing-long : (f : ℕ → Option ℕ) (xs : List ℕ) → length (up_to_missing (map f xs)) ≡ length (take_while (λ p. is_some (f p)) xs)
missing-long f [] = refl
missing-long f (x ∷ xs) = by (missing-long f xs) (f x) refl where
  by : length (up_to_missing (map f xs)) ≡ length (take_while (λ p. is_some (f p)) xs) → (o : Option ℕ) → f x ≡ o → length (up_to_missing (f x ∷ map f xs)) ≡ length (take_while (λ p. is_some (f p)) (x ∷ xs))
  by later None e =
      ap (λ (o : Option ℕ). length (up_to_missing (o ∷ map f xs))) e
      ∙ sym (ap (λ (l : List ℕ). length l) (while-false (λ p. is_some (f p)) x xs (ap is_some e)))
  by later (Some b) e =
      ap (λ (o : Option ℕ). length (up_to_missing (o ∷ map f xs))) e
      ∙ ap suc later
      ∙ sym (ap (λ (l : List ℕ). length l) (while-true (λ p. is_some (f p)) x xs (ap is_some e)))

-- the length of the run, where it begins at once
abbrev pub front_of : (asked : ℕ) → ℕ × ℕ → ℕ
front_of asked run = if run.0 == asked then run.1 else 0

front-tested : (place count : ℕ) (run : ℕ × ℕ) (front : List ℕ) → IsRunPrefix place count run front → front_of place run ≡ length front
front-tested place count run front is = by (run.0 == place) refl where
  by : (b : Bool) → (run.0 == place) ≡ b → (if b then run.1 else 0) ≡ length front
  by true e = is.at_once (eqb-true run.0 place e)
  by false e = sym (is.later (eqb-false run.0 place e))

pub front-bytes : (object : Object) (offset count : ℕ) → front_of offset (present_run object offset count) ≡ length (sparse_bytes object offset count)
unfolding present_run sparse_bytes
front-bytes object offset count =
    front-tested offset count (first_run offset offset (map (λ p. is_some (byte_at object p)) (numbers_from offset count))) (take_while (λ p. is_some (byte_at object p)) (numbers_from offset count)) (run-front (λ p. is_some (byte_at object p)) offset count)
    ∙ sym (missing-long (byte_at object) (numbers_from offset count))

-- ---- asked for again

missing-again : (f : ℕ → Option ℕ) (first n asked : ℕ) → length (up_to_missing (map f (numbers_from first asked))) ≡ n → up_to_missing (map f (numbers_from first n)) ≡ up_to_missing (map f (numbers_from first asked))
unfolding numbers_from
missing-again f first zero zero long = refl
missing-again f first (suc n) zero long = absurd (omega (arith, long))
missing-again f first n (suc asked) long = by n (λ m. missing-again f (first + 1) m asked) long (f first) refl where
  by : (n : ℕ) → ((m : ℕ) → length (up_to_missing (map f (numbers_from (first + 1) asked))) ≡ m → up_to_missing (map f (numbers_from (first + 1) m)) ≡ up_to_missing (map f (numbers_from (first + 1) asked)))
      → length (up_to_missing (f first ∷ map f (numbers_from (first + 1) asked))) ≡ n → (o : Option ℕ) → f first ≡ o → up_to_missing (map f (numbers_from first n)) ≡ up_to_missing (f first ∷ map f (numbers_from (first + 1) asked))
  by zero later long None e = sym (ap (λ (o : Option ℕ). up_to_missing (o ∷ map f (numbers_from (first + 1) asked))) e)
  by (suc n) later long None e = absurd (let none : length (up_to_missing (f first ∷ map f (numbers_from (first + 1) asked))) ≡ 0 = ap (λ (o : Option ℕ). length (up_to_missing (o ∷ map f (numbers_from (first + 1) asked)))) e in omega (arith, none, long))
  by zero later long (Some b) e = absurd (let some : length (up_to_missing (f first ∷ map f (numbers_from (first + 1) asked))) ≡ suc (length (up_to_missing (map f (numbers_from (first + 1) asked)))) = ap (λ (o : Option ℕ). length (up_to_missing (o ∷ map f (numbers_from (first + 1) asked)))) e in omega (arith, some, long))
  by (suc n) later long (Some b) e =
      let some : length (up_to_missing (f first ∷ map f (numbers_from (first + 1) asked))) ≡ suc (length (up_to_missing (map f (numbers_from (first + 1) asked)))) = ap (λ (o : Option ℕ). length (up_to_missing (o ∷ map f (numbers_from (first + 1) asked)))) e in
      ap (λ (o : Option ℕ). up_to_missing (o ∷ map f (numbers_from (first + 1) n))) e
      ∙ ap (λ (l : List ℕ). b ∷ l) (later n (omega (arith, some, long)))
      ∙ sym (ap (λ (o : Option ℕ). up_to_missing (o ∷ map f (numbers_from (first + 1) asked))) e)

pub bytes-again : (object : Object) (offset n asked : ℕ) → n ≡ length (sparse_bytes object offset asked) → sparse_bytes object offset n ≡ sparse_bytes object offset asked
unfolding sparse_bytes
bytes-again object offset n asked long = missing-again (byte_at object) offset n asked (sym long)

-- no more than were asked for
missing-few : (f : ℕ → Option ℕ) (first asked : ℕ) → length (up_to_missing (map f (numbers_from first asked))) ≤ asked
unfolding numbers_from
missing-few f first zero = omega arith
missing-few f first (suc asked) = by (missing-few f (first + 1) asked) (f first) refl where
  by : length (up_to_missing (map f (numbers_from (first + 1) asked))) ≤ asked → (o : Option ℕ) → f first ≡ o → length (up_to_missing (f first ∷ map f (numbers_from (first + 1) asked))) ≤ suc asked
  by few None e = let none : length (up_to_missing (f first ∷ map f (numbers_from (first + 1) asked))) ≡ 0 = ap (λ (o : Option ℕ). length (up_to_missing (o ∷ map f (numbers_from (first + 1) asked)))) e in omega (arith, none)
  by few (Some b) e = let some : length (up_to_missing (f first ∷ map f (numbers_from (first + 1) asked))) ≡ suc (length (up_to_missing (map f (numbers_from (first + 1) asked)))) = ap (λ (o : Option ℕ). length (up_to_missing (o ∷ map f (numbers_from (first + 1) asked)))) e in omega (arith, some, few)

pub bytes-few : (object : Object) (offset asked : ℕ) → length (sparse_bytes object offset asked) ≤ asked
unfolding sparse_bytes
bytes-few object offset asked = missing-few (byte_at object) offset asked

pub bytes-of-part-few : (object : Object) (n place count : ℕ) → length (part_bytes object n place count) ≤ count
bytes-of-part-few object n place count = missing-few (byte_of_part object n) place count
