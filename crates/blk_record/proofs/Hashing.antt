-- The hash of bytes, a step at a time.
use Rattle.std.proofs.Common.{◌≡◌, ℕ, ◌-◌, ◌<◌, ◌≤◌, ◌%◌, ◌^◌, List, [], ◌∷◌, length, take, drop, get_or, refl, sym, ◌∙◌, arith, length-drop}
use Rattle.std.proofs.lemmas.List.{take_all}
use Rattle.spec_format.specs.Hash.{hash, mixed, of_bytes, of_four, of_three, of_two, of_one}

pub of_bytes-four : (h : ℕ) (xs : List ℕ) → 4 ≤ length xs → of_bytes h xs ≡ of_bytes (of_four h (get_or xs 0 0) (get_or xs 1 0) (get_or xs 2 0) (get_or xs 3 0)) (drop 4 xs)
unfolding of_bytes
of_bytes-four h (a ∷ b ∷ c ∷ d ∷ rest) enough = refl
of_bytes-four h (a ∷ b ∷ c ∷ []) enough = absurd (omega arith)
of_bytes-four h (a ∷ b ∷ []) enough = absurd (omega arith)
of_bytes-four h (a ∷ []) enough = absurd (omega arith)
of_bytes-four h [] enough = absurd (omega arith)

pub of_bytes-three : (h : ℕ) (xs : List ℕ) → length xs ≡ 3 → of_bytes h xs ≡ of_three h (get_or xs 0 0) (get_or xs 1 0) (get_or xs 2 0)
unfolding of_bytes
of_bytes-three h (a ∷ b ∷ c ∷ d ∷ rest) exact = absurd (omega arith)
of_bytes-three h (a ∷ b ∷ c ∷ []) exact = refl
of_bytes-three h (a ∷ b ∷ []) exact = absurd (omega arith)
of_bytes-three h (a ∷ []) exact = absurd (omega arith)
of_bytes-three h [] exact = absurd (omega arith)

pub of_bytes-two : (h : ℕ) (xs : List ℕ) → length xs ≡ 2 → of_bytes h xs ≡ of_two h (get_or xs 0 0) (get_or xs 1 0)
unfolding of_bytes
of_bytes-two h (a ∷ b ∷ c ∷ rest) exact = absurd (omega arith)
of_bytes-two h (a ∷ b ∷ []) exact = refl
of_bytes-two h (a ∷ []) exact = absurd (omega arith)
of_bytes-two h [] exact = absurd (omega arith)

pub of_bytes-one : (h : ℕ) (xs : List ℕ) → length xs ≡ 1 → of_bytes h xs ≡ of_one h (get_or xs 0 0)
unfolding of_bytes
of_bytes-one h (a ∷ b ∷ rest) exact = absurd (omega arith)
of_bytes-one h (a ∷ []) exact = refl
of_bytes-one h [] exact = absurd (omega arith)

pub of_bytes-none : (h : ℕ) (xs : List ℕ) → length xs ≡ 0 → of_bytes h xs ≡ h
unfolding of_bytes
of_bytes-none h (a ∷ rest) exact = absurd (omega arith)
of_bytes-none h [] exact = refl

pub hash-none : (xs : List ℕ) → length xs ≡ 0 → hash xs ≡ 0
unfolding hash
hash-none (a ∷ rest) exact = absurd (omega arith)
hash-none [] exact = refl

pub hash-some : (xs : List ℕ) → 0 < length xs → hash xs ≡ mixed (of_bytes (length xs % 2 ^ 32) xs)
unfolding hash
hash-some (a ∷ rest) some = refl
hash-some [] some = absurd (omega arith)

-- four bytes are taken off the start
pub of_bytes-rest : (h r e : ℕ) (xs : List ℕ) → 4 ≤ length xs → r ≡ of_four h (get_or xs 0 0) (get_or xs 1 0) (get_or xs 2 0) (get_or xs 3 0) → of_bytes h xs ≡ e → of_bytes r (take (length xs - 4) (drop 4 xs)) ≡ e
of_bytes-rest h r e xs enough is before =
    let whole : take (length xs - 4) (drop 4 xs) ≡ drop 4 xs = take_all (length xs - 4) (drop 4 xs) (omega (arith, length-drop 4 xs)) in
    rw (whole, is) (sym (of_bytes-four h xs enough) ∙ before)
