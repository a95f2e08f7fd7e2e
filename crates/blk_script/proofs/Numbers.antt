-- A number is read as it is printed.
use Rattle.std.proofs.Common.{◌≡◌, ℕ, suc, ◌+◌, ◌-◌, ◌*◌, ◌/◌, ◌%◌, ◌^◌, ◌<◌, ◌≤◌, Bool, true, false, not, ◌||◌, List, [], ◌∷◌, ◌++◌, Ok, inl, inr, refl, ap, ◌∙◌, arith, length}
use Rattle.std.specs.List.{list_all}
use Rattle.std.specs.Bool.{◌==◌}
use Rattle.std.specs.Fmt.{decimal}
use Rattle.std.proofs.lemmas.Fmt.{decimal_by_steps}
use Rattle.std.proofs.lemmas.Bool.{and_from, and_parts, le-leb, ne_eqb, eq-eqb, or_left, or_right, cases_lt, cond-true}
use Rattle.blk_script.specs.Fields.{is_decimal_digit, digits_say, begins_number, is_number_text, number_field}
use Rattle.blk_script.specs.Spelling.{number_text}

-- the first digit is not 0
abbrev NoLeadingZero : List ℕ → Type 0
NoLeadingZero [] = ⊥
NoLeadingZero (digit ∷ digits) = digit == 48 ≡ false

-- no byte is a space
abbrev pub no_space : List ℕ → Bool
no_space bytes = list_all (λ byte. not (byte == 32)) bytes

-- digits that say a number
record Says (n : ℕ) (digits : List ℕ) : Type 0 where
  says : digits_say 0 digits ≡ n
  digits_only : list_all is_decimal_digit digits ≡ true
  no_spaces : no_space digits ≡ true
  first : 1 ≤ n → NoLeadingZero digits
  alone : n < 10 → length digits ≡ 1

digits_say-push : (before : ℕ) (digits : List ℕ) (digit : ℕ) → digits_say before (digits ++ digit ∷ []) ≡ digits_say before digits * 10 + (digit - 48)
digits_say-push before [] digit = refl
digits_say-push before (d ∷ digits) digit = digits_say-push (before * 10 + (d - 48)) digits digit

all-push : (p : ℕ → Bool) (digits : List ℕ) (digit : ℕ) → list_all p digits ≡ true → p digit ≡ true → list_all p (digits ++ digit ∷ []) ≡ true
all-push p [] digit all is = and_from (p digit) true is refl
all-push p (d ∷ digits) digit all is = and_from (p d) _ (and_parts _ _ all).0 (all-push p digits digit (and_parts (p d) _ all).1 is)

is_digit : (d : ℕ) → d < 10 → is_decimal_digit (48 + d) ≡ true
is_digit d small = and_from _ _ (le-leb 48 (48 + d) (omega arith)) (le-leb (48 + d) 57 (omega arith))

no_digit_is_space : (d : ℕ) → not (48 + d == 32) ≡ true
no_digit_is_space d = ap not (ne_eqb (48 + d) 32 (λ e. absurd (omega arith)))

first_stays : (digits : List ℕ) (digit : ℕ) → NoLeadingZero digits → NoLeadingZero (digits ++ digit ∷ [])
first_stays [] digit none = absurd none
first_stays (d ∷ digits) digit first = first

says_one : (n : ℕ) → n < 10 → Says n ((48 + n) ∷ [])
says_one n small = record {
  says = omega arith;
  digits_only = and_from _ _ (is_digit n small) refl;
  no_spaces = and_from _ _ (no_digit_is_space n) refl;
  first = λ some. ne_eqb (48 + n) 48 (λ e. absurd (omega arith));
  alone = λ h. refl;
}

says_more : (n : ℕ) (digits : List ℕ) → 10 ≤ n → Says (n / 10) digits → Says n (digits ++ ((48 + n % 10) ∷ []))
says_more n digits large so = record {
  says = digits_say-push 0 digits (48 + n % 10) ∙ (let before = so.says in omega arith);
  digits_only = all-push is_decimal_digit digits (48 + n % 10) so.digits_only (is_digit (n % 10) (omega arith));
  no_spaces = all-push (λ byte. not (byte == 32)) digits (48 + n % 10) so.no_spaces (no_digit_is_space (n % 10));
  first = λ some. first_stays digits (48 + n % 10) (so.first (omega arith));
  alone = λ small. absurd (omega arith);
}

decimal_says : (n : ℕ) → n < 2 ^ 64 → Says n (decimal n)
decimal_says n small = decimal_by_steps Says says_one says_more n small

pub no_space-number : (n : ℕ) → n < 2 ^ 64 → no_space (number_text n) ≡ true
no_space-number n small = (decimal_says n small).no_spaces

is_number : (n : ℕ) (digits : List ℕ) → Says n digits → is_number_text digits ≡ true
is_number n [] so =
    elim (cases_lt n 10) as (λ _. is_number_text [] ≡ true) [ inl small ↦ absurd (zero_not_one (so.alone small)) | inr large ↦ absurd (so.first (omega arith)) ]
  where
    zero_not_one : ◌≡◌ {A = ℕ} 0 1 → ⊥
    zero_not_one e = omega arith
is_number n (digit ∷ digits) so =
    and_from (begins_number (digit ∷ digits)) _
    (elim (cases_lt n 10) as (λ _. (not (digit == 48) || length digits == 0) ≡ true) [
      | inl small ↦ (let one : suc (length digits) ≡ 1 = so.alone small in or_right (not (digit == 48)) _ (eq-eqb (length digits) 0 (omega arith)))
      | inr large ↦ or_left (not (digit == 48)) _ (ap not (so.first (omega arith)))
    ])
    so.digits_only

-- a number that is not above the most is read
pub number_read : (most n : ℕ) → n ≤ most → n < 2 ^ 64 → number_field most (number_text n) ≡ Ok n
unfolding number_field
number_read most n few small =
    let so = decimal_says n small in
    cond-true _ _ _ (and_from _ _ (is_number n (decimal n) so) (le-leb (digits_say 0 (decimal n)) most (let e = so.says in omega arith))) ∙ ap Ok so.says
