-- Numbers that are read digit by digit.
use Rattle.std.proofs.Common.{◌≡◌, ℕ, suc, ◌+◌, ◌-◌, ◌*◌, ◌^◌, ◌<◌, ◌≤◌, Bool, true, false, ◌&&◌, List, [], ◌∷◌, Ok, Err, length, drop, get_or, refl, sym, ap, ◌∙◌, arith, drop-cons}
use Rattle.std.specs.Bool.{nat_le}
use Rattle.std.specs.List.{list_all}
use Rattle.std.proofs.lemmas.Bool.{and_from, le-leb, cond-true, cond-false, leb-true}
use Rattle.blk_script.specs.declared.fault.LineFault.TheVariants as fault
use Rattle.blk_script.specs.Fields.{is_decimal_digit, digits_say, begins_number, is_number_text, number_field}

-- further digits make a number no smaller
digits_say-least : (before : ℕ) (digits : List ℕ) → before ≤ digits_say before digits
digits_say-least before [] = omega arith
digits_say-least before (digit ∷ digits) = let more = digits_say-least (before * 10 + (digit - 48)) digits in omega arith

-- where the digits so far say too much, all of them do
pub digits_say-large : (field : List ℕ) (i value : ℕ) → i < length field → 2 ^ 64 ≤ value * 10 + (get_or field i 0 - 48) → 2 ^ 64 ≤ digits_say value (drop i field)
digits_say-large field i value within large =
    let more = digits_say-least (value * 10 + (get_or field i 0 - 48)) (drop (suc i) field) in
    rw (drop-cons field i 0 within) (omega arith)

test_fails : (a b c : Bool) → a ≡ false → ((a && b) && c) ≡ false
test_fails true b c e = cc
test_fails false b c e = refl

-- what does not begin as a number is none
pub number_field-begins : (most : ℕ) (field : List ℕ) → begins_number field ≡ false → number_field most field ≡ Err fault.Number
unfolding number_field
number_field-begins most field e = cond-false _ _ _ (test_fails (begins_number field) (list_all is_decimal_digit field) (nat_le (digits_say 0 field) most) e)

-- digits that say a number that is not too large
pub number_field-is : (most n : ℕ) (field : List ℕ) → begins_number field ≡ true → list_all is_decimal_digit field ≡ true → digits_say 0 field ≡ n → n ≤ most → number_field most field ≡ Ok n
unfolding number_field
number_field-is most n field begins digits says small =
    cond-true _ _ _ (and_from (is_number_text field) _ (and_from (begins_number field) _ begins digits) (le-leb (digits_say 0 field) most (omega arith))) ∙ ap Ok says

last_fails : (a b : Bool) → (a ≡ true → b ≡ false) → (a && b) ≡ false
last_fails true b e = e refl
last_fails false b e = refl

large_is : (n most : ℕ) (le : Bool) → le ≡ nat_le n most → most < n → le ≡ false
large_is n most true e large = let small = leb-true n most (sym e) in absurd (omega arith)
large_is n most false e large = refl

second : (a b : Bool) → (a && b) ≡ true → b ≡ true
second true b e = e
second false b e = cc

-- digits that say a number that is too large
pub number_field-large : (most : ℕ) (field : List ℕ) → (list_all is_decimal_digit field ≡ true → most < digits_say 0 field) → number_field most field ≡ Err fault.Number
unfolding number_field
number_field-large most field large =
    cond-false _ _ _ (last_fails (is_number_text field) (nat_le (digits_say 0 field) most) (λ is. large_is (digits_say 0 field) most (nat_le (digits_say 0 field) most) refl (large (second (begins_number field) (list_all is_decimal_digit field) is))))
