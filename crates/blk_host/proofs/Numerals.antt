-- Numbers in hexadecimal are read back, with their leading zeros.
use Rattle.std.proofs.Common.{◌≡◌, Bool, true, false, cond, ℕ, zero, suc, ◌-◌, ◌<◌, ◌^◌, List, [], ◌∷◌, ◌++◌, length, drop, replicate, Result, Ok, refl, ◌∙◌, sym, ap, subst, ◌==◌, arith}
use Rattle.std.specs.Char.{digit_value}
use Rattle.std.specs.Fmt.{digits}
use Rattle.std.specs.Str.Parse.{AllDigits, IsNumeral, digits_value, without_leading_plus, ParsesUnsigned}
use Rattle.std.proofs.lemmas.Fmt.{digits_is_IsNumeral}
use Rattle.std.proofs.lemmas.Result.{Ok-from_Ok_iff}
use Rattle.blk_io.specs.Texts.{hex_text}

-- zeros before a numeral
all_digits-zeros : (k : ℕ) (ds : List ℕ) → AllDigits 16 ds → AllDigits 16 (replicate k 48 ++ ds)
all_digits-zeros zero ds all = all
all_digits-zeros (suc k) ds all = (grind (arith), all_digits-zeros k ds all)

digits_value-zeros : (k : ℕ) (ds : List ℕ) → digits_value 16 (replicate k 48 ++ ds) ≡ digits_value 16 ds
digits_value-zeros zero ds = refl
digits_value-zeros (suc k) ds = digits_value-zeros k ds

length-zeros : (k : ℕ) (ds : List ℕ) → 0 < length ds → 0 < length (replicate k 48 ++ ds)
length-zeros zero ds some = some
length-zeros (suc k) ds some = grind (arith)

-- there is no plus before digits
no_plus : (ds : List ℕ) → AllDigits 16 ds → without_leading_plus ds ≡ ds
no_plus [] all = refl
no_plus (c ∷ cs) all = by_test (c == 43) refl
  where
    by_test : (t : Bool) → (c == 43) ≡ t → drop (cond (c == 43) 1 0) (c ∷ cs) ≡ c ∷ cs
    by_test true is = absurd (no_digit (grind (arith, is)))
      where
        no_digit : c ≡ 43 → ⊥
        no_digit e = plus (subst (λ (x : ℕ). digit_value x < 16) e all.0)
          where
            plus : digit_value 43 < 16 → ⊥
            plus small = grind (arith)
    by_test false is = ap (λ (t : Bool). drop (cond t 1 0) (c ∷ cs)) is

-- the digits of a number are a numeral of it
hex_digits : (n : ℕ) → n < 2 ^ 28 → IsNumeral 16 (digits 16 false n) × (digits_value 16 (digits 16 false n) ≡ n)
hex_digits n small = digits_is_IsNumeral 16 false (grind (arith)) (grind (arith)) n (grind (arith))

pub hex_text-reads : {E : Type 0} (n : ℕ) (bs : List ℕ) (r : Result ℕ E) → n < 2 ^ 28 → bs ≡ hex_text 6 n → ParsesUnsigned 32 16 bs r → r ≡ Ok n
unfolding hex_text
hex_text-reads n bs r small is parses =
    let k : ℕ = 6 - length (digits 16 false n) in
    let ds : List ℕ = digits 16 false n in
    let numeral = hex_digits n small in
    let all = all_digits-zeros k ds numeral.0.1 in
    let plain : without_leading_plus bs ≡ replicate k 48 ++ ds = ap without_leading_plus is ∙ no_plus (replicate k 48 ++ ds) all in
    let value : digits_value 16 (without_leading_plus bs) ≡ n = ap (digits_value 16) plain ∙ digits_value-zeros k ds ∙ numeral.1 in
    let whole : IsNumeral 16 (without_leading_plus bs) = subst (IsNumeral 16) (sym plain) (length-zeros k ds numeral.0.0, all) in
    Ok-from_Ok_iff r (IsNumeral 16 (without_leading_plus bs) × (digits_value 16 (without_leading_plus bs) < 2 ^ 32)) (digits_value 16 (without_leading_plus bs)) parses
    (whole, subst (λ (m : ℕ). m < 2 ^ 32) (sym value) (grind (arith)))
    ∙ ap (λ (m : ℕ). Ok m) value
