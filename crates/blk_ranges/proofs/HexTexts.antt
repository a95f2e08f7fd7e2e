-- Texts of numbers: printed by their bytes, and parsed.
use Rattle.std.proofs.Common.{◌≡◌, ℕ, zero, suc, ◌+◌, ◌-◌, ◌*◌, ◌/◌, ◌%◌, ◌^◌, ◌<◌, ◌≤◌, List, [], ◌∷◌, ◌++◌, length, drop, replicate, map, true, false, Result, Ok, refl, sym, ap, ap₂, subst, ◌∙◌, arith, min, inl, inr}
use Rattle.std.specs.Prelude.{◌==◌, slice_index}
use Rattle.std.specs.Char.{digit_value}
use Rattle.std.specs.Fmt.{digits, digit_glyph}
use Rattle.std.specs.Str.{IsAscii}
use Rattle.std.specs.Str.Parse.{AllDigits, IsNumeral, digits_value, without_leading_plus, ParsesUnsigned}
use Rattle.std.specs.Int.{bytes_high_first, byte_at}
use Rattle.std.specs.Int.Count.{count_leading_zeros, leading_of_zero}
use Rattle.std.specs.Int.Digits.{digits_of}
use Rattle.std.proofs.lemmas.Int.Digits.{digits_of_step}
use Rattle.std.proofs.lemmas.Bool.{cases_lt, agree_below_at, eqb-true}
use Rattle.std.proofs.lemmas.Bool.Decides.{nat_tests}
use Rattle.std.proofs.lemmas.Fmt.{digits_is_IsNumeral}
use Rattle.std.proofs.lemmas.List.{map-append}
use Rattle.std.proofs.lemmas.Nat.{pow-add, mul-pow, leading_top}
use Rattle.std.proofs.Math.Nat.{pow-suc, pow-zero, div-div-eq-div-mul, div-eq_of_lt}
use Rattle.std.proofs.Math.Pow.{pow_mono}
use Rattle.std.proofs.lemmas.Str.Ascii.{IsAscii-nil, IsAscii-cons}
use Rattle.std.proofs.lemmas.Str.Parse.{without_leading_plus_none}
use Rattle.std.proofs.lemmas.Result.{Ok-from_Ok_iff}
use Rattle.hex.specs.Hex.{encode_with, lower_digits}
use Rattle.spec_format.specs.Names.{hexadecimal}
use Rattle.spec_format.proofs.NameLemmas.{text-of}

-- so many digits of a number, the highest first
abbrev digits_high : ℕ → ℕ → List ℕ
digits_high zero n = []
digits_high (suc k) n = digit_glyph false (n / 16 ^ k % 16) ∷ digits_high k n

-- the table's digits
table : (d : ℕ) → d < 16 → slice_index lower_digits d ≡ digit_glyph false d
table d small = eqb-true (slice_index lower_digits d) (digit_glyph false d) (sym (agree_below_at (λ d. true) (λ d. slice_index lower_digits d == digit_glyph false d) 16 d refl small))

power : (k : ℕ) → 256 ^ k ≡ 16 ^ (k + k)
power k = mul-pow 16 16 k ∙ sym (pow-add 16 k k)

byte-is : (k n : ℕ) → byte_at k n ≡ n / 16 ^ (k + k) % 256
byte-is zero n = let one : n / 16 ^ 0 ≡ n = omega arith in ap (λ (x : ℕ). x % 256) (sym one)
byte-is (suc k) n = ap (λ (p : ℕ). n / p % 256) (power (suc k))

-- the text of a number's bytes
pub encoded : (k n : ℕ) → encode_with lower_digits (bytes_high_first k n) ≡ digits_high (k + k) n
unfolding encode_with
encoded zero n = refl
encoded (suc k) n =
    let x : ℕ = n / 16 ^ (k + k) in
    let b : ℕ = byte_at k n in
    let is : b ≡ x % 256 = byte-is k n in
    let more : n / 16 ^ suc (k + k) ≡ x / 16 = ap (λ (p : ℕ). n / p) (pow-suc 16 (k + k)) ∙ sym (div-div-eq-div-mul n (16 ^ (k + k)) 16) in
    let high : b / 16 ≡ n / 16 ^ suc (k + k) % 16 = omega (arith, is, more) in
    let low : b % 16 ≡ x % 16 = omega (arith, is) in
    let twice : suc k + suc k ≡ suc (suc (k + k)) = omega arith in
    ap₂ (λ (h l : ℕ). h ∷ l ∷ encode_with lower_digits (bytes_high_first k n)) (table (b / 16) (omega (arith, is)) ∙ ap (digit_glyph false) high) (table (b % 16) (omega arith) ∙ ap (digit_glyph false) low)
    ∙ ap (λ (l : List ℕ). digit_glyph false (n / 16 ^ suc (k + k) % 16) ∷ digit_glyph false (x % 16) ∷ l) (encoded k n)
    ∙ ap (λ (j : ℕ). digits_high j n) (sym twice)

-- the last digit apart
digits_high-last : (k n : ℕ) → digits_high (suc k) n ≡ digits_high k (n / 16) ++ digit_glyph false (n % 16) ∷ []
digits_high-last zero n = let one : n / 16 ^ 0 ≡ n = omega arith in ap (λ (x : ℕ). digit_glyph false (x % 16) ∷ []) one
digits_high-last (suc k) n =
    let same : n / 16 ^ suc k ≡ n / 16 / 16 ^ k = ap (λ (p : ℕ). n / p) (pow-suc 16 k ∙ swap (16 ^ k)) ∙ sym (div-div-eq-div-mul n 16 (16 ^ k)) in
    ap₂ (λ (d : ℕ) (l : List ℕ). digit_glyph false (d % 16) ∷ l) same (digits_high-last k n)
  where
    swap : (p : ℕ) → p * 16 ≡ 16 * p
    swap p = omega arith

-- the text of the digits, the last apart
with-last : (n : ℕ) → 0 < n → map (digit_glyph false) (digits_of 16 (n / 16)) ++ digit_glyph false (n % 16) ∷ [] ≡ map (digit_glyph false) (digits_of 16 n)
with-last n some = sym (map-append (digit_glyph false) (digits_of 16 (n / 16)) (n % 16 ∷ [])) ∙ ap (map (digit_glyph false)) (sym (digits_of_step 16 n (omega arith) some))

powers : (j : ℕ) → 0 < 16 ^ j
powers zero = omega (arith, pow-zero 16)
powers (suc j) = let before = powers j in omega (arith, before, pow-suc 16 j)

-- a number's own digits
own-digits : (m n : ℕ) → 0 < n → n < 16 ^ m → 16 ^ m ≤ 16 * n → digits_high m n ≡ map (digit_glyph false) (digits_of 16 n)
own-digits zero n some few enough = absurd (omega (arith, pow-zero 16))
own-digits (suc zero) n some few enough =
    let none : n / 16 ≡ 0 = omega arith in
    let last : n % 16 ≡ n = omega arith in
    digits_high-last zero n ∙ ap (λ (x : ℕ). map (digit_glyph false) (digits_of 16 x) ++ digit_glyph false (n % 16) ∷ []) (sym none) ∙ with-last n some
own-digits (suc (suc m)) n some few enough =
    let power_is : 16 ^ suc (suc m) ≡ 16 ^ suc m * 16 = pow-suc 16 (suc m) in
    let next : 16 ^ suc m ≡ 16 ^ m * 16 = pow-suc 16 m in
    let front : digits_high (suc m) (n / 16) ≡ map (digit_glyph false) (digits_of 16 (n / 16)) = own-digits (suc m) (n / 16) (omega (arith, enough, power_is, next, powers m)) (omega (arith, few, power_is)) (omega (arith, enough, power_is, next)) in
    digits_high-last (suc m) n ∙ ap (λ (l : List ℕ). l ++ digit_glyph false (n % 16) ∷ []) front ∙ with-last n some

-- what comes after some digits
behind-digits : (z m n : ℕ) → drop z (digits_high (z + m) n) ≡ digits_high m n
behind-digits zero m n = ap (λ (j : ℕ). digits_high j n) (zero-plus m)
  where
    zero-plus : (m : ℕ) → 0 + m ≡ m
    zero-plus m = omega arith
behind-digits (suc z) m n =
    let next : suc z + m ≡ suc (z + m) = omega arith in
    ap (λ (j : ℕ). drop (suc z) (digits_high j n)) next ∙ behind-digits z m n

length-digits_high : (k n : ℕ) → length (digits_high k n) ≡ k
length-digits_high zero n = refl
length-digits_high (suc k) n = ap suc (length-digits_high k n)

-- the digits of a number that has so many
digits_high-own : (k n : ℕ) → 16 ^ k ≤ n → n < 16 ^ suc k → n < 2 ^ 64 → digits_high (suc k) n ≡ hexadecimal n
digits_high-own k n enough few fits = own-digits (suc k) n (omega (arith, powers k, enough)) few (omega (arith, enough, pow-suc 16 k)) ∙ sym (text-of n fits (omega (arith, powers k, enough)))

pub digits-many : (k n : ℕ) → 16 ^ k ≤ n → n < 16 ^ suc k → n < 2 ^ 64 → length (hexadecimal n) ≡ suc k
digits-many k n enough few fits = ap length (sym (digits_high-own k n enough few fits)) ∙ length-digits_high (suc k) n

-- the digits that a number has, and zeros before them
digits_high-of : (k n : ℕ) → 0 < n → n < 16 ^ k → n < 2 ^ 64 → (digits_high k n ≡ replicate (k - length (hexadecimal n)) 48 ++ hexadecimal n) × (length (hexadecimal n) ≤ k)
digits_high-of zero n some few fits = absurd (omega (arith, pow-zero 16))
digits_high-of (suc k) n some few fits = elim (cases_lt n (16 ^ k)) [
  | inl fewer ↦
      let before = digits_high-of k n some fewer fits in
      let none : n / 16 ^ k ≡ 0 = div-eq_of_lt fewer in
      let one_more : suc k - length (hexadecimal n) ≡ suc (k - length (hexadecimal n)) = omega (arith, before.1) in
      (ap₂ (λ (d : ℕ) (l : List ℕ). digit_glyph false (d % 16) ∷ l) none before.0 ∙ ap (λ (z : ℕ). replicate z 48 ++ hexadecimal n) (sym one_more), omega (arith, before.1))
  | inr enough ↦
      let all : length (hexadecimal n) ≡ suc k = digits-many k n enough few fits in
      let none : suc k - length (hexadecimal n) ≡ 0 = omega (arith, all) in
      (digits_high-own k n enough few fits ∙ ap (λ (z : ℕ). replicate z 48 ++ hexadecimal n) (sym none), omega (arith, all))
]

-- the eight digits of a word: those that it has, and zeros before them
pub word-digits : (n : ℕ) → n < 2 ^ 32 → encode_with lower_digits (bytes_high_first 4 n) ≡ replicate (8 - length (hexadecimal n)) 48 ++ hexadecimal n
word-digits n fits = elim (cases_lt 0 n) [
  | inl some ↦ encoded 4 n ∙ (digits_high-of 8 n some (omega (arith, fits)) (omega (arith, fits))).0
  | inr none ↦ let zero_is : n ≡ 0 = omega arith in of-zero n zero_is
]
  where
    eight_zeros : encode_with lower_digits (bytes_high_first 4 0) ≡ replicate (8 - length (hexadecimal 0)) 48 ++ hexadecimal 0
    eight_zeros = unfold digits encode_with in refl

    of-zero : (n : ℕ) → n ≡ 0 → encode_with lower_digits (bytes_high_first 4 n) ≡ replicate (8 - length (hexadecimal n)) 48 ++ hexadecimal n
    of-zero n e = subst (λ (x : ℕ). encode_with lower_digits (bytes_high_first 4 x) ≡ replicate (8 - length (hexadecimal x)) 48 ++ hexadecimal x) (sym e) eight_zeros

-- how many digits a number has at most
pub digits-few : (k n : ℕ) → n < 16 ^ suc k → n < 2 ^ 64 → length (hexadecimal n) ≤ suc k
digits-few k n few fits = elim (cases_lt 0 n) [
  | inl some ↦ (digits_high-of (suc k) n some few fits).1
  | inr none ↦ let zero_is : n ≡ 0 = omega arith in omega (arith, one n zero_is)
]
  where
    one_digit : length (hexadecimal 0) ≡ 1
    one_digit = unfold digits in refl

    one : (n : ℕ) → n ≡ 0 → length (hexadecimal n) ≡ 1
    one n e = ap (λ (x : ℕ). length (hexadecimal x)) e ∙ one_digit

sixteen : (q : ℕ) → 16 ^ q ≡ 2 ^ (q + q + (q + q))
sixteen q = mul-pow 4 4 q ∙ ap (λ (p : ℕ). p * p) (mul-pow 2 2 q ∙ sym (pow-add 2 q q)) ∙ sym (pow-add 2 (q + q) (q + q))

-- after the leading zeros of its sixteen digits comes the text of a number
pub text-behind-zeros : (n z : ℕ) (text : List ℕ) → n < 2 ^ 64 → text ≡ encode_with lower_digits (bytes_high_first 8 n) → z ≡ min (count_leading_zeros 64 n / 4) 15 → drop z text ≡ hexadecimal n
text-behind-zeros n z text fits is is_z = elim (cases_lt 0 n) [
  | inl some ↦
      let top = leading_top 64 n some fits in
      let j : ℕ = top.0 in
      let q : ℕ = j / 4 in
      let at : z ≡ 15 - q = omega (arith, is_z, top.1) in
      let all : 16 ≡ z + suc q = omega (arith, at, top.1) in
      let lowest : 16 ^ q ≤ n = below-top q j n (omega arith) top.2 in
      let few : n < 16 ^ suc q = above-top q j n (omega arith) top.3 in
      ap (drop z) (is ∙ encoded 8 n ∙ ap (λ (k : ℕ). digits_high k n) all) ∙ behind-digits z (suc q) n ∙ own-digits (suc q) n some few (omega (arith, lowest, pow-suc 16 q)) ∙ sym (text-of n fits some)
  | inr none ↦ let zero_is : n ≡ 0 = omega arith in of-zero n zero_is is is_z
]
  where
    below-top : (q j n : ℕ) → 4 * q ≤ j → 2 ^ j ≤ n → 16 ^ q ≤ n
    below-top q j n order least = let p : 2 ^ (q + q + (q + q)) ≤ 2 ^ j = pow_mono (omega arith) in omega (arith, sixteen q, p, least)

    above-top : (q j n : ℕ) → j < 4 * q + 4 → n < 2 ^ suc j → n < 16 ^ suc q
    above-top q j n order most = let p : 2 ^ suc j ≤ 2 ^ (suc q + suc q + (suc q + suc q)) = pow_mono (omega arith) in omega (arith, sixteen (suc q), p, most)

    one_zero : drop 15 (encode_with lower_digits (bytes_high_first 8 0)) ≡ hexadecimal 0
    one_zero = unfold digits encode_with in refl

    of-zero : (n : ℕ) → n ≡ 0 → text ≡ encode_with lower_digits (bytes_high_first 8 n) → z ≡ min (count_leading_zeros 64 n / 4) 15 → drop z text ≡ hexadecimal n
    of-zero n e is at =
        let all : count_leading_zeros 64 n ≡ 64 = ap (count_leading_zeros 64) e ∙ leading_of_zero 64 in
        let last : z ≡ 15 = omega (arith, at, all) in
        ap₂ (λ (k : ℕ) (l : List ℕ). drop k l) last (is ∙ ap (λ (x : ℕ). encode_with lower_digits (bytes_high_first 8 x)) e) ∙ one_zero ∙ ap hexadecimal (sym e)

-- Parsed.

-- the text of a number is a numeral that says it
is-numeral : (n : ℕ) → n < 2 ^ 64 → IsNumeral 16 (hexadecimal n) × (digits_value 16 (hexadecimal n) ≡ n)
is-numeral n fits = digits_is_IsNumeral 16 false (omega arith) (omega arith) n (let small : n < 16 ^ 64 = omega arith in small)

-- digits are ASCII
digit-ascii : (c : ℕ) → digit_value c < 16 → c < 128
digit-ascii c small = grind (arith, nat_tests)

digits-ascii : (cs : List ℕ) → AllDigits 16 cs → IsAscii cs
digits-ascii [] all = IsAscii-nil
digits-ascii (c ∷ cs) all = IsAscii-cons c cs (digit-ascii c all.0) (digits-ascii cs all.1)

pub hexadecimal-ascii : (n : ℕ) → n < 2 ^ 64 → IsAscii (hexadecimal n)
hexadecimal-ascii n fits = digits-ascii (hexadecimal n) (is-numeral n fits).0.1

-- there is no plus before digits
no_plus : (cs : List ℕ) → AllDigits 16 cs → without_leading_plus cs ≡ cs
no_plus [] all = refl
no_plus (c ∷ cs) all = without_leading_plus_none (c ∷ cs) (λ is. plus (subst (λ (x : ℕ). digit_value x < 16) is all.0))
  where
    plus : digit_value 43 < 16 → ⊥
    plus small = grind arith

-- the text of a number is read as it
pub hexadecimal-reads : {E : Type 0} (n : ℕ) (bs : List ℕ) (r : Result ℕ E) → n < 2 ^ 64 → bs ≡ hexadecimal n → ParsesUnsigned 64 16 bs r → r ≡ Ok n
hexadecimal-reads n bs r fits is parses =
    let numeral : IsNumeral 16 bs × (digits_value 16 bs ≡ n) = subst (λ (cs : List ℕ). IsNumeral 16 cs × (digits_value 16 cs ≡ n)) (sym is) (is-numeral n fits) in
    let plain : without_leading_plus bs ≡ bs = no_plus bs numeral.0.1 in
    let value : digits_value 16 (without_leading_plus bs) ≡ n = ap (digits_value 16) plain ∙ numeral.1 in
    Ok-from_Ok_iff r (IsNumeral 16 (without_leading_plus bs) × (digits_value 16 (without_leading_plus bs) < 2 ^ 64)) (digits_value 16 (without_leading_plus bs)) parses
    (subst (IsNumeral 16) (sym plain) numeral.0, omega (arith, value, fits))
    ∙ ap (λ (m : ℕ). Ok m) value
