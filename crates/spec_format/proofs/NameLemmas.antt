-- A printed name is read back, and nothing else is read.
use Rattle.std.proofs.Common.{◌≡◌, ℕ, zero, suc, ◌+◌, ◌/◌, ◌%◌, ◌^◌, ◌<◌, ◌≤◌, List, [], ◌∷◌, ◌++◌, refl, ap, ap₂, sym, ◌∙◌, subst, arith, append_assoc, ⊎_elim, Bool, true, false, Some, None}
use Rattle.std.specs.Prelude.{map, ◌==◌, ◌&&◌, nat_lt, drop, if◌then◌else◌}
use Rattle.std.specs.Str.{bytes_eq}
use Rattle.std.specs.List.{AllByRecursion}
use Rattle.std.specs.Fmt.{digits, digits_onto, digit_glyph}
use Rattle.std.proofs.lemmas.List.{append-nil, map-append}
use Rattle.std.specs.Int.Digits.{digits_of, number_from_digits, AllBelowBase}
use Rattle.std.proofs.lemmas.Int.Digits.{digits_of_step, all_below_base_digits_of, number_digits_of}
use Rattle.std.proofs.lemmas.Bool.{eqb-true, eq-eqb, ne_eqb, cases_lt, lt-ltb, le-ltb, cases_Bool, and_parts}
use Rattle.std.proofs.lemmas.Bool.Decides.{nat_tests}
use Rattle.std.proofs.lemmas.Option.{option_and_then_some, cond_some}
use Rattle.std.proofs.lemmas.Slice.Eq.{bytes_eq-Decides}
use Rattle.std.proofs.Math.Nat.{pow-zero, pow-suc}
use Rattle.spec_format.specs.Names.{hexadecimal, name_head, colon, child_name, Name, may_be_named, IsName, hex_digit, hex_number, split_last, where_printed, said_by, name_in_halves, read_name, ReadsNames}

-- the digits of a number, after its last one
glyphs_step : (n : ℕ) (acc : List ℕ) → 0 < n → map (digit_glyph false) (digits_of 16 n) ++ acc ≡ map (digit_glyph false) (digits_of 16 (n / 16)) ++ digit_glyph false (n % 16) ∷ acc
glyphs_step n acc some =
    ap (λ (ds : List ℕ). map (digit_glyph false) ds ++ acc) (digits_of_step 16 n (omega arith) some)
    ∙ ap (λ (ds : List ℕ). ds ++ acc) (map-append (digit_glyph false) (digits_of 16 (n / 16)) (n % 16 ∷ []))
    ∙ append_assoc (map (digit_glyph false) (digits_of 16 (n / 16))) (digit_glyph false (n % 16) ∷ []) acc

-- a number of few digits needs no more iterations
few_digits : (turns n : ℕ) (acc : List ℕ) → n < 16 ^ turns → 0 < n → digits_onto turns 16 false n acc ≡ map (digit_glyph false) (digits_of 16 n) ++ acc
few_digits zero n acc few some = absurd (omega (arith, pow-zero 16))
few_digits (suc turns) n acc few some = ⊎_elim
    (λ (last : n < 16).
    let is : n / 16 ≡ 0 = omega arith in
    let none : map (digit_glyph false) (digits_of 16 (n / 16)) ≡ [] = ap (λ (m : ℕ). map (digit_glyph false) (digits_of 16 m)) is in
    let test : (n / 16 == 0) ≡ true = eq-eqb (n / 16) 0 is in
    ap (λ (b : Bool). if b then digit_glyph false (n % 16) ∷ acc else digits_onto turns 16 false (n / 16) (digit_glyph false (n % 16) ∷ acc)) test
    ∙ sym (glyphs_step n acc some ∙ ap (λ (ds : List ℕ). ds ++ digit_glyph false (n % 16) ∷ acc) none))
    (λ (more : 16 ≤ n).
    let fewer : n / 16 < 16 ^ turns = omega (arith, pow-suc 16 turns) in
    let test : (n / 16 == 0) ≡ false = ne_eqb (n / 16) 0 (λ is. omega (arith, is, more)) in
    ap (λ (b : Bool). if b then digit_glyph false (n % 16) ∷ acc else digits_onto turns 16 false (n / 16) (digit_glyph false (n % 16) ∷ acc)) test
    ∙ few_digits turns (n / 16) (digit_glyph false (n % 16) ∷ acc) fewer (omega (arith, more)) ∙ sym (glyphs_step n acc some))
    (cases_lt n 16)

-- the digits are those of 64 iterations
turns-64 : (turns n : ℕ) → turns ≡ 64 → digits 16 false n ≡ digits_onto turns 16 false n []
unfolding digits
turns-64 turns n is = ap (λ (t : ℕ). digits_onto t 16 false n []) (sym is)

-- a text without `:` is not split
pub no_colon : (xs : List ℕ) → AllByRecursion (λ x. (x == colon) ≡ false) xs → split_last xs ≡ None
unfolding split_last
no_colon [] h = refl
no_colon (x ∷ xs) h = rw (no_colon xs h.1, h.0) refl

-- the last `:` splits
pub split : (xs ys : List ℕ) → split_last ys ≡ None → split_last (xs ++ colon ∷ ys) ≡ Some (xs, ys)
unfolding split_last
split [] ys none = rw none refl
split (x ∷ xs) ys none = rw (split xs ys none) refl

-- the byte of a digit is read as the digit
digit-back : (d : ℕ) → d < 16 → hex_digit (digit_glyph false d) ≡ d
digit-back d h = ⊎_elim
    (λ (small : d < 10).
    let a : digit_glyph false d ≡ 48 + d = rw (lt-ltb d 10 small) refl in
    let b : nat_lt (48 + d) 58 ≡ true = lt-ltb (48 + d) 58 (omega arith) in
    rw (a, b) (omega arith))
    (λ (large : 10 ≤ d).
    let a : digit_glyph false d ≡ 87 + d = rw (le-ltb d 10 large) refl in
    let b : nat_lt (87 + d) 58 ≡ false = le-ltb (87 + d) 58 (omega arith) in
    rw (a, b) (omega arith))
    (cases_lt d 10)

-- the byte of a digit is no `:`
digit-no_colon : (d : ℕ) → d < 16 → (digit_glyph false d == colon) ≡ false
digit-no_colon d h = ⊎_elim
    (λ (small : d < 10). let a : digit_glyph false d ≡ 48 + d = rw (lt-ltb d 10 small) refl in grind (arith, nat_tests))
    (λ (large : 10 ≤ d). let a : digit_glyph false d ≡ 87 + d = rw (le-ltb d 10 large) refl in grind (arith, nat_tests))
    (cases_lt d 10)

digits-back : (ds : List ℕ) → AllBelowBase 16 ds → map hex_digit (map (digit_glyph false) ds) ≡ ds
digits-back [] h = refl
digits-back (d ∷ ds) h = ap₂ (λ (x : ℕ) (xs : List ℕ). x ∷ xs) (digit-back d h.0) (digits-back ds h.1)

digits-no_colon : (ds : List ℕ) → AllBelowBase 16 ds → AllByRecursion (λ x. (x == colon) ≡ false) (map (digit_glyph false) ds)
digits-no_colon [] h = tt
digits-no_colon (d ∷ ds) h = (digit-no_colon d h.0, digits-no_colon ds h.1)

-- the text of a number other than 0
pub text-of : (n : ℕ) → n < 2 ^ 64 → 0 < n → hexadecimal n ≡ map (digit_glyph false) (digits_of 16 n)
text-of n fits some = turns-64 64 n refl ∙ few_digits 64 n [] (let small : n < 16 ^ 64 = omega arith in small) some ∙ append-nil (map (digit_glyph false) (digits_of 16 n))

-- the text of a number says the number
pub hex_number-hexadecimal : (n : ℕ) → n < 2 ^ 64 → hex_number (hexadecimal n) ≡ n
hex_number-hexadecimal n fits = ⊎_elim
    (λ (none : (n == 0) ≡ true). let is = eqb-true n 0 none in rw is (unfold digits in refl))
    (λ (some : (n == 0) ≡ false). ap hex_number (text-of n fits (grind (arith, nat_tests))) ∙ ap (number_from_digits 16) (digits-back (digits_of 16 n) (all_below_base_digits_of 16 n (omega arith))) ∙ number_digits_of 16 n (omega arith))
    (cases_Bool (n == 0))

pub hexadecimal-no_colon : (n : ℕ) → n < 2 ^ 64 → split_last (hexadecimal n) ≡ None
hexadecimal-no_colon n fits = ⊎_elim
    (λ (none : (n == 0) ≡ true). let is = eqb-true n 0 none in rw is (unfold digits in no_colon (48 ∷ []) (refl, tt)))
    (λ (some : (n == 0) ≡ false). ap split_last (text-of n fits (grind (arith, nat_tests))) ∙ no_colon (map (digit_glyph false) (digits_of 16 n)) (digits-no_colon (digits_of 16 n) (all_below_base_digits_of 16 n (omega arith))))
    (cases_Bool (n == 0))

-- what is read of the three parts
read_parts : (bytes front text rest middle : List ℕ) → split_last bytes ≡ Some (front, text) → split_last front ≡ Some (rest, middle)
    → read_name bytes ≡ where_printed bytes (record { key = drop 6 rest; signature = hex_number middle; part = hex_number text })
unfolding read_name
read_parts bytes front text rest middle a b = rw (a, b) refl

-- numbers that a name may have are below 2 ^ 64
pub signature-fits : (name : Name) → may_be_named name ≡ true → name.signature < 2 ^ 64
signature-fits name fits = grind (arith, nat_tests)

pub part-fits : (name : Name) → may_be_named name ≡ true → name.part < 2 ^ 64
part-fits name fits = grind (arith, nat_tests)

-- a printed name is read back
pub read_name-child_name : (name : Name) → may_be_named name ≡ true → read_name (child_name name.key name.signature name.part) ≡ Some name
unfolding child_name
read_name-child_name name fits =
    let signature = signature-fits name fits in
    let part = part-fits name fits in
    let first : split_last (child_name name.key name.signature name.part) ≡ Some (name_head ++ name.key ++ colon ∷ hexadecimal name.signature, hexadecimal name.part) = split (name_head ++ name.key ++ colon ∷ hexadecimal name.signature) (hexadecimal name.part) (hexadecimal-no_colon name.part part) in
    let second : split_last (name_head ++ name.key ++ colon ∷ hexadecimal name.signature) ≡ Some (name_head ++ name.key, hexadecimal name.signature) = split (name_head ++ name.key) (hexadecimal name.signature) (hexadecimal-no_colon name.signature signature) in
    let said : Name = record { key = name.key; signature = hex_number (hexadecimal name.signature); part = hex_number (hexadecimal name.part) } in
    let same : said ≡ name = λ k. record { key = name.key; signature = hex_number-hexadecimal name.signature signature k; part = hex_number-hexadecimal name.part part k } in
    read_parts (child_name name.key name.signature name.part) _ _ _ _ first second ∙ ap (where_printed (child_name name.key name.signature name.part)) same ∙ passed
  where
    passed : where_printed (child_name name.key name.signature name.part) name ≡ Some name
    passed = rw (fits, (bytes_eq-Decides (child_name name.key name.signature name.part) (child_name name.key name.signature name.part)).1 refl) refl

-- what is checked is a name
printed-IsName : (bytes : List ℕ) (said name : Name) → where_printed bytes said ≡ Some name → IsName bytes name
printed-IsName bytes said name e =
    let parts = cond_some (may_be_named said && bytes_eq bytes (child_name said.key said.signature said.part)) said name e in
    let tests : (may_be_named said ≡ true) × (bytes_eq bytes (child_name said.key said.signature said.part) ≡ true) = and_parts _ _ parts.0 in
    subst (λ (x : Name). IsName bytes x) parts.1 (record { fits = tests.0; printed = (bytes_eq-Decides bytes (child_name said.key said.signature said.part)).0 tests.1 })

-- what is read is a name
pub read_name-IsName : (bytes : List ℕ) (name : Name) → read_name bytes ≡ Some name → IsName bytes name
unfolding read_name
read_name-IsName bytes name e =
    option_and_then_some (name_in_halves bytes) (split_last bytes) name e (λ halves are_halves ok.
    option_and_then_some (λ front. where_printed bytes (said_by halves.1 front)) (split_last halves.0) name ok (λ front is_front done. printed-IsName bytes (said_by halves.1 front) name done))

pub reads_names : ReadsNames
reads_names bytes name = (
  read_name-IsName bytes name,
  λ (is : IsName bytes name). subst (λ (text : List ℕ). read_name text ≡ Some name) (sym is.printed) (read_name-child_name name is.fits),
)
