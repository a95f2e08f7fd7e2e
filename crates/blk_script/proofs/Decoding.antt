-- Data and keys that are decoded into a buffer.
use Rattle.std.proofs.Common.{◌≡◌, ℕ, ◌+◌, ◌*◌, ◌/◌, ◌%◌, ◌<◌, ◌≤◌, Bool, true, false, cond, List, [], ◌∷◌, ◌++◌, Result, Ok, Err, Option, Some, None, unwrap_or, length, take, refl, sym, ap, ◌∙◌, arith, append_assoc}
use Rattle.std.specs.Bool.{◌==◌}
use Rattle.std.specs.List.{slice_set, slice_index}
use Rattle.std.specs.Result.{MatchResult}
use Rattle.std.specs.Str.{bytes_eq}
use Rattle.std.specs.Prelude.{codes}
use Rattle.std.proofs.lemmas.Bool.{eq-eqb, eqb-true, ne_eqb, le-ltb, lt-ltb, cond-true, cond-false, agree_below_at}
use Rattle.std.proofs.lemmas.Grind.{take-set_at}
use Rattle.hex.specs.Hex.{decode_of, decode_sized, decode_pairs, digit_or_error, hex_digit_value, pair_value, value_at}
use Rattle.hex.specs.declared.error.FromHexError.{FromHexError}
use Rattle.hex.specs.declared.error.FromHexError.TheVariants.{OddLength, InvalidStringLength}
use Rattle.blk_script.specs.declared.data.TheConstants.{DIGIT_VALUES}
use Rattle.blk_script.specs.declared.fault.LineFault.TheVariants as fault
use Rattle.blk_script.specs.Fields.{data_field, decoded}

-- a test against a text that is `-`
pub dash_is : (field text : List ℕ) (test b : Bool) → test ≡ bytes_eq field text → text ≡ codes "-" → test ≡ b → bytes_eq field (codes "-") ≡ b
dash_is field text test b is same was = ap (bytes_eq field) (sym same) ∙ sym is ∙ was

-- `-` is no data
pub data_field-none : (field : List ℕ) → bytes_eq field (codes "-") ≡ true → data_field field ≡ Ok []
unfolding data_field
data_field-none field e = cond-true _ _ _ e

-- too many digits
pub data_field-long : (field : List ℕ) → bytes_eq field (codes "-") ≡ false → 2097152 < length field → data_field field ≡ Err fault.TooLong
unfolding data_field
data_field-long field e long = cond-false _ _ _ e ∙ cond-true _ _ _ (lt-ltb 2097152 (length field) long)

-- no digits
pub data_field-empty : (field : List ℕ) → bytes_eq field (codes "-") ≡ false → length field ≤ 2097152 → length field ≡ 0 → data_field field ≡ Err fault.Hex
unfolding data_field
data_field-empty field e few none = cond-false _ _ _ e ∙ cond-false _ _ _ (le-ltb 2097152 (length field) few) ∙ cond-true _ _ _ (eq-eqb (length field) 0 none)

-- some digits
pub data_field-digits : (field : List ℕ) → bytes_eq field (codes "-") ≡ false → length field ≤ 2097152 → 0 < length field → data_field field ≡ decoded fault.Hex (decode_of field)
unfolding data_field
data_field-digits field e few some =
    cond-false _ _ _ e ∙ cond-false _ _ _ (le-ltb 2097152 (length field) few) ∙ cond-false _ _ _ (ne_eqb (length field) 0 (λ none. absurd (omega arith)))

-- space for half as many bytes as there are digits is what decoding asks
decode_sized-half : (field : List ℕ) (n : ℕ) → length field / 2 ≡ n → decode_sized field n ≡ decode_of field
decode_sized-half field n half =
    ap (λ (fits : Bool). cond (length field % 2 == 1) (Err OddLength) (cond fits (decode_pairs 0 field) (Err InvalidStringLength))) (eq-eqb (length field / 2) n half)

was_ok : (digits : Result (List ℕ) FromHexError) (answer : Result (Unit {0}) FromHexError) (u : Unit {0}) (out : List ℕ) → MatchResult digits (λ bytes. (answer ≡ Ok u) × (out ≡ bytes)) (λ e. answer ≡ Err e) → answer ≡ Ok u → decoded fault.Hex digits ≡ Ok out
was_ok (Ok bytes) answer u out says ok = ap Ok (sym says.1)
was_ok (Err e) answer u out says ok = cc

was_err : (digits : Result (List ℕ) FromHexError) (answer : Result (Unit {0}) FromHexError) (u : Unit {0}) (why : FromHexError) (out : List ℕ) → MatchResult digits (λ bytes. (answer ≡ Ok u) × (out ≡ bytes)) (λ e. answer ≡ Err e) → answer ≡ Err why → decoded fault.Hex digits ≡ Err fault.Hex
was_err (Ok bytes) answer u why out says err = let ok = says.0 in cc
was_err (Err e) answer u why out says err = refl

-- decoding gave the bytes
pub decoded_ok : (field : List ℕ) (n : ℕ) (answer : Result (Unit {0}) FromHexError) (u : Unit {0}) (out : List ℕ) → length field / 2 ≡ n → MatchResult (decode_sized field n) (λ bytes. (answer ≡ Ok u) × (out ≡ bytes)) (λ e. answer ≡ Err e) → answer ≡ Ok u → decoded fault.Hex (decode_of field) ≡ Ok out
decoded_ok field n answer u out half says ok = was_ok (decode_of field) answer u out (rw (decode_sized-half field n half) at says) ok

-- decoding failed
pub decoded_err : (field : List ℕ) (n : ℕ) (answer : Result (Unit {0}) FromHexError) (u : Unit {0}) (why : FromHexError) (out : List ℕ) → length field / 2 ≡ n → MatchResult (decode_sized field n) (λ bytes. (answer ≡ Ok u) × (out ≡ bytes)) (λ e. answer ≡ Err e) → answer ≡ Err why → decoded fault.Hex (decode_of field) ≡ Err fault.Hex
decoded_err field n answer u why out half says err = was_err (decode_of field) answer u why out (rw (decode_sized-half field n half) at says) err

-- one more byte at the start of the buffer
pub prefix_more : (buffer all left next : List ℕ) (n byte : ℕ) → take n buffer ++ left ≡ all → left ≡ byte ∷ next → n < length buffer → take (n + 1) (slice_set buffer n byte) ++ next ≡ all
prefix_more buffer all left next n byte so step within =
    ap (λ (front : List ℕ). front ++ next) (take-set_at buffer n (n + 1) byte refl within) ∙ append_assoc (take n buffer) (byte ∷ []) next ∙ ap (λ (rest : List ℕ). take n buffer ++ rest) (sym step) ∙ so

-- what is read from the table of digits
pub table_value : (byte : ℕ) → byte < 256 → slice_index DIGIT_VALUES byte ≡ unwrap_or (hex_digit_value byte) 255
table_value byte small =
    eqb-true (slice_index DIGIT_VALUES byte) (unwrap_or (hex_digit_value byte) 255) (agree_below_at (λ b. slice_index DIGIT_VALUES b == unwrap_or (hex_digit_value b) 255) (λ b. true) 256 byte refl small)

value_some : (o : Option ℕ) (c i v : ℕ) → v ≡ unwrap_or o 255 → v ≤ 15 → digit_or_error c i o ≡ Ok v
value_some (Some w) c i v e small = ap Ok (sym e)
value_some None c i v e small = absurd (omega arith)

-- two digits of which the table has the values
pub pair_of_values : (high low i h l : ℕ) → h ≡ unwrap_or (hex_digit_value high) 255 → l ≡ unwrap_or (hex_digit_value low) 255 → h ≤ 15 → l ≤ 15 → pair_value high low i ≡ Ok (h * 16 + l)
pair_of_values high low i h l eh el hs ls =
    let ha : value_at high i ≡ Ok h = value_some (hex_digit_value high) high i h eh hs in
    let hb : value_at low (i + 1) ≡ Ok l = value_some (hex_digit_value low) low (i + 1) l el ls in
    rw (ha, hb) refl
