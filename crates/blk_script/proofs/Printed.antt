-- Lines and fields, piece by piece.
use Rattle.std.proofs.Common.{◌≡◌, List, [], ◌∷◌, ◌++◌, ℕ, ◌+◌, ◌≤◌, map, add-one, drop-cons, ◌/◌, ◌%◌, ◌<◌, Bool, true, false, ◌==◌, not, cond, refl, sym, ap, ◌∙◌, length, take, drop, get_or, suc, arith, inl, inr, append_assoc}
use Rattle.std.proofs.lemmas.List.{take-append-drop, drop_all}
use Rattle.std.specs.List.{join_with_byte, flat_map}
use Rattle.std.proofs.lemmas.Bool.{agree_below_at, eqb-true, eqb-false, cases_lt}
use Rattle.std.specs.List.{slice_index}
use Rattle.hex.specs.Hex.{encode_lower, encode_with, lower_digits}
use Rattle.percent_encoding.specs.AsciiSet.{should_percent_encode}
use Rattle.percent_encoding.specs.Percent.{percent_encode, encode_byte, percent_encode_byte}
use Rattle.blk_script.specs.declared.print.TheConstants.{ESCAPED}
use Rattle.blk_script.specs.declared.print.Field.{Field}
use Rattle.blk_script.specs.Spelling.{line, field_text, data_text, key_text, key_byte_text, is_plain_byte}
use Rattle.blk_script.proofs.Ranged.{AreSmall}

-- what comes after the first field of a line: each further field with a space before it, and the line's end
abbrev pub after_first : List (List ℕ) → List ℕ
after_first [] = 10 ∷ []
after_first (field ∷ fields) = (32 ∷ field) ++ after_first fields

-- a line is its first field and what comes after it
pub line-first : (field : List ℕ) (fields : List (List ℕ)) → line (field ∷ fields) ≡ field ++ after_first fields
line-first field [] = refl
line-first field (next ∷ fields) = append_assoc field (32 ∷ join_with_byte 32 (next ∷ fields)) (10 ∷ []) ∙ ap (λ (rest : List ℕ). field ++ (32 ∷ rest)) (line-first next fields)

-- the digits of two pieces
pub encode_lower-append : (piece rest : List ℕ) → encode_lower (piece ++ rest) ≡ encode_lower piece ++ encode_lower rest
unfolding encode_with
encode_lower-append [] rest = refl
encode_lower-append (byte ∷ piece) rest = ap (λ (digits : List ℕ). slice_index lower_digits (byte / 16) ∷ slice_index lower_digits (byte % 16) ∷ digits) (encode_lower-append piece rest)

pub encode_lower-nil : encode_lower [] ≡ []
unfolding encode_with
encode_lower-nil = refl

-- data that is not empty is digits
pub data_text-some : (bytes : List ℕ) → 0 < length bytes → data_text bytes ≡ encode_lower bytes
unfolding data_text
data_text-some [] some = absurd (omega arith)
data_text-some (byte ∷ bytes) some = refl

pub data_text-nil : (bytes : List ℕ) → length bytes ≡ 0 → data_text bytes ≡ 45 ∷ []
unfolding data_text
data_text-nil [] none = refl
data_text-nil (byte ∷ bytes) none = absurd (omega arith)

-- the bytes that are escaped are those that are not printed as they are
escaped_is : (byte : ℕ) → byte < 256 → should_percent_encode ESCAPED byte ≡ not (is_plain_byte byte)
unfolding should_percent_encode
escaped_is byte small = agree_below_at (λ b. should_percent_encode ESCAPED b) (λ b. not (is_plain_byte b)) 256 byte refl small

byte_escaped : (byte : ℕ) (plain escaped : Bool) → escaped ≡ not plain → cond escaped (percent_encode_byte byte) (byte ∷ []) ≡ cond plain (byte ∷ []) (percent_encode_byte byte)
byte_escaped byte true escaped e = ap (λ b. cond b (percent_encode_byte byte) (byte ∷ [])) e
byte_escaped byte false escaped e = ap (λ b. cond b (percent_encode_byte byte) (byte ∷ [])) e

-- a key's text is what the set gives
pub key_text-escaped : (key : List ℕ) → AreSmall key → percent_encode ESCAPED key ≡ key_text key
unfolding percent_encode key_text
key_text-escaped [] small = refl
key_text-escaped (byte ∷ key) small =
    ap (λ (bytes : List ℕ). bytes ++ flat_map (encode_byte ESCAPED) key) (byte_escaped byte (is_plain_byte byte) (should_percent_encode ESCAPED byte) (escaped_is byte small.0))
    ∙ ap (λ (bytes : List ℕ). key_byte_text byte ++ bytes) (key_text-escaped key small.1)

-- numbers that are bytes at each index
pub bytes_by_index : (bytes : List ℕ) → ((i : ℕ) → get_or bytes i 0 < 256) → AreSmall bytes
bytes_by_index [] small = tt
bytes_by_index (byte ∷ bytes) small = (small 0, bytes_by_index bytes (λ i. small (suc i)))

-- the digits of bytes that are cut in two
pub encode_lower-cut : (left piece rest : List ℕ) (n : ℕ) → piece ≡ take n left → rest ≡ drop n left → encode_lower left ≡ encode_lower piece ++ encode_lower rest
encode_lower-cut left piece rest n front back =
    ap encode_lower (sym (take-append-drop n left)) ∙ encode_lower-append (take n left) (drop n left) ∙ ap (λ (p : List ℕ). encode_lower p ++ encode_lower (drop n left)) (sym front) ∙ ap (λ (p : List ℕ). encode_lower piece ++ encode_lower p) (sym back)

-- no byte has no digits
pub encode_lower-none : (left : List ℕ) → length left ≡ 0 → encode_lower left ≡ []
unfolding encode_with
encode_lower-none [] none = refl
encode_lower-none (byte ∷ left) none = absurd (omega arith)

-- a length that is tested
pub tested_empty : (n : ℕ) (test : Bool) → test ≡ (n == 0) → test ≡ true → n ≡ 0
tested_empty n test is yes_empty = eqb-true n 0 (sym is ∙ yes_empty)

pub tested_some : (n : ℕ) (test : Bool) → test ≡ (n == 0) → test ≡ false → 0 < n
tested_some n test is not_empty = let differs = eqb-false n 0 (sym is ∙ not_empty) in elim (cases_lt 0 n) as (λ _. 0 < n) [ inl some ↦ some | inr none ↦ absurd (differs (omega arith)) ]

-- what comes after the first field, from a further field on
pub after_first-cut : (rest : List Field) (i : ℕ) (d : Field) → i < length rest → after_first (map field_text (drop i rest)) ≡ (32 ∷ field_text (get_or rest i d)) ++ after_first (map field_text (drop (i + 1) rest))
after_first-cut rest i d within = ap (λ (fields : List Field). after_first (map field_text fields)) (drop-cons rest i d within) ∙ ap (λ (n : ℕ). (32 ∷ field_text (get_or rest i d)) ++ after_first (map field_text (drop n rest))) (sym (add-one i))

-- after the last field the line ends
pub after_first-end : (rest : List Field) (i : ℕ) → length rest ≤ i → after_first (map field_text (drop i rest)) ≡ 10 ∷ []
after_first-end rest i past = ap (λ (fields : List Field). after_first (map field_text fields)) (drop_all i rest past)

-- a line of fields, its first apart
pub line-fields : (fields : List Field) (first : Field) (rest : List Field) → fields ≡ first ∷ rest → line (map field_text fields) ≡ field_text first ++ after_first (map field_text rest)
line-fields fields first rest e = ap (λ (all : List Field). line (map field_text all)) e ∙ line-first (field_text first) (map field_text rest)
