-- A command is read as it is printed.
use Rattle.std.proofs.Common.{◌≡◌, ℕ, zero, suc, ◌/◌, ◌%◌, ◌<◌, ◌≤◌, Bool, true, false, not, ◌&&◌, ◌||◌, cond, List, [], ◌∷◌, ◌++◌, Ok, Err, refl, ap, sym, ◌∙◌, subst, arith, length, codes}
use Rattle.std.proofs.lemmas.List.Elements.{All-nil, All-cons}
use Rattle.std.specs.List.{All, list_all, AllByRecursion, flat_map}
use Rattle.std.specs.Bool.{◌==◌, nat_lt}
use Rattle.std.proofs.lemmas.Bool.{and_from, and_parts, le-ltb, ne_eqb, cond-true, not-true, or_left, and_left, agree_below_at}
use Rattle.std.specs.Fmt.{digit_glyph}
use Rattle.hex.specs.Hex.{encode_lower, encode_with, lower_digits, decode_of, IsBytes, is_hex_digit}
use Rattle.hex.proofs.HexLemmas.{decode_of-encode_lower}
use Rattle.percent_encoding.specs.Percent.{percent_encode_byte, percent_decode}
use Rattle.percent_encoding.proofs.PercentLemmas.{percent_decode-percent_encode_byte, percent_decode_not_percent, percent_decode-nil}
use Rattle.blk_script.specs.Fields.{line_fields, is_space, key_field, data_field, is_key_byte, are_escapes, begins_with_hex, decoded, longest_data}
use Rattle.blk_script.specs.declared.fault.LineFault.TheVariants as fault
use Rattle.std.specs.List.{slice_index}
use Rattle.std.specs.Str.{bytes_eq}
use Rattle.blk_script.proofs.Ranged.{AreSmall, IsRanged, ranged}
use Rattle.blk_script.specs.Spelling.{line_of, data_in, fields_for, number_text, key_text, data_text, is_plain_byte, key_byte_text, spaced}
use Rattle.blk_script.specs.Line.{by_fields, reading, command_words, read_text}
use Rattle.blk_model.specs.Request.{Request, IsRequest, to_create, to_open, to_read, to_write, to_size, to_sparse_write, to_sparse_read, to_sparse_range, to_doom, to_doom_key, to_close, to_flush, to_list, to_trim, to_total}
use Rattle.std.proofs.lemmas.List.Splits.{slice_split_none, slice_split_at}
use Rattle.blk_script.proofs.Numbers.{no_space, no_space-number, number_read}

-- no byte of these is a space
spaces_none : (field : List ℕ) → no_space field ≡ true → All (λ byte. is_space byte ≡ false) field
spaces_none [] none = All-nil (λ byte. is_space byte ≡ false)
spaces_none (byte ∷ field) none =
    let parts = and_parts (not (is_space byte)) (no_space field) none in
    All-cons (λ byte. is_space byte ≡ false) byte field (not-true (is_space byte) parts.0) (spaces_none field parts.1)

fields_of-one : (field : List ℕ) → no_space field ≡ true → line_fields field ≡ field ∷ []
unfolding line_fields
fields_of-one field none = slice_split_none is_space field (spaces_none field none)

fields_of-more : (field rest : List ℕ) → no_space field ≡ true → line_fields (field ++ (32 ∷ rest)) ≡ field ∷ line_fields rest
unfolding line_fields
fields_of-more field rest none = slice_split_at is_space field 32 rest (spaces_none field none) refl

-- fields without spaces are those of the line that they make
pub fields_of-spaced : (field : List ℕ) (fields : List (List ℕ)) → no_space field ≡ true → AllByRecursion (λ f. no_space f ≡ true) fields → line_fields (spaced (field ∷ fields)) ≡ field ∷ fields
fields_of-spaced field [] none all = fields_of-one field none
fields_of-spaced field (next ∷ fields) none all = fields_of-more field (spaced (next ∷ fields)) none ∙ ap (λ fs. field ∷ fs) (fields_of-spaced next fields all.0 all.1)

-- what a key's byte is printed as, in front of more
byte_decoded : (byte : ℕ) (rest : List ℕ) → byte < 256 → percent_decode (key_byte_text byte ++ rest) ≡ byte ∷ percent_decode rest
byte_decoded byte rest small =
    elim (is_plain_byte byte) as (λ b. is_plain_byte byte ≡ b → percent_decode (cond b (byte ∷ []) (percent_encode_byte byte) ++ rest) ≡ byte ∷ percent_decode rest) [
      | true ↦ λ is. percent_decode_not_percent byte rest (λ e. not_percent is e)
      | false ↦ λ is. percent_decode-percent_encode_byte byte rest small
    ] refl
  where
    not_percent : is_plain_byte byte ≡ true → byte ≡ 37 → ⊥
    not_percent is e = let no : is_plain_byte 37 ≡ true = subst (λ b. is_plain_byte b ≡ true) e is in cc

key_decoded : (key : List ℕ) → AreSmall key → percent_decode (key_text key) ≡ key
unfolding key_text
key_decoded [] small = percent_decode-nil
key_decoded (byte ∷ key) small = byte_decoded byte (flat_map key_byte_text key) small.0 ∙ ap (λ bs. byte ∷ bs) (key_decoded key small.1)

all-append : (p : ℕ → Bool) (front rest : List ℕ) → list_all p front ≡ true → list_all p (front ++ rest) ≡ list_all p rest
all-append p [] rest all = refl
all-append p (x ∷ front) rest all = ap (λ b. b && list_all p (front ++ rest)) (and_parts (p x) _ all).0 ∙ all-append p front rest (and_parts (p x) _ all).1

-- what holds of a byte that is printed as it is
abbrev plain_checks : ℕ → Bool
plain_checks byte = is_key_byte byte && not (byte == 37) && not (byte == 32)

abbrev plain_passes : ℕ → Bool
plain_passes byte = not (is_plain_byte byte) || plain_checks byte

plain_byte : (byte : ℕ) → byte < 256 → true ≡ plain_passes byte
plain_byte byte small = agree_below_at (λ b. true) plain_passes 256 byte refl small

-- what the two digits after a percent sign are
abbrev digit_checks : ℕ → Bool
digit_checks digit = is_hex_digit digit && is_key_byte digit && not (digit == 37) && not (digit == 32)

abbrev escape_checks : ℕ → Bool
escape_checks byte = digit_checks (digit_glyph true (byte / 16 % 16)) && digit_checks (digit_glyph true (byte % 16))

escaped_byte : (byte : ℕ) → byte < 256 → true ≡ escape_checks byte
escaped_byte byte small = agree_below_at (λ b. true) escape_checks 256 byte refl small

-- what holds of each byte of an escape and of each plain byte holds of each byte of a key's text
all_of_text : (p : ℕ → Bool) → ((byte : ℕ) → byte < 256 → is_plain_byte byte ≡ true → p byte ≡ true) → ((byte : ℕ) → byte < 256 → list_all p (percent_encode_byte byte) ≡ true) → (key : List ℕ) → AreSmall key → list_all p (key_text key) ≡ true
unfolding key_text
all_of_text p plain escaped [] small = refl
all_of_text p plain escaped (byte ∷ key) small =
    all-append p (key_byte_text byte) (flat_map key_byte_text key)
    (elim (is_plain_byte byte) as (λ b. is_plain_byte byte ≡ b → list_all p (cond b (byte ∷ []) (percent_encode_byte byte)) ≡ true) [
      | true ↦ λ is. and_from _ _ (plain byte small.0 is) refl
      | false ↦ λ is. escaped byte small.0
    ] refl)
    ∙ all_of_text p plain escaped key small.1

plain_is : (byte : ℕ) → byte < 256 → is_plain_byte byte ≡ true → plain_checks byte ≡ true
plain_is byte small is = ap (λ b. not b || plain_checks byte) (sym is) ∙ sym (plain_byte byte small)

-- a digit after a percent sign
record IsPrintedDigit (digit : ℕ) : Type 0 where
  hex : is_hex_digit digit ≡ true
  key_byte : is_key_byte digit ≡ true
  no_percent : not (digit == 37) ≡ true
  none : not (digit == 32) ≡ true

printed_digit : (digit : ℕ) → digit_checks digit ≡ true → IsPrintedDigit digit
printed_digit digit e =
    let a = and_parts (is_hex_digit digit && is_key_byte digit && not (digit == 37)) (not (digit == 32)) e in
    let b = and_parts (is_hex_digit digit && is_key_byte digit) (not (digit == 37)) a.0 in
    let c = and_parts (is_hex_digit digit) (is_key_byte digit) b.0 in record { hex = c.0; key_byte = c.1; no_percent = b.1; none = a.1 }

high_digit : (byte : ℕ) → byte < 256 → IsPrintedDigit (digit_glyph true (byte / 16 % 16))
high_digit byte small = printed_digit _ (and_parts (digit_checks (digit_glyph true (byte / 16 % 16))) (digit_checks (digit_glyph true (byte % 16))) (sym (escaped_byte byte small))).0

low_digit : (byte : ℕ) → byte < 256 → IsPrintedDigit (digit_glyph true (byte % 16))
low_digit byte small = printed_digit _ (and_parts (digit_checks (digit_glyph true (byte / 16 % 16))) (digit_checks (digit_glyph true (byte % 16))) (sym (escaped_byte byte small))).1

no_space-escape : (byte : ℕ) → byte < 256 → no_space (percent_encode_byte byte) ≡ true
unfolding percent_encode_byte
no_space-escape byte small = and_from _ _ (high_digit byte small).none (and_from _ _ (low_digit byte small).none refl)

key_bytes-escape : (byte : ℕ) → byte < 256 → list_all is_key_byte (percent_encode_byte byte) ≡ true
unfolding percent_encode_byte
key_bytes-escape byte small = and_from _ _ (high_digit byte small).key_byte (and_from _ _ (low_digit byte small).key_byte refl)

pub no_space-key : (key : List ℕ) → AreSmall key → no_space (key_text key) ≡ true
no_space-key key small = all_of_text (λ byte. not (byte == 32)) (λ byte few is. (and_parts _ _ (plain_is byte few is)).1) no_space-escape key small

key_bytes-key : (key : List ℕ) → AreSmall key → list_all is_key_byte (key_text key) ≡ true
key_bytes-key key small = all_of_text is_key_byte (λ byte few is. (and_parts (is_key_byte byte) (not (byte == 37)) (and_parts (is_key_byte byte && not (byte == 37)) (not (byte == 32)) (plain_is byte few is)).0).0) key_bytes-escape key small

sign_and_more : (a b : Bool) → a ≡ true → (a && b) ≡ b
sign_and_more true b e = refl
sign_and_more false b e = cc

escapes_of_byte : (byte : ℕ) (rest : List ℕ) → byte < 256 → are_escapes (key_byte_text byte ++ rest) ≡ are_escapes rest
unfolding percent_encode_byte
escapes_of_byte byte rest small =
    elim (is_plain_byte byte) as (λ b. is_plain_byte byte ≡ b → are_escapes (cond b (byte ∷ []) (percent_encode_byte byte) ++ rest) ≡ are_escapes rest) [
      | true ↦ λ is. ap (λ b. (b || begins_with_hex rest) && are_escapes rest) (and_parts (is_key_byte byte) (not (byte == 37)) (and_parts (is_key_byte byte && not (byte == 37)) (not (byte == 32)) (plain_is byte small is)).0).1
      | false ↦ λ is.
          let high = digit_glyph true (byte / 16 % 16) in let low = digit_glyph true (byte % 16) in
          let first = high_digit byte small in let second = low_digit byte small in
          sign_and_more (is_hex_digit high && is_hex_digit low) _ (and_from _ _ first.hex second.hex)
          ∙ sign_and_more (not (high == 37) || begins_with_hex (low ∷ rest)) _ (or_left (not (high == 37)) _ first.no_percent)
          ∙ sign_and_more (not (low == 37) || begins_with_hex rest) _ (or_left (not (low == 37)) _ second.no_percent)
    ] refl

are_escapes-key : (key : List ℕ) → AreSmall key → are_escapes (key_text key) ≡ true
unfolding key_text
are_escapes-key [] small = refl
are_escapes-key (byte ∷ key) small = escapes_of_byte byte (flat_map key_byte_text key) small.0 ∙ are_escapes-key key small.1

-- a key is read as it is printed
pub key_read : (key : List ℕ) → AreSmall key → key_field (key_text key) ≡ Ok key
unfolding key_field
key_read key small = cond-true _ _ _ (and_from _ _ (key_bytes-key key small) (are_escapes-key key small)) ∙ ap Ok (key_decoded key small)

digit_at : (digit : ℕ) → digit < 16 → not (slice_index lower_digits digit == 32) ≡ true
digit_at digit small = sym (agree_below_at (λ d. true) (λ d. not (slice_index lower_digits d == 32)) 16 digit refl small)

no_space-hex : (bytes : List ℕ) → AreSmall bytes → no_space (encode_with lower_digits bytes) ≡ true
unfolding encode_with
no_space-hex [] small = refl
no_space-hex (byte ∷ bytes) small = and_from _ _ (digit_at (byte / 16) (let few = small.0 in omega arith)) (and_from _ _ (digit_at (byte % 16) (omega arith)) (no_space-hex bytes small.1))

pub no_space-data : (bytes : List ℕ) → AreSmall bytes → no_space (data_text bytes) ≡ true
unfolding data_text
no_space-data [] small = refl
no_space-data (byte ∷ bytes) small = no_space-hex (byte ∷ bytes) small

are_bytes : (bytes : List ℕ) → AreSmall bytes → IsBytes bytes
are_bytes [] small i = omega arith
are_bytes (byte ∷ bytes) small zero = small.0
are_bytes (byte ∷ bytes) small (suc i) = are_bytes bytes small.1 i

no_dash : (digit : ℕ) → digit < 16 → slice_index lower_digits digit == 45 ≡ false
no_dash digit small = sym (agree_below_at (λ d. false) (λ d. slice_index lower_digits d == 45) 16 digit refl small)

-- data is read as it is printed, where the digits are not too many
pub data_read : (bytes : List ℕ) → AreSmall bytes → length (data_text bytes) ≤ 2097152 → data_field (data_text bytes) ≡ Ok bytes
unfolding data_text encode_with data_field
data_read [] small few = refl
data_read (byte ∷ bytes) small few =
    let text = encode_lower (byte ∷ bytes) in
    let dash : bytes_eq text (codes "-") ≡ false = and_left _ _ (no_dash (byte / 16) (let low = small.0 in omega arith)) in
    ap (λ b. cond b (Ok []) (cond (nat_lt longest_data (length text)) (Err fault.TooLong) (cond (length text == 0) (Err fault.Hex) (decoded fault.Hex (decode_of text))))) dash
    ∙ ap (λ b. cond b (Err fault.TooLong) (cond (length text == 0) (Err fault.Hex) (decoded fault.Hex (decode_of text)))) (le-ltb longest_data (length text) few)
    ∙ ap (λ b. cond b (Err fault.Hex) (decoded fault.Hex (decode_of text))) (ne_eqb (length text) 0 (λ e. absurd (omega arith)))
    ∙ ap (decoded fault.Hex) (decode_of-encode_lower (byte ∷ bytes) (are_bytes (byte ∷ bytes) small))

-- what each field of a command is read as
pub fields_read : (request : Request) → IsRanged request → length (data_text (data_in request)) ≤ 2097152 → by_fields (fields_for request) ≡ Ok request
unfolding command_words reading
fields_read (to_create handle key) is few = rw (number_read 65535 handle is.0 (omega arith), key_read key is.1) refl
fields_read (to_open handle key) is few = rw (number_read 65535 handle is.0 (omega arith), key_read key is.1) refl
fields_read (to_read handle stream offset count) is few = rw (number_read 65535 handle is.0 (omega arith), number_read 255 stream is.1 (omega arith), number_read 18446744073709551615 offset is.2 (omega arith), number_read 18446744073709551615 count is.3 (omega arith)) refl
fields_read (to_write handle stream offset true bytes) is few = rw (number_read 65535 handle is.0 (omega arith), number_read 255 stream is.1 (omega arith), number_read 18446744073709551615 offset is.2 (omega arith), data_read bytes is.3 few) refl
fields_read (to_write handle stream offset false bytes) is few = rw (number_read 65535 handle is.0 (omega arith), number_read 255 stream is.1 (omega arith), number_read 18446744073709551615 offset is.2 (omega arith), data_read bytes is.3 few) refl
fields_read (to_size handle stream) is few = rw (number_read 65535 handle is.0 (omega arith), number_read 255 stream is.1 (omega arith)) refl
fields_read (to_sparse_write handle offset bytes) is few = rw (number_read 65535 handle is.0 (omega arith), number_read 18446744073709551615 offset is.1 (omega arith), data_read bytes is.2 few) refl
fields_read (to_sparse_read handle offset count) is few = rw (number_read 65535 handle is.0 (omega arith), number_read 18446744073709551615 offset is.1 (omega arith), number_read 18446744073709551615 count is.2 (omega arith)) refl
fields_read (to_sparse_range handle offset count) is few = rw (number_read 65535 handle is.0 (omega arith), number_read 18446744073709551615 offset is.1 (omega arith), number_read 18446744073709551615 count is.2 (omega arith)) refl
fields_read (to_doom handle) is few = rw (number_read 65535 handle is (omega arith)) refl
fields_read (to_doom_key key) is few = rw (key_read key is) refl
fields_read (to_close handle) is few = rw (number_read 65535 handle is (omega arith)) refl
fields_read (to_flush handle) is few = rw (number_read 65535 handle is (omega arith)) refl
fields_read to_list is few = refl
fields_read (to_trim bytes) is few = rw (number_read 18446744073709551615 bytes is (omega arith)) refl
fields_read to_total is few = refl

-- the fields of a printed command
pub fields_printed : (request : Request) → IsRanged request → line_fields (line_of request) ≡ fields_for request
unfolding line_of
fields_printed (to_create handle key) is = fields_of-spaced (codes "create") (number_text handle ∷ key_text key ∷ []) refl (no_space-number handle (let few = is.0 in omega arith), (no_space-key key is.1, tt))
fields_printed (to_open handle key) is = fields_of-spaced (codes "open") (number_text handle ∷ key_text key ∷ []) refl (no_space-number handle (let few = is.0 in omega arith), (no_space-key key is.1, tt))
fields_printed (to_read handle stream offset count) is = fields_of-spaced (codes "read") (number_text handle ∷ number_text stream ∷ number_text offset ∷ number_text count ∷ []) refl (no_space-number handle (let few = is.0 in omega arith), (no_space-number stream (let few = is.1 in omega arith), (no_space-number offset (let few = is.2 in omega arith), (no_space-number count (let few = is.3 in omega arith), tt))))
fields_printed (to_write handle stream offset true bytes) is = fields_of-spaced (codes "cut") (number_text handle ∷ number_text stream ∷ number_text offset ∷ data_text bytes ∷ []) refl (no_space-number handle (let few = is.0 in omega arith), (no_space-number stream (let few = is.1 in omega arith), (no_space-number offset (let few = is.2 in omega arith), (no_space-data bytes is.3, tt))))
fields_printed (to_write handle stream offset false bytes) is = fields_of-spaced (codes "write") (number_text handle ∷ number_text stream ∷ number_text offset ∷ data_text bytes ∷ []) refl (no_space-number handle (let few = is.0 in omega arith), (no_space-number stream (let few = is.1 in omega arith), (no_space-number offset (let few = is.2 in omega arith), (no_space-data bytes is.3, tt))))
fields_printed (to_size handle stream) is = fields_of-spaced (codes "size") (number_text handle ∷ number_text stream ∷ []) refl (no_space-number handle (let few = is.0 in omega arith), (no_space-number stream (let few = is.1 in omega arith), tt))
fields_printed (to_sparse_write handle offset bytes) is = fields_of-spaced (codes "swrite") (number_text handle ∷ number_text offset ∷ data_text bytes ∷ []) refl (no_space-number handle (let few = is.0 in omega arith), (no_space-number offset (let few = is.1 in omega arith), (no_space-data bytes is.2, tt)))
fields_printed (to_sparse_read handle offset count) is = fields_of-spaced (codes "sread") (number_text handle ∷ number_text offset ∷ number_text count ∷ []) refl (no_space-number handle (let few = is.0 in omega arith), (no_space-number offset (let few = is.1 in omega arith), (no_space-number count (let few = is.2 in omega arith), tt)))
fields_printed (to_sparse_range handle offset count) is = fields_of-spaced (codes "srange") (number_text handle ∷ number_text offset ∷ number_text count ∷ []) refl (no_space-number handle (let few = is.0 in omega arith), (no_space-number offset (let few = is.1 in omega arith), (no_space-number count (let few = is.2 in omega arith), tt)))
fields_printed (to_doom handle) is = fields_of-spaced (codes "doom") (number_text handle ∷ []) refl (no_space-number handle (let few = is in omega arith), tt)
fields_printed (to_doom_key key) is = fields_of-spaced (codes "doomkey") (key_text key ∷ []) refl (no_space-key key is, tt)
fields_printed (to_close handle) is = fields_of-spaced (codes "close") (number_text handle ∷ []) refl (no_space-number handle (let few = is in omega arith), tt)
fields_printed (to_flush handle) is = fields_of-spaced (codes "flush") (number_text handle ∷ []) refl (no_space-number handle (let few = is in omega arith), tt)
fields_printed to_list is = fields_of-spaced (codes "list") ([]) refl tt
fields_printed (to_trim bytes) is = fields_of-spaced (codes "trim") (number_text bytes ∷ []) refl (no_space-number bytes (let few = is in omega arith), tt)
fields_printed to_total is = fields_of-spaced (codes "total") ([]) refl tt

nonempty : (field : List ℕ) (fields : List (List ℕ)) → 1 ≤ length field → 1 ≤ length (spaced (field ∷ fields))
nonempty field [] some = some
nonempty (byte ∷ field) (next ∷ fields) some = omega arith
nonempty [] (next ∷ fields) some = omega arith

line_is_some : (request : Request) → 1 ≤ length (line_of request)
unfolding line_of
line_is_some (to_create handle key) = nonempty (codes "create") (number_text handle ∷ key_text key ∷ []) (omega arith)
line_is_some (to_open handle key) = nonempty (codes "open") (number_text handle ∷ key_text key ∷ []) (omega arith)
line_is_some (to_read handle stream offset count) = nonempty (codes "read") (number_text handle ∷ number_text stream ∷ number_text offset ∷ number_text count ∷ []) (omega arith)
line_is_some (to_write handle stream offset true bytes) = nonempty (codes "cut") (number_text handle ∷ number_text stream ∷ number_text offset ∷ data_text bytes ∷ []) (omega arith)
line_is_some (to_write handle stream offset false bytes) = nonempty (codes "write") (number_text handle ∷ number_text stream ∷ number_text offset ∷ data_text bytes ∷ []) (omega arith)
line_is_some (to_size handle stream) = nonempty (codes "size") (number_text handle ∷ number_text stream ∷ []) (omega arith)
line_is_some (to_sparse_write handle offset bytes) = nonempty (codes "swrite") (number_text handle ∷ number_text offset ∷ data_text bytes ∷ []) (omega arith)
line_is_some (to_sparse_read handle offset count) = nonempty (codes "sread") (number_text handle ∷ number_text offset ∷ number_text count ∷ []) (omega arith)
line_is_some (to_sparse_range handle offset count) = nonempty (codes "srange") (number_text handle ∷ number_text offset ∷ number_text count ∷ []) (omega arith)
line_is_some (to_doom handle) = nonempty (codes "doom") (number_text handle ∷ []) (omega arith)
line_is_some (to_doom_key key) = nonempty (codes "doomkey") (key_text key ∷ []) (omega arith)
line_is_some (to_close handle) = nonempty (codes "close") (number_text handle ∷ []) (omega arith)
line_is_some (to_flush handle) = nonempty (codes "flush") (number_text handle ∷ []) (omega arith)
line_is_some to_list = nonempty (codes "list") ([]) (omega arith)
line_is_some (to_trim bytes) = nonempty (codes "trim") (number_text bytes ∷ []) (omega arith)
line_is_some to_total = nonempty (codes "total") ([]) (omega arith)

-- a command is read as it is printed
pub read_text-line_of : (request : Request) → IsRequest request → length (line_of request) ≤ 2200000 → length (data_text (data_in request)) ≤ 2097152 → read_text (line_of request) ≡ Ok request
unfolding read_text
read_text-line_of request is short few =
    let line = line_of request in
    let some = line_is_some request in
    ap (λ b. cond b (Err fault.TooLong) (cond (length line == 0) (Err fault.Empty) (by_fields (line_fields line)))) (le-ltb 2200000 (length line) short)
    ∙ ap (λ b. cond b (Err fault.Empty) (by_fields (line_fields line))) (ne_eqb (length line) 0 (λ e. absurd (omega arith)))
    ∙ ap by_fields (fields_printed request (ranged request is)) ∙ fields_read request (ranged request is) few
