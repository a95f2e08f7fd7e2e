-- A line of bytes says a command in the ranges of the types.
use Rattle.std.proofs.Common.{◌≡◌, ℕ, ◌<◌, ◌≤◌, Bool, true, false, ◌&&◌, cond, List, [], ◌∷◌, Result, Ok, Err, refl, sym, arith, length}
use Rattle.std.specs.Bool.{◌==◌, nat_lt, nat_le}
use Rattle.std.specs.List.{AllByRecursion, onto_first, slice_split, list_all}
use Rattle.std.specs.Result.{IfOk}
use Rattle.std.specs.Str.{bytes_eq}
use Rattle.std.proofs.lemmas.Bool.{leb-true}
use Rattle.hex.specs.Hex.{decode_of}
use Rattle.hex.specs.Hex as hex
use Rattle.hex.specs.declared.error.FromHexError.{FromHexError}
use Rattle.hex.proofs.HexLemmas.{decode_of-ok}
use Rattle.percent_encoding.specs.Percent.{percent_decode}
use Rattle.percent_encoding.proofs.PercentLemmas.{All-percent_decode}
use Rattle.blk_model.specs.Request.{Request, IsRequest, to_create, to_open, to_read, to_write, to_size, to_sparse_write, to_sparse_read, to_sparse_range, to_doom, to_doom_key, to_close, to_flush, to_list, to_trim, to_total}
use Rattle.blk_script.specs.declared.fault.LineFault.{LineFault}
use Rattle.blk_script.specs.declared.fault.LineFault.TheVariants as fault
use Rattle.blk_script.specs.Fields.{◌>>=◌, is_space, line_fields, digits_say, is_number_text, number_field, data_field, decoded, longest_data, is_key_byte, are_escapes, key_field}
use Rattle.blk_script.specs.Line.{no_fields, one_field, two_fields, three_fields, four_fields, handle_and_key, handle_alone, key_alone, number_alone, handle_and_stream, handle_and_range, handle_and_data, stream_and_range, stream_and_data, reading, command_words, by_word, by_fields, longest_line, read_text}
use Rattle.blk_model.specs.Items.{IsBytes}
use Rattle.blk_script.proofs.Ranged.{AreSmall, small_from_bytes, bytes_from_small}
use Rattle.blk_script.proofs.Printed.{bytes_by_index}

-- each field is of bytes
abbrev AreSmallFields : List (List ℕ) → Type 0
AreSmallFields fields = AllByRecursion AreSmall fields

small_first : (byte : ℕ) (fields : List (List ℕ)) → byte < 256 → AreSmallFields fields → AreSmallFields (onto_first byte fields)
small_first byte [] small all = ((small, tt), tt)
small_first byte (field ∷ fields) small all = ((small, all.0), all.1)

small_split : (line : List ℕ) → AreSmall line → AreSmallFields (slice_split is_space line)
small_split [] small = (tt, tt)
small_split (byte ∷ line) small =
    elim (is_space byte) as (λ b. AreSmallFields (cond b ([] ∷ slice_split is_space line) (onto_first byte (slice_split is_space line)))) [
      | true ↦ (tt, small_split line small.1)
      | false ↦ small_first byte (slice_split is_space line) small.0 (small_split line small.1)
    ]

small_fields : (line : List ℕ) → AreSmall line → AreSmallFields (line_fields line)
unfolding line_fields
small_fields line small = small_split line small

-- a step that gives what is asked of it, and the next
gives : {A B : Type 0} (P : A → Type 0) (Q : B → Type 0) (first : Result A LineFault) (next : A → Result B LineFault) → IfOk first P → ((x : A) → P x → IfOk (next x) Q) → IfOk (first >>= next) Q
gives P Q (Ok x) next is more = more x is
gives P Q (Err why) next is more = tt

read_number : (test : Bool) (n most : ℕ) (le : Bool) → le ≡ nat_le n most → IfOk (cond (test && le) (Ok n) (Err fault.Number)) (λ m. m ≤ most)
read_number true n most true e = leb-true n most (sym e)
read_number true n most false e = tt
read_number false n most le e = tt

number_small : (most : ℕ) (field : List ℕ) → IfOk (number_field most field) (λ n. n ≤ most)
unfolding number_field
number_small most field = read_number (is_number_text field) (digits_say 0 field) most (nat_le (digits_say 0 field) most) refl

decoded_small : (text : List ℕ) (digits : Result (List ℕ) FromHexError) → decode_of text ≡ digits → IfOk (decoded fault.Hex digits) AreSmall
decoded_small text (Ok bytes) e = let small : hex.IsBytes bytes = (decode_of-ok text bytes e).3 in bytes_by_index bytes small
decoded_small text (Err why) e = tt

data_tests : (dash long none : Bool) (text : List ℕ) → IfOk (cond dash (Ok []) (cond long (Err fault.TooLong) (cond none (Err fault.Hex) (decoded fault.Hex (decode_of text))))) AreSmall
data_tests true long none text = tt
data_tests false true none text = tt
data_tests false false true text = tt
data_tests false false false text = decoded_small text (decode_of text) refl

data_small : (field : List ℕ) → IfOk (data_field field) AreSmall
unfolding data_field
data_small field = data_tests (bytes_eq field (45 ∷ [])) (nat_lt longest_data (length field)) (length field == 0) field

key_tests : (test : Bool) (key : List ℕ) → AreSmall key → IfOk (cond test (Ok key) (Err fault.Key)) AreSmall
key_tests true key small = small
key_tests false key small = tt

key_small : (field : List ℕ) → AreSmall field → IfOk (key_field field) AreSmall
unfolding key_field
key_small field small = key_tests (list_all is_key_byte field && are_escapes field) (percent_decode field) (small_from_bytes (percent_decode field) (All-percent_decode field (bytes_from_small field small)))

-- where its fields are of bytes, a line's word and what comes after it say such a command
abbrev ReadsRanged : (List (List ℕ) → Result Request LineFault) → Type 0
ReadsRanged read = (fields : List (List ℕ)) → AreSmallFields fields → IfOk (read fields) IsRequest

none_read : (request : Request) → IsRequest request → ReadsRanged (no_fields request)
none_read request is [] all = is
none_read request is (a ∷ fields) all = tt

one_read : (read : List ℕ → Result Request LineFault) → ((a : List ℕ) → AreSmall a → IfOk (read a) IsRequest) → ReadsRanged (one_field read)
one_read read is [] all = tt
one_read read is (a ∷ []) all = is a all.0
one_read read is (a ∷ b ∷ fields) all = tt

two_read : (read : List ℕ → List ℕ → Result Request LineFault) → ((a b : List ℕ) → AreSmall a → AreSmall b → IfOk (read a b) IsRequest) → ReadsRanged (two_fields read)
two_read read is [] all = tt
two_read read is (a ∷ []) all = tt
two_read read is (a ∷ b ∷ []) all = is a b all.0 all.1.0
two_read read is (a ∷ b ∷ c ∷ fields) all = tt

three_read : (read : List ℕ → List ℕ → List ℕ → Result Request LineFault) → ((a b c : List ℕ) → IfOk (read a b c) IsRequest) → ReadsRanged (three_fields read)
three_read read is [] all = tt
three_read read is (a ∷ []) all = tt
three_read read is (a ∷ b ∷ []) all = tt
three_read read is (a ∷ b ∷ c ∷ []) all = is a b c
three_read read is (a ∷ b ∷ c ∷ d ∷ fields) all = tt

four_read : (read : List ℕ → List ℕ → List ℕ → List ℕ → Result Request LineFault) → ((a b c d : List ℕ) → IfOk (read a b c d) IsRequest) → ReadsRanged (four_fields read)
four_read read is [] all = tt
four_read read is (a ∷ []) all = tt
four_read read is (a ∷ b ∷ []) all = tt
four_read read is (a ∷ b ∷ c ∷ []) all = tt
four_read read is (a ∷ b ∷ c ∷ d ∷ []) all = is a b c d
four_read read is (a ∷ b ∷ c ∷ d ∷ e ∷ fields) all = tt

abbrev small : ℕ → ℕ → Type 0
small most n = n ≤ most

handle_key_read : (make : ℕ → List ℕ → Request) → ((h : ℕ) (k : List ℕ) → h ≤ 65535 → AreSmall k → IsRequest (make h k)) → ReadsRanged (two_fields (handle_and_key make))
handle_key_read make is =
    two_read (handle_and_key make) (λ a b sa sb. gives (small 65535) IsRequest (number_field 65535 a) _ (number_small 65535 a) (λ h sh. gives AreSmall IsRequest (key_field b) _ (key_small b sb) (λ k sk. is h k sh sk)))

handle_read : (make : ℕ → Request) → ((h : ℕ) → h ≤ 65535 → IsRequest (make h)) → ReadsRanged (one_field (handle_alone make))
handle_read make is = one_read (handle_alone make) (λ a sa. gives (small 65535) IsRequest (number_field 65535 a) _ (number_small 65535 a) (λ h sh. is h sh))

key_read : (make : List ℕ → Request) → ((k : List ℕ) → AreSmall k → IsRequest (make k)) → ReadsRanged (one_field (key_alone make))
key_read make is = one_read (key_alone make) (λ a sa. gives AreSmall IsRequest (key_field a) _ (key_small a sa) (λ k sk. is k sk))

number_read : (make : ℕ → Request) → ((n : ℕ) → n ≤ 18446744073709551615 → IsRequest (make n)) → ReadsRanged (one_field (number_alone make))
number_read make is = one_read (number_alone make) (λ a sa. gives (small 18446744073709551615) IsRequest (number_field 18446744073709551615 a) _ (number_small 18446744073709551615 a) (λ n sn. is n sn))

handle_stream_read : (make : ℕ → ℕ → Request) → ((h s : ℕ) → h ≤ 65535 → s ≤ 255 → IsRequest (make h s)) → ReadsRanged (two_fields (handle_and_stream make))
handle_stream_read make is =
    two_read (handle_and_stream make) (λ a b sa sb. gives (small 65535) IsRequest (number_field 65535 a) _ (number_small 65535 a) (λ h sh. gives (small 255) IsRequest (number_field 255 b) _ (number_small 255 b) (λ s ss. is h s sh ss)))

handle_range_read : (make : ℕ → ℕ → ℕ → Request) → ((h o c : ℕ) → h ≤ 65535 → o ≤ 18446744073709551615 → c ≤ 18446744073709551615 → IsRequest (make h o c)) → ReadsRanged (three_fields (handle_and_range make))
handle_range_read make is =
    three_read (handle_and_range make) (λ x y z. gives (small 65535) IsRequest (number_field 65535 x) _ (number_small 65535 x) (λ h sh. gives (small 18446744073709551615) IsRequest (number_field 18446744073709551615 y) _ (number_small 18446744073709551615 y) (λ o so. gives (small 18446744073709551615) IsRequest (number_field 18446744073709551615 z) _ (number_small 18446744073709551615 z) (λ c sc. is h o c sh so sc))))

handle_data_read : (make : ℕ → ℕ → List ℕ → Request) → ((h o : ℕ) (d : List ℕ) → h ≤ 65535 → o ≤ 18446744073709551615 → AreSmall d → IsRequest (make h o d)) → ReadsRanged (three_fields (handle_and_data make))
handle_data_read make is =
    three_read (handle_and_data make) (λ x y z. gives (small 65535) IsRequest (number_field 65535 x) _ (number_small 65535 x) (λ h sh. gives (small 18446744073709551615) IsRequest (number_field 18446744073709551615 y) _ (number_small 18446744073709551615 y) (λ o so. gives AreSmall IsRequest (data_field z) _ (data_small z) (λ d sd. is h o d sh so sd))))

stream_range_read : (make : ℕ → ℕ → ℕ → ℕ → Request) → ((h s o c : ℕ) → h ≤ 65535 → s ≤ 255 → o ≤ 18446744073709551615 → c ≤ 18446744073709551615 → IsRequest (make h s o c)) → ReadsRanged (four_fields (stream_and_range make))
stream_range_read make is =
    four_read (stream_and_range make) (λ w x y z. gives (small 65535) IsRequest (number_field 65535 w) _ (number_small 65535 w) (λ h sh. gives (small 255) IsRequest (number_field 255 x) _ (number_small 255 x) (λ s ss. gives (small 18446744073709551615) IsRequest (number_field 18446744073709551615 y) _ (number_small 18446744073709551615 y) (λ o so. gives (small 18446744073709551615) IsRequest (number_field 18446744073709551615 z) _ (number_small 18446744073709551615 z) (λ c sc. is h s o c sh ss so sc)))))

stream_data_read : (make : ℕ → ℕ → ℕ → List ℕ → Request) → ((h s o : ℕ) (d : List ℕ) → h ≤ 65535 → s ≤ 255 → o ≤ 18446744073709551615 → AreSmall d → IsRequest (make h s o d)) → ReadsRanged (four_fields (stream_and_data make))
stream_data_read make is =
    four_read (stream_and_data make) (λ w x y z. gives (small 65535) IsRequest (number_field 65535 w) _ (number_small 65535 w) (λ h sh. gives (small 255) IsRequest (number_field 255 x) _ (number_small 255 x) (λ s ss. gives (small 18446744073709551615) IsRequest (number_field 18446744073709551615 y) _ (number_small 18446744073709551615 y) (λ o so. gives AreSmall IsRequest (data_field z) _ (data_small z) (λ d sd. is h s o d sh ss so sd)))))

-- each line of the table
words_read : AllByRecursion (λ (line : List ℕ × (List (List ℕ) → Result Request LineFault)). ReadsRanged line.1) command_words
unfolding command_words reading
words_read = (
  handle_key_read to_create (λ h k sh sk. (omega arith, bytes_from_small k sk)),
  (
    handle_key_read to_open (λ h k sh sk. (omega arith, bytes_from_small k sk)),
    (
      stream_range_read to_read (λ h s o c sh ss so sc. (omega arith, omega arith, omega arith, omega arith)),
      (
        stream_data_read (λ h s o d. to_write h s o false d) (λ h s o d sh ss so sd. (omega arith, omega arith, omega arith, bytes_from_small d sd)),
        (
          stream_data_read (λ h s o d. to_write h s o true d) (λ h s o d sh ss so sd. (omega arith, omega arith, omega arith, bytes_from_small d sd)),
          (
            handle_stream_read to_size (λ h s sh ss. (omega arith, omega arith)),
            (
              handle_data_read to_sparse_write (λ h o d sh so sd. (omega arith, omega arith, bytes_from_small d sd)),
              (
                handle_range_read to_sparse_read (λ h o c sh so sc. (omega arith, omega arith, omega arith)),
                (
                  handle_range_read to_sparse_range (λ h o c sh so sc. (omega arith, omega arith, omega arith)),
                  (
                    handle_read to_doom (λ h sh. omega arith),
                    (
                      handle_read to_close (λ h sh. omega arith),
                      (
                        handle_read to_flush (λ h sh. omega arith),
                        (
                          key_read to_doom_key (λ k sk. bytes_from_small k sk),
                          (
                            number_read to_trim (λ n sn. omega arith),
                            (
                              none_read to_list tt,
                              (
                                none_read to_total tt,
                                tt,
                              ),
                            ),
                          ),
                        ),
                      ),
                    ),
                  ),
                ),
              ),
            ),
          ),
        ),
      ),
    ),
  ),
)

word_read : (word : List ℕ) (fields : List (List ℕ)) (table : List (List ℕ × (List (List ℕ) → Result Request LineFault))) → AreSmallFields fields → AllByRecursion (λ (line : List ℕ × (List (List ℕ) → Result Request LineFault)). ReadsRanged line.1) table → IfOk (by_word word fields table) IsRequest
word_read word fields [] all reads = tt
word_read word fields (line ∷ table) all reads =
    elim (bytes_eq word line.0) as (λ b. IfOk (cond b (line.1 fields) (by_word word fields table)) IsRequest) [
      | true ↦ reads.0 fields all
      | false ↦ word_read word fields table all reads.1
    ]

by_fields_read : (fields : List (List ℕ)) → AreSmallFields fields → IfOk (by_fields fields) IsRequest
by_fields_read [] all = tt
by_fields_read (word ∷ fields) all = word_read word fields command_words all.1 words_read

line_tests : (long empty : Bool) (rest : Result Request LineFault) → IfOk rest IsRequest → IfOk (cond long (Err fault.TooLong) (cond empty (Err fault.Empty) rest)) IsRequest
line_tests true empty rest is = tt
line_tests false true rest is = tt
line_tests false false rest is = is

-- what a line of bytes says is a command in the ranges of the types
pub read_text-ranged : (line : List ℕ) → IsBytes line → IfOk (read_text line) IsRequest
unfolding read_text
read_text-ranged line bytes = line_tests (nat_lt longest_line (length line)) (length line == 0) (by_fields (line_fields line)) (by_fields_read (line_fields line) (small_fields line (small_from_bytes line bytes)))
