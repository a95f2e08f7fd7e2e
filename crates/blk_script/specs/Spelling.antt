-- How requests, keys, numbers and data are printed: one spelling for each.
use Rattle.std.specs.Prelude.{ℕ, Bool, true, false, ◌&&◌, ◌||◌, ◌==◌, nat_le, if◌then◌else◌, List, [], ◌∷◌, ◌++◌, codes}
use Rattle.std.specs.List.{flat_map, join_with_byte, list_any}
use Rattle.std.specs.Fmt.{decimal}
use Rattle.hex.specs.Hex.{encode_lower}
use Rattle.percent_encoding.specs.Percent.{percent_encode_byte}
use Rattle.blk_script.specs.declared.print.Field.{Field}
use Rattle.blk_script.specs.declared.print.Field.TheVariants as field
use Rattle.blk_model.specs.Request.{Request, to_create, to_open, to_read, to_write, to_size, to_sparse_write, to_sparse_read, to_sparse_range, to_doom, to_doom_key, to_close, to_flush, to_list, to_trim, to_total}

-- a number in decimal
abbrev pub number_text : ℕ → List ℕ
number_text n = decimal n

-- a byte of a key that is printed as it is: a letter, a digit, or one of six marks
abbrev pub is_plain_byte : ℕ → Bool
is_plain_byte byte =
    (nat_le 97 byte && nat_le byte 122) || (nat_le 65 byte && nat_le byte 90) || (nat_le 48 byte && nat_le byte 57)
    || list_any (λ mark. byte == mark) (codes "-._~/:")

-- a byte of a key as it is printed: itself, or a percent sign and two upper-case hexadecimal digits
abbrev pub key_byte_text : ℕ → List ℕ
key_byte_text byte = if is_plain_byte byte then byte ∷ [] else percent_encode_byte byte

-- a key as it is printed
unfoldable pub key_text : List ℕ → List ℕ
key_text key = flat_map key_byte_text key

-- bytes as they are printed: two lower-case hexadecimal digits each, or `-` for none
unfoldable pub data_text : List ℕ → List ℕ
data_text [] = codes "-"
data_text (byte ∷ bytes) = encode_lower (byte ∷ bytes)

-- the fields, with one space between each two
abbrev pub spaced : List (List ℕ) → List ℕ
spaced fields = join_with_byte 32 fields

-- the fields as a line, with its line end
abbrev pub line : List (List ℕ) → List ℕ
line fields = spaced fields ++ 10 ∷ []

-- a field as it is printed: a word as it is, a number, a key or data
abbrev pub field_text : Field → List ℕ
field_text (field.Word word) = word.now
field_text (field.Number n) = number_text n
field_text (field.Key key) = key_text key.now
field_text (field.Data bytes) = data_text bytes.now

-- the fields of a request as they are printed
abbrev pub fields_for : Request → List (List ℕ)
fields_for (to_create handle key) = codes "create" ∷ number_text handle ∷ key_text key ∷ []
fields_for (to_open handle key) = codes "open" ∷ number_text handle ∷ key_text key ∷ []
fields_for (to_read handle stream offset count) = codes "read" ∷ number_text handle ∷ number_text stream ∷ number_text offset ∷ number_text count ∷ []
fields_for (to_write handle stream offset false bytes) = codes "write" ∷ number_text handle ∷ number_text stream ∷ number_text offset ∷ data_text bytes ∷ []
fields_for (to_write handle stream offset true bytes) = codes "cut" ∷ number_text handle ∷ number_text stream ∷ number_text offset ∷ data_text bytes ∷ []
fields_for (to_size handle stream) = codes "size" ∷ number_text handle ∷ number_text stream ∷ []
fields_for (to_sparse_write handle offset bytes) = codes "swrite" ∷ number_text handle ∷ number_text offset ∷ data_text bytes ∷ []
fields_for (to_sparse_read handle offset count) = codes "sread" ∷ number_text handle ∷ number_text offset ∷ number_text count ∷ []
fields_for (to_sparse_range handle offset count) = codes "srange" ∷ number_text handle ∷ number_text offset ∷ number_text count ∷ []
fields_for (to_doom handle) = codes "doom" ∷ number_text handle ∷ []
fields_for (to_doom_key key) = codes "doomkey" ∷ key_text key ∷ []
fields_for (to_close handle) = codes "close" ∷ number_text handle ∷ []
fields_for (to_flush handle) = codes "flush" ∷ number_text handle ∷ []
fields_for to_list = codes "list" ∷ []
fields_for (to_trim bytes) = codes "trim" ∷ number_text bytes ∷ []
fields_for to_total = codes "total" ∷ []

-- the line of a request, without its line end
unfoldable pub line_of : Request → List ℕ
line_of request = spaced (fields_for request)

-- the data of a request that writes; none for other requests
abbrev pub data_in : Request → List ℕ
data_in (to_write handle stream offset cut bytes) = bytes
data_in (to_sparse_write handle offset bytes) = bytes
data_in _ = []
