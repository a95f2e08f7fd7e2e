-- Names of the parts of a sparse entry: `Range_`, the parent's key, `:`, the signature (its generation), `:`, the part, both numbers in lower-case hexadecimal.
use Rattle.std.specs.Prelude.{◌≡◌, ℕ, ◌+◌, ◌-◌, List, [], ◌∷◌, ◌++◌, length, drop, map, codes, Bool, true, false, ◌&&◌, nat_lt, nat_le, ◌==◌, if◌then◌else◌}
use Rattle.std.specs.Option.{option_and_then}
use Rattle.std.specs.Str.{bytes_eq}
use Rattle.std.specs.Fmt.{digits}
use Rattle.std.specs.Int.Digits.{number_from_digits}
use Rattle.std.specs.declared.option.Option.{Option}
use Rattle.std.specs.declared.option.Option.TheVariants.{None, Some}
use Rattle.blk_model.specs.Sizes.{longest_key, signatures, part_count}

-- a number in lower-case hexadecimal, without leading zeros; 0 is `0`
abbrev pub hexadecimal : ℕ → List ℕ
hexadecimal n = digits 16 false n

-- the bytes with which the name of a part begins, `Range_`
abbrev pub name_head : List ℕ
name_head = codes "Range_"

-- the byte `:`, which ends the key and the signature in the name of a part
abbrev pub colon : ℕ
colon = 58

-- the name of a part: its parent's key, the signature and its number
unfoldable pub child_name : List ℕ → ℕ → ℕ → List ℕ
child_name key signature part = name_head ++ key ++ colon ∷ hexadecimal signature ++ colon ∷ hexadecimal part

-- what the name of a part says: the parent's key, the signature, and the number of the part
pub record Name : Type 0 where
  pub key : List ℕ
  pub signature : ℕ
  pub part : ℕ

-- the longest name: `Range_`, the longest key, and two numbers of 16 and of 4 digits, each after a `:`
abbrev pub longest_name : ℕ
longest_name = longest_key + 28

-- whether a name may say this: a key of a byte or more, up to the longest, and a signature and a part below their limits
abbrev pub may_be_named : Name → Bool
may_be_named name = nat_lt 0 (length name.key) && nat_le (length name.key) longest_key && nat_lt name.signature signatures && nat_lt name.part part_count

-- these bytes are the name of a part, printed from this key, signature and number, which are within the limits
pub record IsName (bytes : List ℕ) (name : Name) : Type 0 where
  pub fits : may_be_named name ≡ true
  pub printed : bytes ≡ child_name name.key name.signature name.part

-- A name is read from its end.

-- the bytes before the last `:` and those after it
unfoldable pub split_last : List ℕ → Option (List ℕ × List ℕ)
split_last [] = None
split_last (byte ∷ bytes) = with_first byte bytes (split_last bytes) where
  with_first : ℕ → List ℕ → Option (List ℕ × List ℕ) → Option (List ℕ × List ℕ)
  with_first byte bytes (Some halves) = Some (byte ∷ halves.0, halves.1)
  with_first byte bytes None = if byte == colon then Some ([], bytes) else None

-- the value of a hexadecimal digit
abbrev pub hex_digit : ℕ → ℕ
hex_digit byte = if nat_lt byte 58 then byte - 48 else byte - 87

-- the value of some bytes as hexadecimal digits
abbrev pub hex_number : List ℕ → ℕ
hex_number bytes = number_from_digits 16 (map hex_digit bytes)

-- the key, the signature and the number that are read from a name's text: the number's digits, and what is before them, cut at its last `:`
abbrev pub said_by : List ℕ → List ℕ × List ℕ → Name
said_by part front = record { key = drop (length name_head) front.0; signature = hex_number front.1; part = hex_number part }

-- what was read from some bytes, where it is within the limits and the bytes are the name printed from it; else None
abbrev pub where_printed : List ℕ → Name → Option Name
where_printed bytes name = if may_be_named name && bytes_eq bytes (child_name name.key name.signature name.part) then Some name else None

-- what some bytes say as the name of a part, given both halves at their last `:`; None where they are no name
abbrev pub name_in_halves : List ℕ → List ℕ × List ℕ → Option Name
name_in_halves bytes halves = option_and_then (λ front. where_printed bytes (said_by halves.1 front)) (split_last halves.0)

-- what some bytes say as the name of a part, None where they are no name: the number is after the last `:`, the signature after the one before it
unfoldable pub read_name : List ℕ → Option Name
read_name bytes = option_and_then (name_in_halves bytes) (split_last bytes)

-- the bytes are read as a name exactly where they are that name
abbrev pub ReadsNames : Type 0
ReadsNames = (bytes : List ℕ) (name : Name) → (read_name bytes ≡ Some name → IsName bytes name) × (IsName bytes name → read_name bytes ≡ Some name)
