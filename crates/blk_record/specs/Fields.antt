-- The 32-bit fields of a record.
use Rattle.std.specs.Prelude.{ℕ, ◌≡◌, ◌≢◌, ◌+◌, ◌%◌, ◌<◌, ◌≤◌, List, length, take, drop}
use Rattle.spec_image.specs.Bytes.{content, spliced, word_at}

-- a field begins at this offset in a record of `size` bytes
pub record IsField (size place : ℕ) : Type 0 where
  pub aligned : place % 4 ≡ 0
  pub inside : place < size

-- all fields of a record of `size` bytes are unchanged, but perhaps the one at this offset
abbrev pub OtherFieldsStay : ℕ → ℕ → List ℕ → List ℕ → Type 0
OtherFieldsStay size place old new = (other : ℕ) → IsField size other → other ≢ place → word_at (content new) other ≡ word_at (content old) other

-- the four bytes of the field at an offset of a window
abbrev pub field_bytes : ℕ → List ℕ → List ℕ
field_bytes place window = take 4 (drop place window)

-- where four bytes were written into a window, their word is read
abbrev pub WrittenWordsAreRead : Type 0
WrittenWordsAreRead = (place : ℕ) (bytes window : List ℕ) → place + 4 ≤ length window → length bytes ≡ 4 → word_at (content (spliced place bytes window)) place ≡ word_at (content bytes) 0

-- where four bytes were written over a field, all other fields are unchanged
abbrev pub WrittenFieldsLeaveOthers : Type 0
WrittenFieldsLeaveOthers = (size place : ℕ) (bytes window : List ℕ) → IsField size place → length bytes ≡ 4 → OtherFieldsStay size place window (spliced place bytes window)
