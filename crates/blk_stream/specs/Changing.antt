-- An entry record gets another size and address for one of its streams.
use Rattle.std.specs.Prelude.{ℕ, ◌≡◌, ◌+◌, List, [], ◌∷◌}
use Rattle.spec_image.specs.Image.{Block, Image}
use Rattle.spec_image.specs.Footprint.{Footprint, SameOutside, either, one_word}
use Rattle.spec_format.specs.Address.{file_selector, place}
use Rattle.spec_format.specs.Sealed.{RecordChecks, record_at}
use Rattle.blk_stream.specs.Streams.{address_place, address_word, size_place, size_word}

-- the word at offset `at` of the record with address `entry`
abbrev pub record_word : ℕ → ℕ → Footprint
record_word entry at = one_word (Block (file_selector entry)) (place entry + at)

-- the words of a record that a change of stream i may touch: its size, its address, and the checksum
abbrev pub stream_words : ℕ → ℕ → Footprint
stream_words entry i = either (record_word entry (size_place i)) (either (record_word entry (address_place i)) (record_word entry 92))

-- the changes of a record that set size and address of stream i, as offsets with words
abbrev pub place_changes : ℕ → ℕ → ℕ → List (ℕ × ℕ)
place_changes i size word = (size_place i, size) ∷ (address_place i, word) ∷ []

-- the record has this size and this address word for stream i
pub record HasWords (entry i size word : ℕ) (image : Image) : Type 0 where
  pub size_is : size_word image entry i ≡ size
  pub word_is : address_word image entry i ≡ word

-- `bytes` are the bytes of the record, which has this size and this address word for stream i
pub record IsStreamRead (bytes : List ℕ) (entry i size word : ℕ) (image : Image) : Type 0 where
  pub read : bytes ≡ record_at image entry
  pub words : HasWords entry i size word image

-- in the midst of a change of stream i's words: nothing else has changed, and the record's checksum matches or is absent
pub record NamesInProgress (entry i : ℕ) (from image : Image) : Type 0 where
  pub same : SameOutside (stream_words entry i) from image
  pub checks : RecordChecks entry image
