-- A stream is written where it lies, without a new place.
use Rattle.std.specs.Prelude.{ℕ, ◌≡◌, ◌-◌, ◌==◌, if◌then◌else◌, List, [], ◌∷◌, ◌++◌, Bool, length}
use Rattle.spec_image.specs.Bytes.{zeros}
use Rattle.blk_model.specs.Effects.{stream_after}
use Rattle.spec_image.specs.Image.{Block, External, Image, length_of}
use Rattle.spec_image.specs.Steps.{TrailStep, SetLength}
use Rattle.spec_image.specs.Footprint.{Footprint, SameOutside, either, range, whole}
use Rattle.spec_format.specs.Address.{kind_of, external, external_number, file_selector, place, byte_size}
use Rattle.spec_format.specs.Sealed.{RecordChecks, steps_over}
use Rattle.blk_entry.specs.Keys.{data_at}
use Rattle.blk_entry.specs.Steps.{data_steps}
use Rattle.blk_stream.specs.Streams.{size_place, size_word}
use Rattle.blk_stream.specs.Changing.{record_word}
use Rattle.blk_stream.specs.Writing.{size_after}

-- the steps that write zeros from `start` to `end` (itself not counted) of the data at address w
abbrev pub gap_steps : ℕ → ℕ → ℕ → List TrailStep
gap_steps w start end = data_steps w start (zeros (end - start))

-- the step that sets the length of the external file of address w, or none where it has that length
abbrev pub external_length_steps : ℕ → ℕ → ℕ → List TrailStep
external_length_steps w old size = if size == old then [] else SetLength (External (external_number w)) size ∷ []

-- the steps that make space before the bytes of a write: an external file gets its new length; in blocks zeros are written between the old end and the offset
unfoldable pub room_steps : ℕ → ℕ → ℕ → ℕ → List TrailStep
room_steps w old size offset = if kind_of w == external then external_length_steps w old size else gap_steps w old offset

-- the steps that change the data at address w: space is made, and then the bytes are written at the offset
abbrev pub here_steps : ℕ → ℕ → ℕ → ℕ → List ℕ → List TrailStep
here_steps w old size offset bytes = room_steps w old size offset ++ data_steps w offset bytes

-- the steps that give stream i of a record with these bytes its new size, or none where it has that size
unfoldable pub size_steps : List ℕ → ℕ → ℕ → ℕ → ℕ → List TrailStep
size_steps record_bytes entry i old size = if size == old then [] else steps_over record_bytes entry ((size_place i, size) ∷ [])

-- all steps of a write where the stream lies: the data, and then the size in the record
abbrev pub inside_steps : List ℕ → ℕ → ℕ → ℕ → ℕ → ℕ → ℕ → List ℕ → List TrailStep
inside_steps record_bytes entry i w old size offset bytes = here_steps w old size offset bytes ++ size_steps record_bytes entry i old size

-- Footprints.

-- the place of the data at address w: all of its blocks, or its external file
unfoldable pub data_of : ℕ → Footprint
data_of w = if kind_of w == external then whole (External (external_number w)) else range (Block (file_selector w)) (place w) (byte_size w)

-- the words of a record that a change of stream i's size touches: the size and the checksum
abbrev pub size_words : ℕ → ℕ → Footprint
size_words entry i = either (record_word entry (size_place i)) (record_word entry 92)

-- in the midst of a write where the stream lies: nothing but the data and the stream's size has changed, and the record's checksum matches or is absent
pub record WritesInProgress (entry i w : ℕ) (from image : Image) : Type 0 where
  pub same : SameOutside (either (data_of w) (size_words entry i)) from image
  pub checks : RecordChecks entry image

-- if data lies in an external file, this is as long as the data
abbrev pub HasStreamLength : ℕ → ℕ → Image → Type 0
HasStreamLength w size image = kind_of w ≡ external → length_of image (External (external_number w)) ≡ size

-- a write where the stream lies is done: the data is that of the stream after it, with or without a cut, and the record has the new size; the data was changed
-- before the record was
pub record WritesInside (entry i w old size offset : ℕ) (bytes : List ℕ) (from image : Image) : Type 0 where
  pub written : (cut : Bool) → size ≡ size_after cut old offset (length bytes) → data_at image w 0 size ≡ stream_after cut (data_at from w 0 old) offset bytes
  pub size_is : size_word from entry i ≡ old → size_word image entry i ≡ size
  pub long : HasStreamLength w size image
  pub middle : Image
  pub data_first : SameOutside (data_of w) from middle
  pub words_then : SameOutside (size_words entry i) middle image
