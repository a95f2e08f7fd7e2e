-- What a change may touch: the places of bytes, and the files that it may make, delete, cut or lengthen.
use Rattle.std.specs.Prelude.{◌≡◌, ℕ, ◌+◌, Bool, true, false, ◌&&◌, ◌||◌, nat_le, nat_lt, List, [], ◌∷◌, length}
use Rattle.spec_image.specs.Image.{File, Image, same_file, has_file, length_of, byte}
use Rattle.spec_image.specs.Steps.{TrailStep, Word, SetLength, Delete, Note}

-- the frame of a change: which bytes of each file may change, and which files may be made, deleted, cut or lengthened
pub record Footprint : Type 0 where
  pub bytes : File → ℕ → Bool
  pub sizes : File → Bool

-- the empty footprint: no byte and no file may change
abbrev pub nothing : Footprint
nothing = record { bytes = λ file i. false; sizes = λ file. false }

-- the footprint of the n bytes of a file from a place on; the file's length stays
abbrev pub range : File → ℕ → ℕ → Footprint
range file place n = record { bytes = λ other i. same_file file other && (nat_le place i && nat_lt i (place + n)); sizes = λ other. false }

-- the footprint of the four bytes of one word of a file
abbrev pub one_word : File → ℕ → Footprint
one_word file place = range file place 4

-- the footprint of a file's presence and length, without its bytes
abbrev pub size_of : File → Footprint
size_of file = record { bytes = λ other i. false; sizes = λ other. same_file file other }

-- the footprint of a whole file: its bytes, its length and its presence
abbrev pub whole : File → Footprint
whole file = record { bytes = λ other i. same_file file other; sizes = λ other. same_file file other }

-- the union of two footprints
abbrev pub either : Footprint → Footprint → Footprint
either one other = record { bytes = λ file i. one.bytes file i || other.bytes file i; sizes = λ file. one.sizes file || other.sizes file }

-- the first footprint is a subset of the second
pub record IsWithin (one other : Footprint) : Type 0 where
  pub bytes : (file : File) (i : ℕ) → one.bytes file i ≡ true → other.bytes file i ≡ true
  pub sizes : (file : File) → one.sizes file ≡ true → other.sizes file ≡ true

-- outside a footprint each byte, each length and each file's presence is as before
pub record SameOutside (footprint : Footprint) (old new : Image) : Type 0 where
  pub bytes : (file : File) (i : ℕ) → footprint.bytes file i ≡ false → byte new file i ≡ byte old file i
  pub lengths : (file : File) → footprint.sizes file ≡ false → length_of new file ≡ length_of old file
  pub files : (file : File) → footprint.sizes file ≡ false → has_file new file ≡ has_file old file

-- the footprint of a step: the bytes of a write, the whole file of a change of length or of a deletion, nothing of a note
abbrev pub touched_by : TrailStep → Footprint
touched_by (Word file place bytes) = range file place (length bytes)
touched_by (SetLength file length) = whole file
touched_by (Delete file) = whole file
touched_by (Note number) = nothing

-- the union of the footprints of some steps
abbrev pub touched_by_all : List TrailStep → Footprint
touched_by_all [] = nothing
touched_by_all (step ∷ steps) = either (touched_by step) (touched_by_all steps)
