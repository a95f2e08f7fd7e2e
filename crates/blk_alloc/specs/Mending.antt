-- Writes that are made only where they change something.
use Rattle.std.specs.Prelude.{◌≡◌, ◌≢◌, ◌⊎◌, ℕ, ◌+◌, ◌*◌, ◌<◌, ◌≤◌, List, [], ◌∷◌, length}
use Rattle.std.specs.Option.{ForSome}
use Rattle.spec_image.specs.Bytes.{content, range_at}
use Rattle.spec_image.specs.Image.{Block, File, Image, byte, length_of}
use Rattle.spec_image.specs.Steps.{TrailStep, Word, SetLength, Delete, Note, applied}
use Rattle.spec_image.specs.Footprint.{SameOutside, range}
use Rattle.spec_image.specs.Told.{Told, Along, Applies, IsQuiet}

-- a step is needed: it writes bytes that differ from those there, or lengthens a file
abbrev pub IsNeeded : Image → TrailStep → Type 0
IsNeeded image (Word file place bytes) = range_at (byte image file) place (length bytes) ≢ bytes
IsNeeded image (SetLength file n) = length_of image file < n
IsNeeded image (Delete file) = ⊥
IsNeeded image (Note number) = ⊥

-- each of the steps is needed in the image in which it is made
abbrev pub AreNeeded : Image → List TrailStep → Type 0
AreNeeded image [] = Unit {0}
AreNeeded image (step ∷ steps) = IsNeeded image step × AreNeeded (applied step image) steps

-- steps were made, none of them a note and each of them needed; P holds of the image before each step and after the last
pub record PassesNeeded (old new : Told) (P : Image → Type 0) : Type 0 where
  pub steps : List TrailStep
  pub applies : Applies old new steps
  pub quiet : IsQuiet steps
  pub along : ForSome old.files (λ image. Along P image steps)
  pub needed : ForSome old.files (λ image. AreNeeded image steps)

-- the first `count` of the bytes are in the file, from offset `place` on
abbrev pub StandAt : (file : File) (place : ℕ) (bytes : List ℕ) (count : ℕ) → Image → Type 0
StandAt file place bytes count image = (i : ℕ) → i < count → content bytes i ≡ byte image file (place + i)

-- the length of the file hasn't changed
abbrev pub KeepsLength : File → Image → Image → Type 0
KeepsLength file from image = length_of image file ≡ length_of from file

-- the first `count` of the bytes were written to the file from offset `place` on, and nothing else has changed
pub record AreBytesWritten (file : File) (place : ℕ) (bytes : List ℕ) (count : ℕ) (from image : Image) : Type 0 where
  pub same : SameOutside (range file place count) from image
  pub there : (i : ℕ) → i < count → byte image file (place + i) ≡ content bytes i

-- nothing has changed, or a word was written to file n at offset `place` and nothing else has changed
abbrev pub IsOldOrWord : (n place : ℕ) (bytes : List ℕ) → Image → Image → Type 0
IsOldOrWord n place bytes from image = (image ≡ from) ⊎ AreBytesWritten (Block n) place bytes 4 from image

-- the first so many whole words of the bytes were written to the file from offset `place` on, and nothing else has changed
pub record IsPrefixWritten (file : File) (place : ℕ) (bytes : List ℕ) (from image : Image) : Type 0 where
  pub words : ℕ
  pub most : 4 * words ≤ length bytes
  pub written : AreBytesWritten file place bytes (4 * words) from image
