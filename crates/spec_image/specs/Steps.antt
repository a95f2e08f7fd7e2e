-- The steps by which a folder changes, and the image after some of them.
use Rattle.std.specs.Prelude.{ℕ, ◌+◌, ◌%◌, ◌<◌, ◌≤◌, ◌==◌, if◌then◌else◌, List, [], ◌∷◌, ◌++◌, length, take}
use Rattle.std.specs.List.{All}
use Rattle.std.specs.declared.option.Option.{Option}
use Rattle.std.specs.declared.option.Option.TheVariants.{None, Some}
use Rattle.spec_image.specs.Bytes.{spliced, resized, word_bytes}
use Rattle.spec_image.specs.Image.{File, Image, bytes_of, length_of, with_file}

-- a step of a write trace: bytes written at a place of a file, a new length of a file, a file deleted, or a completion marker (so many commands done)
pub data TrailStep : Type 0 where
  Word : File → ℕ → List ℕ → TrailStep
  SetLength : File → ℕ → TrailStep
  Delete : File → TrailStep
  Note : ℕ → TrailStep

-- the bytes of a file after a write at a place: its length stays, and a file that is not there stays absent
abbrev pub written_over : ℕ → List ℕ → Option (List ℕ) → Option (List ℕ)
written_over place bytes None = None
written_over place bytes (Some old) = Some (spliced place bytes old)

-- the image after a step
abbrev pub applied : TrailStep → Image → Image
applied (Word file place bytes) image = with_file image file (written_over place bytes (image file))
applied (SetLength file length) image = with_file image file (Some (resized length (bytes_of image file)))
applied (Delete file) image = with_file image file None
applied (Note number) image = image

-- the image after steps, the first of them first
abbrev pub after : List TrailStep → Image → Image
after [] image = image
after (step ∷ steps) image = after steps (applied step image)

-- the image after the first p steps of a write trace
abbrev pub image_at : Image → List TrailStep → ℕ → Image
image_at start trail p = after (take p trail) start

-- a write step has one to four bytes inside one aligned word, inside the file
pub record IsWordStep (image : Image) (file : File) (place : ℕ) (bytes : List ℕ) : Type 0 where
  pub some : 0 < length bytes
  pub inside_word : place % 4 + length bytes ≤ 4
  pub inside_file : place + length bytes ≤ length_of image file
  pub are_bytes : All (λ b. b < 256) bytes

-- a step is possible on an image: a write is a valid word write, and changes of length, deletions and notes always are
abbrev pub IsStep : Image → TrailStep → Type 0
IsStep image (Word file place bytes) = IsWordStep image file place bytes
IsStep image (SetLength file length) = Unit {0}
IsStep image (Delete file) = Unit {0}
IsStep image (Note number) = Unit {0}

-- the steps are possible in turn, each on the image that those before it leave
abbrev pub IsTrail : Image → List TrailStep → Type 0
IsTrail image [] = Unit {0}
IsTrail image (step ∷ steps) = IsStep image step × IsTrail (applied step image) steps

-- the word steps of a byte and the bytes after it, from those of the bytes after it: it joins their first write, unless its aligned word ends with it
unfoldable pub before_words : File → ℕ → ℕ → List TrailStep → List TrailStep
before_words file place b [] = Word file place (b ∷ []) ∷ []
before_words file place b (Word other next bytes ∷ steps) =
    if (place + 1) % 4 == 0 then Word file place (b ∷ []) ∷ Word other next bytes ∷ steps else Word file place (b ∷ bytes) ∷ steps
before_words file place b steps = Word file place (b ∷ []) ∷ steps

-- a write of bytes from a place on, cut into the aligned words that it touches, in rising offset
unfoldable pub words : File → ℕ → List ℕ → List TrailStep
words file place [] = []
words file place (b ∷ bytes) = before_words file place b (words file (place + 1) bytes)

-- the write of one whole word
unfoldable pub word_step : File → ℕ → ℕ → List TrailStep
word_step file place value = Word file place (word_bytes value) ∷ []

-- the writes of these words, each with its place, the first of them first
abbrev pub word_steps : File → List (ℕ × ℕ) → List TrailStep
word_steps file [] = []
word_steps file (word ∷ words) = word_step file word.0 word.1 ++ word_steps file words

-- bytes overwritten by one word at a place
unfoldable pub with_word : ℕ → ℕ → List ℕ → List ℕ
with_word place value bytes = spliced place (word_bytes value) bytes

-- bytes overwritten by some words, each with its place, the first of them first
abbrev pub with_words : List (ℕ × ℕ) → List ℕ → List ℕ
with_words [] bytes = bytes
with_words (word ∷ words) bytes = with_words words (with_word word.0 word.1 bytes)
