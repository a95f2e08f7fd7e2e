-- What the files of a folder hold.
use Rattle.std.specs.Prelude.{ℕ, ◌+◌, ◌<◌, ◌≤◌, List, [], Bool, true, false, length, nat_eq, if◌then◌else◌, unwrap_or, is_some}
use Rattle.std.specs.declared.option.Option.{Option}
use Rattle.std.specs.declared.option.Option.TheVariants.{None}
use Rattle.spec_image.specs.Bytes.{content, word_at}

-- the index, the block file of a number, the external file of a number
pub data File : Type 0 where
  Index : File
  Block : ℕ → File
  External : ℕ → File

-- whether two files are the same: of one kind and of one number
abbrev pub same_file : File → File → Bool
same_file Index Index = true
same_file (Block m) (Block n) = nat_eq m n
same_file (External m) (External n) = nat_eq m n
same_file _ _ = false

-- the file system state: the bytes of each file, None for a file that is not there
abbrev pub Image : Type 0
Image = File → Option (List ℕ)

-- the image without files
abbrev pub empty_image : Image
empty_image file = None

-- whether the file is there
abbrev pub has_file : Image → File → Bool
has_file image file = is_some (image file)

-- the bytes of a file, an empty list where it is not there
abbrev pub bytes_of : Image → File → List ℕ
bytes_of image file = unwrap_or (image file) []

-- the length of a file in bytes, 0 where it is not there
abbrev pub length_of : Image → File → ℕ
length_of image file = length (bytes_of image file)

-- the byte at a place of a file, 0 past its end
abbrev pub byte : Image → File → ℕ → ℕ
byte image file = content (bytes_of image file)

-- the word at a place of a file, where a byte past the end counts as 0
abbrev pub word : Image → File → ℕ → ℕ
word image file i = word_at (byte image file) i

-- the n bytes from a place on lie inside the file
abbrev pub HasRange : Image → File → ℕ → ℕ → Type 0
HasRange image file i n = i + n ≤ length_of image file

-- the image with the file replaced, made or taken away
abbrev pub with_file : Image → File → Option (List ℕ) → Image
with_file image file bytes other = if same_file file other then bytes else image other

-- each byte of each file is below 256
abbrev pub AreBytes : Image → Type 0
AreBytes image = (file : File) (i : ℕ) → byte image file i < 256
