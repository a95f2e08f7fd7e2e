-- The order of the files of a folder: the index, the block files by number, the external files by number.
use Rattle.std.specs.Prelude.{◌≡◌, ◌⊎◌, ℕ, ◌<◌, Option, None, Some, true}
use Rattle.std.specs.Option.{ForSome}
use Rattle.spec_image.specs.Image.{File, Index, Block, External, Image, has_file}

-- the place of a kind of file in the order
abbrev pub file_rank : File → ℕ
file_rank Index = 0
file_rank (Block n) = 1
file_rank (External n) = 2

-- the number of a file of its kind
abbrev pub file_number : File → ℕ
file_number Index = 0
file_number (Block n) = n
file_number (External n) = n

-- one file comes before another in the order: by kind, and then by number
abbrev pub IsBefore : File → File → Type 0
IsBefore one other = (file_rank one < file_rank other) ⊎ ((file_rank one ≡ file_rank other) × (file_number one < file_number other))

-- the file comes after the one before it in the order, where one is given; any file does where none is given
abbrev pub IsAfter : Option File → File → Type 0
IsAfter None file = Unit {0}
IsAfter (Some before) file = IsBefore before file

-- an optional file is given, and it is this file or comes before it in the order
abbrev pub IsUpTo : File → Option File → Type 0
IsUpTo file None = ⊥
IsUpTo file (Some first) = (first ≡ file) ⊎ IsBefore first file

-- next is the first file of the image that comes after another, or the first of all where no other is given; None where there is none
pub record IsNextFile (image : Image) (before next : Option File) : Type 0 where
  pub there : ForSome next (λ file. has_file image file ≡ true)
  pub follows : ForSome next (IsAfter before)
  pub least : (file : File) → IsAfter before file → has_file image file ≡ true → IsUpTo file next
