-- The files of a folder in memory as an image, and the search for the file after a given one in the order of files.
use Rattle.std.specs.Prelude.{◌≡◌, ℕ, ◌<◌, if◌then◌else◌, ◌⊎◌, List, [], ◌∷◌, length, take, slice_index_or, Option, None, Some}
use Rattle.std.specs.Option.{ForSome}
use Rattle.spec_image.specs.Image.{File, Image, same_file}
use Rattle.spec_image.specs.Order.{IsAfter, IsBefore, IsUpTo}
use Rattle.blk_io.specs.declared.mem_files.MemFile.{MemFile}
use Rattle.blk_io.specs.FileNames.{file_of}

-- the image of a list of named files: each file has the bytes of the first element with its name
abbrev pub image_of : List MemFile → Image
image_of [] file = None
image_of (one ∷ files) file = if same_file (file_of one.file) file then Some one.bytes.items else image_of files file

-- element i of the list is the first one that is named like this file
pub record IsPlaceOf (files : List MemFile) (file : File) (i : ℕ) : Type 0 where
  pub one : MemFile
  pub within : i < length files
  pub there : one ≡ slice_index_or files i one
  pub named : file_of one.file ≡ file
  pub none_before : image_of (take i files) file ≡ None

-- a file that lies between `after` and the candidate `next` in the order of files becomes the new candidate
pub record IsFileBetween (file : File) (after next new : Option File) : Type 0 where
  pub is : new ≡ Some file
  pub follows : IsAfter after file
  pub before : ForSome next (IsBefore file)

-- the candidate `next` stays, since the file isn't between `after` and it
pub record KeepsPlace (file : File) (after next new : Option File) : Type 0 where
  pub is : new ≡ next
  pub later : IsAfter after file → IsUpTo file next

-- one step of a search for the first file after `after`: the new candidate is the nearer of this file and the candidate so far
abbrev pub IsNearer : File → Option File → Option File → Option File → Type 0
IsNearer file after next new = IsFileBetween file after next new ⊎ KeepsPlace file after next new
