-- File names of the folder interface, compared by the files that they denote.
use Rattle.std.specs.Prelude.{Bool, Option}
use Rattle.std.specs.Option.{option_map}
use Rattle.spec_image.specs.Image.{same_file}
use Rattle.spec_image.specs.Order as order
use Rattle.blk_io.specs.declared.folder.FileId.{FileId}
use Rattle.blk_io.specs.FileNames.{file_of}

-- the two names denote the same file
abbrev pub is_file : FileId → FileId → Bool
is_file one other = same_file (file_of one) (file_of other)

-- a name is before another in the order of files: the index, the block files by number, the external files by number
abbrev pub ComesBefore : FileId → FileId → Type 0
ComesBefore one other = order.IsBefore (file_of one) (file_of other)

-- a name is after another in the order of files, or there is no other
abbrev pub ComesAfter : Option FileId → FileId → Type 0
ComesAfter after file = order.IsAfter (option_map file_of after) (file_of file)
