-- Names of cache files on the host.
use Rattle.std.specs.Prelude.{◌<◌, ◌≤◌, ◌^◌, ℕ, List}
use Rattle.blk_io.specs.declared.folder.FileId.{FileId}
use Rattle.blk_io.specs.declared.folder.FileId.TheVariants.{Index, Block, External}
use Rattle.blk_io.specs.FileNames.{file_of}
use Rattle.blk_io.specs.Texts.{name_of}

-- the file is one that a cache may have: the index, a block file with a number below 256, or an external file with a number of 28 bits other than 0
abbrev pub IsCacheFile : FileId → Type 0
IsCacheFile Index = Unit {0}
IsCacheFile (Block n) = n < 2 ^ 8
IsCacheFile (External n) = (1 ≤ n) × (n < 2 ^ 28)

-- the name of a cache file
abbrev pub name_text : FileId → List ℕ
name_text file = name_of (file_of file)
