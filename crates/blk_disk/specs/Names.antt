-- The file names of the format crates as those of the folder interface.
use Rattle.blk_addr.specs.declared.file_id.FileId.{FileId}
use Rattle.blk_addr.specs.declared.file_id.FileId.TheVariants.{Index, Block, External}
use Rattle.blk_io.specs.declared.folder.FileId as folder
use Rattle.blk_io.specs.declared.folder.FileId.TheVariants as folder_names

-- the file name of the folder interface with the same variant and number
abbrev pub folder_name : FileId → folder.FileId
folder_name Index = folder_names.Index
folder_name (Block n) = folder_names.Block n
folder_name (External n) = folder_names.External n
