-- What holds of the block files of a folder while it is open.
use Rattle.spec_image.specs.Image.{Image}
use Rattle.spec_format.specs.Headers.{HasWholeIndex}
use Rattle.blk_disk.specs.declared.tables.BlockFiles.{BlockFiles}
use Rattle.blk_disk.specs.Tables.{Agrees}

-- the table of block files agrees with the folder, and the index has its whole length
pub record IsOpen (files : BlockFiles) (image : Image) : Type 0 where
  pub agrees : Agrees files image
  pub whole_index : HasWholeIndex image
