-- The file that an address names.
use Rattle.std.specs.Prelude.{ℕ, ◌==◌, if◌then◌else◌}
use Rattle.spec_format.specs.Address.{kind_of, file_selector, external_number, external}
use Rattle.blk_addr.specs.declared.file_id.FileId.{FileId}
use Rattle.blk_addr.specs.declared.file_id.FileId.TheVariants.{Block, External}

-- the file that an address names: its external file (kind 0), or else the block file of its selector
unfoldable pub file_of_word : ℕ → FileId
file_of_word w = if kind_of w == external then External (external_number w) else Block (file_selector w)
