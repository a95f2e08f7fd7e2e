-- Lemmas on the table of block files in memory: no file is in it twice.
use Rattle.std.specs.Prelude.{◌≡◌, ℕ, ◌==◌, true, Some}
use Rattle.std.specs.List.{IsDistinct}
use Rattle.spec_format.specs.Address.{is_block_kind}
use Rattle.spec_format.specs.BlockFiles.{is_among, is_block_count, kind_among}
use Rattle.blk_disk.specs.declared.tables.BlockFiles.{BlockFiles}
use Rattle.blk_disk.specs.Tables.{all_files, blocks_of, files_of}

-- all linked files of the table, of whatever kind, are distinct
abbrev pub KeptFilesAreDistinct : Type 0
KeptFilesAreDistinct = (files : BlockFiles) → IsDistinct (λ m n. m == n) (all_files files)

-- a file that the table has in the list of a kind is looked up as one of that kind
abbrev pub KeptFilesHaveOneKind : Type 0
KeptFilesHaveOneKind = (files : BlockFiles) (kind : ℕ) → is_block_kind kind ≡ true → (n : ℕ) → is_among (files_of files kind) n ≡ true → kind_among (files_of files) n ≡ Some kind

-- each file of the table has a number of blocks that the format allows
abbrev pub KeptFilesHaveBlockCounts : Type 0
KeptFilesHaveBlockCounts = (files : BlockFiles) (n : ℕ) → is_among (all_files files) n ≡ true → is_block_count (blocks_of files n) ≡ true
