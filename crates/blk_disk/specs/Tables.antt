-- The table of block files in memory: the linked files of each kind, and the number of blocks and the length of each.
use Rattle.std.specs.Prelude.{ℕ, ◌≡◌, ◌≢◌, List, [], ◌∷◌, ◌++◌, Bool, false, true, ◌&&◌, slice_index, ◌==◌, if◌then◌else◌, None}
use Rattle.spec_image.specs.Image.{Block, Image, length_of}
use Rattle.spec_format.specs.Address.{rankings, blocks_256, blocks_1k, blocks_4k, is_address, is_block_kind, kind_of}
use Rattle.spec_format.specs.BlockFiles.{linked, max_entries_in, is_among, kind_among, first_block_damage}
use Rattle.spec_format.specs.Standing.{stands_as_blocks}
use Rattle.blk_disk.specs.declared.tables.BlockFiles.{BlockFiles}

-- the linked files of a kind, in the order of the links
unfoldable pub files_of : BlockFiles → ℕ → List ℕ
files_of files kind =
    if kind == rankings then files.rankings.items else
    if kind == blocks_256 then files.b256.items else
    if kind == blocks_1k then files.b1k.items else
    if kind == blocks_4k then files.b4k.items else
    []

-- the linked files of all kinds, kind after kind
unfoldable pub all_files : BlockFiles → List ℕ
all_files files = files_of files rankings ++ files_of files blocks_256 ++ files_of files blocks_1k ++ files_of files blocks_4k

-- the number of blocks of a file
unfoldable pub blocks_of : BlockFiles → ℕ → ℕ
blocks_of files n = slice_index files.blocks n

-- the length of a file in bytes
unfoldable pub length_in : BlockFiles → ℕ → ℕ
length_in files n = slice_index files.lengths n

-- the table agrees with the headers and the lengths of an image's block files, and no check of a header fails
pub record Agrees (files : BlockFiles) (image : Image) : Type 0 where
  pub links : (kind : ℕ) → is_block_kind kind ≡ true → files_of files kind ≡ linked image kind
  pub blocks : (n : ℕ) → is_among (all_files files) n ≡ true → blocks_of files n ≡ max_entries_in image n
  pub lengths : (n : ℕ) → is_among (all_files files) n ≡ true → length_in files n ≡ length_of image (Block n)
  pub undamaged : first_block_damage image ≡ None

-- the table has no file
pub record HoldsNone (files : BlockFiles) : Type 0 where
  pub all : all_files files ≡ []
  pub each : (kind : ℕ) → files_of files kind ≡ []

-- file n, with so many blocks and bytes, is the new last file of a kind in the table, and all else is unchanged
pub record Joins (old new : BlockFiles) (kind n blocks size : ℕ) : Type 0 where
  pub last : files_of new kind ≡ files_of old kind ++ n ∷ []
  pub others : (other : ℕ) → other ≢ kind → files_of new other ≡ files_of old other
  pub blocks_there : blocks_of new n ≡ blocks
  pub size_there : length_in new n ≡ size
  pub other_blocks : (other : ℕ) → other ≢ n → blocks_of new other ≡ blocks_of old other
  pub other_lengths : (other : ℕ) → other ≢ n → length_in new other ≡ length_in old other

-- by the table a word is the address of blocks that are there: their file is linked and of their kind, and the blocks are among its blocks and end inside it
abbrev pub stands_among : BlockFiles → ℕ → Bool
stands_among files w = stands_as_blocks (kind_among (files_of files)) (blocks_of files) (length_in files) (λ number. false) w

-- by the table a word is the address of blocks of this kind that are there
unfoldable pub names_among : BlockFiles → ℕ → ℕ → Bool
names_among files kind w = is_address w && ((kind_of w == kind) && stands_among files w)

-- by the table a word is the address of a node that is there
abbrev pub is_node_among : BlockFiles → ℕ → Bool
is_node_among files w = names_among files rankings w

-- by the table a word is the address of an entry record that is there
abbrev pub is_record_among : BlockFiles → ℕ → Bool
is_record_among files w = names_among files blocks_256 w

-- the table has this length for file n, and all else is unchanged
pub record Resizes (old new : BlockFiles) (n size : ℕ) : Type 0 where
  pub files : (kind : ℕ) → files_of new kind ≡ files_of old kind
  pub all : all_files new ≡ all_files old
  pub blocks : (m : ℕ) → blocks_of new m ≡ blocks_of old m
  pub size_there : length_in new n ≡ size
  pub other_lengths : (other : ℕ) → other ≢ n → length_in new other ≡ length_in old other

-- the table has this number of blocks and this length for file n, and all else is unchanged
pub record Enlarges (old new : BlockFiles) (n blocks size : ℕ) : Type 0 where
  pub files : (kind : ℕ) → files_of new kind ≡ files_of old kind
  pub all : all_files new ≡ all_files old
  pub blocks_there : blocks_of new n ≡ blocks
  pub size_there : length_in new n ≡ size
  pub other_blocks : (other : ℕ) → other ≢ n → blocks_of new other ≡ blocks_of old other
  pub other_lengths : (other : ℕ) → other ≢ n → length_in new other ≡ length_in old other
