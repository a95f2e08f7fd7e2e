-- Files of a table get more blocks, or new files are added: what stays.
use Rattle.std.specs.Prelude.{◌≡◌, ◌≢◌, ℕ, ◌<◌, List, true, ◌≤◌, ◌++◌, ◌∷◌, Option, None, Some}
use Rattle.std.specs.List.{All}
use Rattle.spec_image.specs.Image.{Block, Image, byte}
use Rattle.spec_image.specs.Footprint.{Footprint, either}
use Rattle.spec_format.specs.Headers.{allocations_of, empty_of, hints_of}
use Rattle.spec_format.specs.BlockFiles.{is_among, most_blocks}
use Rattle.spec_format.specs.Maps.{is_block_marked, AreAllocations, EmptyAgrees, KeepsFile}
use Rattle.blk_disk.specs.declared.tables.BlockFiles.{BlockFiles}
use Rattle.blk_disk.specs.Tables.{all_files, blocks_of, files_of, length_in, stands_among}
use Rattle.blk_disk.specs.Growth.{addition_of, free_number, growth_of, new_groups, raised, whole_length}
use Rattle.blk_alloc.specs.Counting.{largest}

-- the counters of file n agree with its map and a list of its allocations, and num_entries may rise by one
pub record HasCounters (image : Image) (n : ℕ) : Type 0 where
  pub words : List ℕ
  pub are : AreAllocations image n words
  pub empty : EmptyAgrees image n
  pub room : allocations_of (byte image (Block n)) < largest

-- the four hints of a file are 0
abbrev pub HasNoHints : Image → ℕ → Type 0
HasNoHints image n = (i : ℕ) → i < 4 → hints_of (byte image (Block n)) i ≡ 0

-- `empty` of file n counts so many groups of which all four blocks are free
abbrev pub CountsFreeGroups : (n count : ℕ) → Image → Type 0
CountsFreeGroups n count image = empty_of (byte image (Block n)) 3 ≡ count

-- `empty` of file n counts those that it counted before, and the groups that an extension gives
abbrev pub RaisesFreeGroups : BlockFiles → (n : ℕ) → Image → Image → Type 0
RaisesFreeGroups files n from image = CountsFreeGroups n (raised from n (new_groups (blocks_of files n))) image

-- each file of the table keeps its hints
abbrev pub KeepsHintsOf : BlockFiles → Image → Image → Type 0
KeepsHintsOf files from image = (n i : ℕ) → is_among (all_files files) n ≡ true → i < 4 → hints_of (byte image (Block n)) i ≡ hints_of (byte from (Block n)) i

-- each file of the table keeps its allocations, and `empty` agrees with its map where it did
abbrev pub KeepsFiles : BlockFiles → Image → Image → Type 0
KeepsFiles files from image = (n : ℕ) → is_among (all_files files) n ≡ true → KeepsFile from image n

-- each file of the table keeps the marks of its blocks
abbrev pub KeepsMarks : BlockFiles → Image → Image → Type 0
KeepsMarks files from image = (n b : ℕ) → is_among (all_files files) n ≡ true → is_block_marked image n b ≡ is_block_marked from n b

-- each file of the old table is in the new one
abbrev pub KeepsAll : BlockFiles → BlockFiles → Type 0
KeepsAll old new = (n : ℕ) → is_among (all_files old) n ≡ true → is_among (all_files new) n ≡ true

-- no file's number of blocks has changed in the table
abbrev pub KeepsBlockCounts : BlockFiles → BlockFiles → Type 0
KeepsBlockCounts old new = (n : ℕ) → blocks_of new n ≡ blocks_of old n

-- the table has the same files of each kind
abbrev pub KeepsLists : BlockFiles → BlockFiles → Type 0
KeepsLists old new = (kind : ℕ) → files_of new kind ≡ files_of old kind

-- all files but file n are linked as of the same kinds as before
abbrev pub KeepsLinks : BlockFiles → BlockFiles → ℕ → Type 0
KeepsLinks old new n = (m kind : ℕ) → m ≢ n → is_among (files_of new kind) m ≡ is_among (files_of old kind) m

-- by the table a file is long enough for its header and all its blocks
abbrev pub HasItsBlocks : BlockFiles → ℕ → Type 0
HasItsBlocks files n = whole_length files n ≤ length_in files n

-- each address that is valid by the old table is valid by the new one
abbrev pub KeepsStanding : BlockFiles → BlockFiles → Type 0
KeepsStanding old new = (w : ℕ) → stands_among old w ≡ true → stands_among new w ≡ true

-- by the table a file has as many blocks as the format allows
abbrev pub HasMostBlocks : BlockFiles → ℕ → Type 0
HasMostBlocks files n = most_blocks ≤ blocks_of files n

-- n is the first file of the list that may be extended: it has fewer blocks than the format allows, and each file before it has as many
pub record IsFirstGrowing (files : BlockFiles) (list : List ℕ) (n : ℕ) : Type 0 where
  pub before : List ℕ
  pub behind : List ℕ
  pub split : list ≡ before ++ n ∷ behind
  pub full : All (HasMostBlocks files) before
  pub below : blocks_of files n < most_blocks

-- the first file of the list that may be extended, or None where each has as many blocks as the format allows
abbrev pub IsGrowing : BlockFiles → List ℕ → Option ℕ → Type 0
IsGrowing files list None = All (HasMostBlocks files) list
IsGrowing files list (Some n) = IsFirstGrowing files list n

-- the frame of adding a file of a kind, with the least free number, and extending it
abbrev pub new_room_of : BlockFiles → (kind : ℕ) → Footprint
new_room_of files kind = either (addition_of files kind) (growth_of (free_number files))
