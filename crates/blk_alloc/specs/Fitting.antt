-- Where blocks are allocated: the first file of a kind with space by its counters, and in it the group to which its hints lead.
use Rattle.std.specs.Prelude.{◌≡◌, ◌≢◌, ◌⊎◌, ℕ, ◌+◌, ◌*◌, ◌/◌, ◌%◌, ◌<◌, ◌≤◌, Bool, List, ◌∷◌, ◌++◌, true, slice_index}
use Rattle.std.specs.List.{All}
use Rattle.std.specs.Option.{ForSome}
use Rattle.spec_image.specs.Bytes.{range_at, word_bytes}
use Rattle.spec_image.specs.Image.{Block, Image, byte}
use Rattle.spec_image.specs.Told.{Told}
use Rattle.spec_format.specs.BlockFiles.{is_among, max_entries_in, most_blocks}
use Rattle.spec_format.specs.Headers.{block_fields_length, empty_of, empty_place, hints_of}
use Rattle.spec_format.specs.Maps.{is_block_marked, group_size, groups_of, longest_run, map_place}
use Rattle.blk_io.specs.declared.folder.FileId.TheVariants as names
use Rattle.blk_io.specs.declared.fault.Damage.{Damage}
use Rattle.blk_io.specs.Faults.{IsShort}
use Rattle.blk_disk.specs.declared.tables.BlockFiles.{BlockFiles}
use Rattle.blk_disk.specs.Tables.{blocks_of, files_of}
use Rattle.blk_alloc.specs.declared.blocks.Blocks.{Blocks}
use Rattle.blk_alloc.specs.declared.blocks.Found.{Found}
use Rattle.blk_alloc.specs.declared.searching.Group.{Group}
use Rattle.blk_alloc.specs.Places.{is_place, AreNoPlaces}

-- Which file.

-- a file has no space for so many blocks: `empty` counts no group with a longest free run of so many or more
abbrev pub HasNoRoom : Image → ℕ → ℕ → Type 0
HasNoRoom image count n = (i : ℕ) → i < 4 → count ≤ i + 1 → empty_of (byte image (Block n)) i ≡ 0

-- a file has space for `count` blocks, and i + 1 is the length of the free run that is sought for them: the least, from `count` on, of which `empty` counts a
-- group
pub record IsGroupSought (image : Image) (n count i : ℕ) : Type 0 where
  pub small : i < 4
  pub enough : count ≤ i + 1
  pub counted : 0 < empty_of (byte image (Block n)) i
  pub least : (j : ℕ) → j < i → count ≤ j + 1 → empty_of (byte image (Block n)) j ≡ 0

-- word i of `empty` is the first, from the one for runs of `count` blocks on, that counts a group
abbrev pub IsLeastCounted : (empty : List ℕ) (count i : ℕ) → Type 0
IsLeastCounted empty count i = (i < 4) × (count ≤ i + 1) × (0 < slice_index empty i) × ((j : ℕ) → j < i → count ≤ j + 1 → slice_index empty j ≡ 0)

-- Which group.

-- the group at which a search is after so many steps, from the hint on and around the end
abbrev pub group_after : (groups hint turns : ℕ) → ℕ
group_after groups hint turns = (hint + turns) % groups

-- `group` is the first group whose longest free run is `run` blocks, in a search from the hint on and around the end
pub record IsFirstMet (marked : ℕ → Bool) (groups hint run group : ℕ) : Type 0 where
  pub turns : ℕ
  pub few : turns < groups
  pub met : group ≡ group_after groups hint turns
  pub longest : longest_run marked group ≡ run
  pub none_before : (k : ℕ) → k < turns → longest_run marked (group_after groups hint k) ≢ run

-- block `start` is the first of its group from which `count` free blocks lie inside the group
pub record IsLeastOfGroup (marked : ℕ → Bool) (count start : ℕ) : Type 0 where
  pub place : is_place marked count start ≡ true
  pub least : AreNoPlaces marked count (group_size * (start / group_size)) start

-- no group of file n, of those that it has by the table, has `run` blocks as its longest free run
abbrev pub HasNoRun : BlockFiles → (n run : ℕ) → Image → Type 0
HasNoRun files n run image = (g : ℕ) → g < groups_of (blocks_of files n) → longest_run (is_block_marked image n) g ≢ run

-- the number of a group in its file
abbrev pub group_number : Group → ℕ
group_number group = 8 * group.number + group.place

-- it is a group of file n by the table
abbrev pub IsGroupOf : BlockFiles → (n : ℕ) → Group → Type 0
IsGroupOf files n group = (group.place < 8) × (group_number group < groups_of (blocks_of files n))

-- it is the group of file n that the hint names, modulo the number of groups
abbrev pub IsHintedGroup : BlockFiles → (n hint : ℕ) → Group → Type 0
IsHintedGroup files n hint group = group_number group ≡ hint % groups_of (blocks_of files n)

-- it is the first group of file n whose longest free run is `run` blocks, in a search from the hint on and around the end
abbrev pub IsMetFirst : BlockFiles → (n hint run : ℕ) → Group → Image → Type 0
IsMetFirst files n hint run group image = IsFirstMet (is_block_marked image n) (groups_of (blocks_of files n)) hint run (group_number group)

-- the blocks from `start` on are those to which hint i leads in file n: in the first group, from the hint on, whose longest free run is i + 1, and as near its
-- start as they fit
pub record IsByHint (image : Image) (n groups count i start : ℕ) : Type 0 where
  pub there : start / group_size < groups
  pub first : IsFirstMet (is_block_marked image n) groups (hints_of (byte image (Block n)) i) (i + 1) (start / group_size)
  pub least : IsLeastOfGroup (is_block_marked image n) count start

-- the blocks from `start` on lie in the very group that hint i of file n names, modulo the number of groups that it has by the table
abbrev pub IsAtHint : BlockFiles → (n i start : ℕ) → Image → Type 0
IsAtHint files n i start image = start / group_size ≡ hints_of (byte image (Block n)) i % groups_of (blocks_of files n)

-- the blocks that were found are those to which hint i of file n leads
abbrev pub IsFoundByHint : BlockFiles → (n count i : ℕ) → Found → Image → Type 0
IsFoundByHint files n count i found image = IsByHint image n (groups_of (blocks_of files n)) count i found.place.start

-- file n has space, and the blocks that were found are those to which its counters and hints lead
abbrev pub IsFoundIn : BlockFiles → (n count : ℕ) → Found → Image → Type 0
IsFoundIn files n count found image = IsGroupSought image n count found.i × IsByHint image n (groups_of (blocks_of files n)) count found.i found.place.start

-- the first file of the list that has space gives the blocks at `place`, to which its counters and hints lead
pub record IsFit (image : Image) (files : List ℕ) (count : ℕ) (place : Blocks) : Type 0 where
  pub before : List ℕ
  pub behind : List ℕ
  pub split : files ≡ before ++ place.file ∷ behind
  pub full : All (HasNoRoom image count) before
  pub i : ℕ
  pub sought : IsGroupSought image place.file count i
  pub blocks : IsByHint image place.file (groups_of (max_entries_in image place.file)) count i place.start
  pub counted : place.count ≡ count

-- `place` has `count` blocks of one group of a linked file of a kind, and the first of them is below the file's number of blocks
pub record IsPlace (files : BlockFiles) (kind count : ℕ) (place : Blocks) : Type 0 where
  pub linked : is_among (files_of files kind) place.file ≡ true
  pub number : place.file < 256
  pub small : place.start < most_blocks
  pub below : place.start < blocks_of files place.file
  pub group : place.start % 4 + count ≤ group_size
  pub counted : place.count ≡ count

-- What a search reads, and why it fails.

-- w is word `number` of the map of file n
abbrev pub IsMapWord : Image → (n number word : ℕ) → Type 0
IsMapWord image n number w = word_bytes w ≡ range_at (byte image (Block n)) (map_place + 4 * number) 4

-- the word that was read with the blocks that were found is that of the map of file n that has them
abbrev pub HasMapWord : (n : ℕ) → Found → Image → Type 0
HasMapWord n found image = IsMapWord image n (found.place.start / 32) found.word

-- the offset of hint i in a header
abbrev pub hint_place : ℕ → ℕ
hint_place i = 40 + 4 * i

-- the reads of a search in the header of a file of so many blocks, by offset and length: its fields, one of its hints, and words of its map
abbrev pub IsSearchRead : (blocks place count : ℕ) → Type 0
IsSearchRead blocks place count =
    ((place ≡ 0) × (count ≡ block_fields_length))
    ⊎ ((i : ℕ) × (i < 4) × (place ≡ hint_place i) × (count ≡ 4))
    ⊎ ((number : ℕ) × (32 * number < blocks) × (place ≡ map_place + 4 * number) × (count ≡ 4))

-- a read of a search in file n gave too few bytes
pub record IsShortSearch (files : BlockFiles) (n : ℕ) (told : Told) (damage : Damage) : Type 0 where
  pub place : ℕ
  pub count : ℕ
  pub read : IsSearchRead (blocks_of files n) place count
  pub short : IsShort told (names.Block n) place count damage

-- `empty` of file n counts a group with a longest free run of i + 1, and the map has none: the error has the offset of this word of `empty`, and the word
pub record IsMiscount (files : BlockFiles) (n : ℕ) (told : Told) (damage : Damage) : Type 0 where
  pub i : ℕ
  pub small : i < 4
  pub of_file : damage.file ≡ names.Block n
  pub at : damage.at ≡ empty_place i
  pub counts : 0 < damage.found
  pub found : ForSome told.files (λ image. damage.found ≡ empty_of (byte image (Block n)) i)
  pub none : ForSome told.files (HasNoRun files n (i + 1))

-- why a search for blocks in some file of a kind failed: a read gave too few bytes, or `empty` counts a group that the map doesn't have
pub record IsFittingDamage (files : BlockFiles) (kind : ℕ) (told : Told) (damage : Damage) : Type 0 where
  pub file : ℕ
  pub linked : is_among (files_of files kind) file ≡ true
  pub why : IsShortSearch files file told damage ⊎ IsMiscount files file told damage
