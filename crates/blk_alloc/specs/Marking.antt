-- Blocks of a file come into use: the file is lengthened to its blocks, and the blocks are marked.
use Rattle.std.specs.Prelude.{◌≡◌, ◌≢◌, ◌⊎◌, ℕ, ◌+◌, ◌/◌, ◌<◌, ◌≤◌, List, ◌∷◌, true, false, if◌then◌else◌}
use Rattle.std.specs.Option.{ForSome}
use Rattle.spec_image.specs.Image.{Block, Image, byte, length_of}
use Rattle.spec_image.specs.Told.{PassesTo, Told}
use Rattle.spec_image.specs.Footprint.{Footprint, SameOutside, either, one_word, range, size_of}
use Rattle.spec_format.specs.Address.{block_word, file_selector}
use Rattle.spec_format.specs.Headers.{allocations_of, empty_of, hints_of, updating_of, updating_place}
use Rattle.spec_format.specs.BlockFiles.{is_among, most_blocks}
use Rattle.spec_format.specs.Maps.{is_block_marked, are_free, group_size, longest_run, AreAllocations, EmptyAgrees}
use Rattle.blk_disk.specs.declared.tables.BlockFiles.{BlockFiles}
use Rattle.blk_disk.specs.Tables.{all_files}
use Rattle.blk_alloc.specs.declared.blocks.Blocks.{Blocks}
use Rattle.blk_alloc.specs.declared.blocks.Found.{Found}
use Rattle.blk_alloc.specs.Changes.{map_of, CanChangeMarks}
use Rattle.blk_alloc.specs.Fitting.{hint_place}
use Rattle.blk_alloc.specs.Counting.{counted, IsCounted}
use Rattle.blk_alloc.specs.Owning.{is_of}

-- the blocks at `place` may be marked: they are free, and the counters of their file can follow
pub record CanBeMarked (image : Image) (place : Blocks) : Type 0 where
  pub ready : CanChangeMarks image place.file place.start place.count true
  pub free : are_free (is_block_marked image place.file) place.start place.count ≡ true

-- the four hints of a file
abbrev pub hints_of_file : ℕ → Footprint
hints_of_file n = range (Block n) (hint_place 0) 16

-- the frame of taking blocks of file n: its length, its hints, its map and its counters
abbrev pub taking_of : ℕ → Footprint
taking_of n = either (size_of (Block n)) (either (hints_of_file n) (map_of n))

-- the fields of file n that say nothing of which blocks are used: its hints and updating
abbrev pub hints_and_updating : ℕ → Footprint
hints_and_updating n = either (hints_of_file n) (one_word (Block n) updating_place)

-- in the midst of taking blocks of file n: nothing outside the frame has changed, the file is no shorter, and where more than length, hints and updating has
-- changed, updating is 1
pub record MarksUsedInProgress (n : ℕ) (from image : Image) : Type 0 where
  pub same : SameOutside (taking_of n) from image
  pub longer : length_of from (Block n) ≤ length_of image (Block n)
  pub updating : (updating_of (byte image (Block n)) ≡ 1) ⊎ SameOutside (either (size_of (Block n)) (hints_and_updating n)) from image

-- the blocks of address w were taken: they were free and are marked now, no other mark has changed, w is one more allocation of its file and the other files
-- keep theirs, the counters agree, and updating is 0
pub record MarksUsed (files : BlockFiles) (from : Image) (w : ℕ) (image : Image) : Type 0 where
  pub same : SameOutside (taking_of (file_selector w)) from image
  pub longer : length_of from (Block (file_selector w)) ≤ length_of image (Block (file_selector w))
  pub free : (b : ℕ) → is_of w (file_selector w) b ≡ true → is_block_marked from (file_selector w) b ≡ false
  pub marks : (n b : ℕ) → b < most_blocks → is_block_marked image n b ≡ (if is_of w n b then true else is_block_marked from n b)
  pub allocations : (words : List ℕ) → AreAllocations from (file_selector w) words → AreAllocations image (file_selector w) (w ∷ words)
  pub elsewhere : (n : ℕ) → is_among (all_files files) n ≡ true → n ≢ file_selector w → (words : List ℕ) → AreAllocations from n words → AreAllocations image n words
  pub empty : EmptyAgrees image (file_selector w)
  pub empty_elsewhere : (n : ℕ) → n ≢ file_selector w → EmptyAgrees from n → EmptyAgrees image n
  pub updating : updating_of (byte image (Block (file_selector w))) ≡ 0

-- the counters of file n follow the marking of blocks from `start` on, whether or not they agreed before: num_entries is one more, and `empty` counts the group
-- by its new longest free run instead of the old one
pub record CountsUsed (n start : ℕ) (from image : Image) : Type 0 where
  pub allocations : IsCounted true (allocations_of (byte from (Block n))) (allocations_of (byte image (Block n)))
  pub counts : (i : ℕ) → i < 4 → empty_of (byte image (Block n)) i + counted (longest_run (is_block_marked from n) (start / 4)) i
      ≡ empty_of (byte from (Block n)) i + counted (longest_run (is_block_marked image n) (start / 4)) i

-- no hint of any file has changed
abbrev pub KeepsHints : Image → Image → Type 0
KeepsHints from image = (n i : ℕ) → i < 4 → hints_of (byte image (Block n)) i ≡ hints_of (byte from (Block n)) i

-- hint i of file n is `number` now, and nothing else has changed
pub record HasHint (n i number : ℕ) (from image : Image) : Type 0 where
  pub same : SameOutside (one_word (Block n) (hint_place i)) from image
  pub set : hints_of (byte image (Block n)) i ≡ number

-- hint i of file n is `number` now, and no other hint of any file has changed
pub record HasHintAmong (n i number : ℕ) (from image : Image) : Type 0 where
  pub set : hints_of (byte image (Block n)) i ≡ number
  pub others : (m j : ℕ) → j < 4 → (m ≢ n) ⊎ (j ≢ i) → hints_of (byte image (Block m)) j ≡ hints_of (byte from (Block m)) j

-- What a call does that takes blocks.

-- blocks of a kind were marked, and no hint has changed; or the marking broke off at some write before its last
abbrev pub MarksOrStops : BlockFiles → (kind : ℕ) → Blocks → Image → Image → Type 0
MarksOrStops files kind place from image =
    MarksUsedInProgress place.file from image ⊎ (MarksUsed files from (block_word kind place.file place.start place.count) image × KeepsHints from image)

-- where the blocks may be marked, they are being marked before each step, and after the last it is done or broke off
abbrev pub PassesToMarked : (old new : Told) → BlockFiles → (kind : ℕ) → Blocks → Type 0
PassesToMarked old new files kind place =
    ForSome old.files (λ from. CanBeMarked from place → PassesTo old new (MarksUsedInProgress place.file from) (MarksOrStops files kind place from))

-- blocks of a kind that were found were marked, and the hint that led to them is the number of their group; or this broke off at some write before its last
abbrev pub TakesOrStops : BlockFiles → (kind : ℕ) → Found → Image → Image → Type 0
TakesOrStops files kind found from image =
    MarksUsedInProgress found.place.file from image
    ⊎ (MarksUsed files from (block_word kind found.place.file found.place.start found.place.count) image × HasHintAmong found.place.file found.i (found.place.start / group_size) from image)

-- where the blocks that were found may be marked, they are being taken before each step, and after the last it is done or broke off
abbrev pub PassesToTaken : (old new : Told) → BlockFiles → (kind : ℕ) → Found → Type 0
PassesToTaken old new files kind found =
    ForSome old.files (λ from. CanBeMarked from found.place → PassesTo old new (MarksUsedInProgress found.place.file from) (TakesOrStops files kind found from))
