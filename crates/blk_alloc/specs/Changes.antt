-- A change of the marks of blocks in one group of a file, with the counters that belong to it.
use Rattle.std.specs.Prelude.{◌≡◌, ◌⊎◌, ℕ, ◌+◌, ◌-◌, ◌*◌, ◌/◌, ◌%◌, ◌<◌, ◌≤◌, List, [], ◌∷◌, ◌++◌, Bool, true, false, if◌then◌else◌, slice_index}
use Rattle.spec_image.specs.Bytes.{word_bytes}
use Rattle.spec_image.specs.Image.{Block, Image, byte, length_of}
use Rattle.spec_image.specs.Footprint.{Footprint, SameOutside, either, one_word, range}
use Rattle.spec_format.specs.Address.{header_size}
use Rattle.spec_format.specs.Headers.{allocations_of, allocations_place, empty_of, empty_place, updating_of, updating_place}
use Rattle.spec_format.specs.BlockFiles.{max_entries_in, most_blocks}
use Rattle.spec_format.specs.Maps.{is_block_marked, longest_run, map_place, EmptyAgrees}
use Rattle.blk_addr.specs.Bits.{has_bit, is_between}
use Rattle.blk_alloc.specs.declared.plan.Plan.{Plan}
use Rattle.blk_alloc.specs.Counting.{counted, IsCounted, largest}

-- the length of a block file's allocation map in bytes
abbrev pub map_length : ℕ
map_length = header_size - map_place

-- the frame of a change of marks in file n: num_entries, empty, updating and the map
abbrev pub map_of : ℕ → Footprint
map_of n = either (one_word (Block n) allocations_place) (either (range (Block n) (empty_place 0) 16) (either (one_word (Block n) updating_place) (range (Block n) map_place map_length)))

-- the marks after a change: `count` blocks from `start` on are marked (used) or cleared, and the others are as in `marked`
abbrev pub with_marks : (ℕ → Bool) → ℕ → ℕ → Bool → ℕ → Bool
with_marks marked start count used b = if is_between start (start + count) b then used else marked b

-- the counters as words with their offsets: num_entries, and the four words of empty
abbrev pub counter_words : ℕ → List ℕ → List (ℕ × ℕ)
counter_words allocations empty =
    (allocations_place, allocations) ∷ (empty_place 0, slice_index empty 0) ∷ (empty_place 1, slice_index empty 1)
    ∷ (empty_place 2, slice_index empty 2) ∷ (empty_place 3, slice_index empty 3) ∷ []

-- the last words of a change, with their offsets: the counters, and then updating 0
abbrev pub finish_words : ℕ → List ℕ → List (ℕ × ℕ)
finish_words allocations empty = counter_words allocations empty ++ (updating_place, 0) ∷ []

-- all words that a plan writes, in order, with their offsets: updating 1, the word of the map, the counters, and updating 0
abbrev pub plan_words : Plan → List (ℕ × ℕ)
plan_words plan = (updating_place, 1) ∷ (plan.at, plan.word) ∷ finish_words plan.counters.allocations plan.counters.empty

-- the plan to mark or clear `count` blocks from `start` on in file n: the map word that has them with their new marks, and the counters that agree with it
pub record IsPlan (image : Image) (n start count : ℕ) (used : Bool) (plan : Plan) : Type 0 where
  pub at : plan.at ≡ map_place + 4 * (start / 32)
  pub bits : (m : ℕ) → m < 32 → has_bit (word_bytes plan.word) m ≡ with_marks (is_block_marked image n) start count used (32 * (start / 32) + m)
  pub allocations : IsCounted used (allocations_of (byte image (Block n))) plan.counters.allocations
  pub empty : (i : ℕ) → i < 4 → slice_index plan.counters.empty i + counted (longest_run (is_block_marked image n) (start / 4)) i
      ≡ empty_of (byte image (Block n)) i + counted (longest_run (with_marks (is_block_marked image n) start count used) (start / 4)) i

-- the marks of these blocks of file n may be changed: the file has its header and whole groups, the blocks are below max_entries, `empty` agrees with the map,
-- and num_entries can go up or down by one
pub record CanChangeMarks (image : Image) (n start count : ℕ) (used : Bool) : Type 0 where
  pub header : 8192 ≤ length_of image (Block n)
  pub whole : max_entries_in image n % 4 ≡ 0
  pub most : max_entries_in image n ≤ most_blocks
  pub below : start + count ≤ max_entries_in image n
  pub empty : EmptyAgrees image n
  pub more : used ≡ true → allocations_of (byte image (Block n)) < largest
  pub less : used ≡ false → 0 < allocations_of (byte image (Block n))

-- the blocks are among those of file n, which has whole groups and no more blocks than a map has bits for
pub record HasBlocks (image : Image) (n start count : ℕ) : Type 0 where
  pub whole : max_entries_in image n % 4 ≡ 0
  pub most : max_entries_in image n ≤ most_blocks
  pub below : start + count ≤ max_entries_in image n

-- in the midst of a change: nothing but map, counters and updating of file n has changed, and where more than updating has, updating is 1
pub record IsMapInProgress (n : ℕ) (from image : Image) : Type 0 where
  pub same : SameOutside (map_of n) from image
  pub updating : (updating_of (byte image (Block n)) ≡ 1) ⊎ SameOutside (one_word (Block n) updating_place) from image

-- a change is done: the blocks have their new marks and all others their old ones; num_entries counts one allocation more or less, `empty` counts the group by
-- its new longest free run instead of the old one, and agrees with the map where it did; updating is 0
pub record IsChanged (from : Image) (n start count : ℕ) (used : Bool) (image : Image) : Type 0 where
  pub same : SameOutside (map_of n) from image
  pub marks : (b : ℕ) → b < most_blocks → is_block_marked image n b ≡ with_marks (is_block_marked from n) start count used b
  pub allocations : IsCounted used (allocations_of (byte from (Block n))) (allocations_of (byte image (Block n)))
  pub counts : (i : ℕ) → i < 4 → empty_of (byte image (Block n)) i + counted (longest_run (is_block_marked from n) (start / 4)) i
      ≡ empty_of (byte from (Block n)) i + counted (longest_run (is_block_marked image n) (start / 4)) i
  pub empty : HasBlocks from n start count → EmptyAgrees from n → EmptyAgrees image n
  pub updating : updating_of (byte image (Block n)) ≡ 0

-- a change is done, or it broke off at some write before its last
abbrev pub ChangesOrStops : (n start count : ℕ) (used : Bool) → Image → Image → Type 0
ChangesOrStops n start count used from image = IsMapInProgress n from image ⊎ IsChanged from n start count used image
