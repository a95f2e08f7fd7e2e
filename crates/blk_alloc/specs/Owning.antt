-- Allocations of block files: how one is freed, and why it isn't.
use Rattle.std.specs.Prelude.{◌≡◌, ◌≢◌, ◌⊎◌, ℕ, ◌+◌, ◌*◌, ◌/◌, ◌%◌, ◌<◌, List, filter, Bool, true, false, not, ◌&&◌, ◌==◌, if◌then◌else◌}
use Rattle.std.specs.Option.{ForSome}
use Rattle.spec_image.specs.Bytes.{range_at}
use Rattle.spec_image.specs.Image.{Block, Image, byte}
use Rattle.spec_image.specs.Told.{Told}
use Rattle.spec_image.specs.Footprint.{SameOutside}
use Rattle.spec_format.specs.Address.{file_selector, first_block, block_count}
use Rattle.spec_format.specs.Headers.{allocations_of, block_fields_length, empty_of, updating_of}
use Rattle.spec_format.specs.BlockFiles.{is_among, most_blocks}
use Rattle.spec_format.specs.Growth.{StaysWhole}
use Rattle.spec_format.specs.Maps.{is_block_marked, longest_run, map_place, AreAllocations, EmptyAgrees, KeepsFile}
use Rattle.blk_addr.specs.Bits.{has_bit, is_between}
use Rattle.blk_io.specs.declared.folder.FileId.TheVariants as names
use Rattle.blk_io.specs.declared.fault.Damage.{Damage}
use Rattle.blk_io.specs.Faults.{IsShort}
use Rattle.blk_alloc.specs.declared.counters.Counters.{Counters}
use Rattle.blk_alloc.specs.Counting.{AreCounters, IsAtEnd, IsCounted, counted as counted_run}
use Rattle.blk_alloc.specs.Changes.{map_of, with_marks, IsMapInProgress}

-- block b of file n is one of the blocks of address w
unfoldable pub is_of : ℕ → ℕ → ℕ → Bool
is_of w n b = (file_selector w == n) && is_between (first_block w) (first_block w + block_count w) b

-- an address is one of the allocations of its file
pub record IsAllocated (image : Image) (w : ℕ) : Type 0 where
  pub words : List ℕ
  pub are : AreAllocations image (file_selector w) words
  pub there : is_among words w ≡ true

-- the list without each occurrence of w
abbrev pub others : ℕ → List ℕ → List ℕ
others w words = filter (λ x. not (x == w)) words

-- an address may be freed: it is one of the allocations of its file, and `empty` agrees with the map
pub record CanBeFreed (image : Image) (w : ℕ) : Type 0 where
  pub allocated : IsAllocated image w
  pub empty : EmptyAgrees image (file_selector w)

-- the blocks of address w are freed: their marks are cleared, and no other, w is no allocation of its file any more, the counters follow and agree where they
-- did, updating is 0, and all other files are unchanged
pub record IsFreed (from : Image) (w : ℕ) (image : Image) : Type 0 where
  pub same : SameOutside (map_of (file_selector w)) from image
  pub marks : (n b : ℕ) → b < most_blocks → is_block_marked image n b ≡ (if is_of w n b then false else is_block_marked from n b)
  pub allocations : (words : List ℕ) → AreAllocations from (file_selector w) words → is_among words w ≡ true → AreAllocations image (file_selector w) (others w words)
  pub counted : IsCounted false (allocations_of (byte from (Block (file_selector w)))) (allocations_of (byte image (Block (file_selector w))))
  pub counts : (i : ℕ) → i < 4 → empty_of (byte image (Block (file_selector w))) i + counted_run (longest_run (is_block_marked from (file_selector w)) (first_block w / 4)) i
      ≡ empty_of (byte from (Block (file_selector w))) i + counted_run (longest_run (is_block_marked image (file_selector w)) (first_block w / 4)) i
  pub empty : EmptyAgrees from (file_selector w) → EmptyAgrees image (file_selector w)
  pub updating : updating_of (byte image (Block (file_selector w))) ≡ 0
  pub elsewhere : (n : ℕ) → n ≢ file_selector w → KeepsFile from image n

-- invariant of a free, after each write but the last: nothing but map, counters and updating of the file has changed, and where more than updating has,
-- updating is 1; block files have grown at most, and the headers are kept
pub record FreesInProgress (w : ℕ) (from image : Image) : Type 0 where
  pub marks : IsMapInProgress (file_selector w) from image
  pub stays : StaysWhole from image

-- a free is done, as its last write leaves it; block files have grown at most, and the headers are kept
pub record FreesAtLast (w : ℕ) (from image : Image) : Type 0 where
  pub freed : IsFreed from w image
  pub stays : StaysWhole from image

-- a free is done, or it broke off at some write before its last
abbrev pub FreesOrStops : ℕ → Image → Image → Type 0
FreesOrStops w from image = FreesInProgress w from image ⊎ FreesAtLast w from image

-- a counter of file n would leave its range where `count` blocks from `start` on, in one group, come into use or are freed: by the counters that were read, and
-- the map word that has the blocks
pub record IsCounterDamage (told : Told) (n start count : ℕ) (used : Bool) (damage : Damage) : Type 0 where
  pub counters : Counters
  pub bytes : List ℕ
  pub are : ForSome told.files (λ image. AreCounters (byte image (Block n)) counters)
  pub of_map : ForSome told.files (λ image. bytes ≡ range_at (byte image (Block n)) (map_place + 4 * (start / 32)) 4)
  pub at_end : IsAtEnd counters n (longest_run (has_bit bytes) (start % 32 / 4)) (longest_run (with_marks (has_bit bytes) (start % 32) count used) (start % 32 / 4)) used damage

-- the reads of a change of blocks from `start` on, in a header, by offset and length: its fields, and the map word that has the blocks
abbrev pub IsHeaderRead : ℕ → ℕ → ℕ → Type 0
IsHeaderRead start place count = ((place ≡ 0) × (count ≡ block_fields_length)) ⊎ ((place ≡ map_place + 4 * (start / 32)) × (count ≡ 4))

-- a read of a change of blocks in the header of file n gave too few bytes
pub record IsShortHeaderRead (told : Told) (n start : ℕ) (damage : Damage) : Type 0 where
  pub place : ℕ
  pub count : ℕ
  pub read : IsHeaderRead start place count
  pub short : IsShort told (names.Block n) place count damage

-- why the header of file n is corrupt where blocks come into use or are freed: a read gave too few bytes, or a counter would leave its range
abbrev pub IsCause : Told → ℕ → ℕ → ℕ → Bool → Damage → Type 0
IsCause told n start count used damage = IsShortHeaderRead told n start damage ⊎ IsCounterDamage told n start count used damage
