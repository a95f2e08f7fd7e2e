-- Blocks that are freed and allocated, in the terms of blk_alloc: it is what the laws on unlinked blocks ask.
use Rattle.std.specs.Prelude.{◌≡◌, ◌≢◌, ◌≤◌, ℕ, List, [], ◌∷◌, true, false, not, ◌==◌, filter, is_some}
use Rattle.spec_image.specs.Footprint.{Footprint, SameOutside}
use Rattle.spec_image.specs.Image.{File, Index, Block, Image, byte, length_of}
use Rattle.spec_format.specs.Address.{block_place, external, file_selector, kind_of}
use Rattle.spec_format.specs.BlockFiles.{is_among, linked_as, max_entries_in, stands_in, HasSoundHeaders}
use Rattle.spec_format.specs.Growth.{StaysWhole}
use Rattle.spec_format.specs.Headers.{is_extent_place, updating_of}
use Rattle.spec_format.specs.Maps.{AreAllocations, EmptyAgrees, KeepsFile}
use Rattle.law_state.specs.Changes.{AddsAllocation, RemovesAllocation}

-- a change of the map and the counters of one block file
pub record IsOfMap (n : ℕ) (footprint : Footprint) : Type 0 where
  pub extents : (m i : ℕ) → is_extent_place i ≡ true → footprint.bytes (Block m) i ≡ false
  pub elsewhere : (m i : ℕ) → m ≢ n → footprint.bytes (Block m) i ≡ false
  pub index : (i : ℕ) → footprint.bytes Index i ≡ false
  pub sizes : (file : File) → footprint.sizes file ≡ false

-- the blocks of a word are freed: map and counters of its file change alone, and it has all allocations but this one
pub record AreFreed (from : Image) (w : ℕ) (image : Image) : Type 0 where
  pub block_kind : kind_of w ≢ external
  pub footprint : Footprint
  pub of_map : IsOfMap (file_selector w) footprint
  pub same : SameOutside footprint from image
  pub allocations : (words : List ℕ) → AreAllocations from (file_selector w) words → is_among words w ≡ true → AreAllocations image (file_selector w) (filter (λ x. not (x == w)) words)
  pub empty : EmptyAgrees from (file_selector w) → EmptyAgrees image (file_selector w)
  pub updating : updating_of (byte image (Block (file_selector w))) ≡ 0
  pub elsewhere : (n : ℕ) → n ≢ file_selector w → KeepsFile from image n
  pub stays : StaysWhole from image

-- the freeing of blocks, as `AreFreed` says it, removes their allocation
abbrev pub FreedBlocksAreRemoved : Type 0
FreedBlocksAreRemoved = (from image : Image) (w : ℕ) → AreFreed from w image → RemovesAllocation from w image

-- the blocks of a word are allocated: they are valid; of other files at most the links have changed, and the same are linked; its file has one allocation more,
-- or was not linked and has this alone, and has all its blocks
pub record AreAllocated (from : Image) (w : ℕ) (image : Image) : Type 0 where
  pub block_kind : kind_of w ≢ external
  pub footprint : Footprint
  pub same : SameOutside footprint from image
  pub index : (i : ℕ) → footprint.bytes Index i ≡ false
  pub apart : (n i : ℕ) → n ≢ file_selector w → 12 ≤ i → footprint.bytes (Block n) i ≡ false
  pub sizes : (n : ℕ) → n ≢ file_selector w → footprint.sizes (Block n) ≡ false
  pub linked : (n : ℕ) → n ≢ file_selector w → linked_as image n ≡ linked_as from n
  pub allocations : is_some (linked_as from (file_selector w)) ≡ true → (words : List ℕ) → AreAllocations from (file_selector w) words → AreAllocations image (file_selector w) (w ∷ words)
  pub fresh : is_some (linked_as from (file_selector w)) ≡ false → AreAllocations image (file_selector w) (w ∷ [])
  pub empty : EmptyAgrees image (file_selector w)
  pub updating : updating_of (byte image (Block (file_selector w))) ≡ 0
  pub stands : stands_in image w ≡ true
  pub long_enough : block_place (kind_of w) (max_entries_in image (file_selector w)) ≤ length_of image (Block (file_selector w))
  pub elsewhere : (n : ℕ) → n ≢ file_selector w → is_some (linked_as from n) ≡ true → KeepsFile from image n
  pub stays : StaysWhole from image

-- the allocation of blocks, as `AreAllocated` says it, adds their allocation
abbrev pub AllocatedBlocksAreAdded : Type 0
AllocatedBlocksAreAdded = (from image : Image) (w : ℕ) → HasSoundHeaders from → AreAllocated from w image → AddsAllocation from w image
