-- The blocks or the external file of data are freed.
use Rattle.std.specs.Prelude.{ℕ, ◌≡◌, ◌≢◌, ◌<◌, ◌==◌, List, Bool, true, false, if◌then◌else◌}
use Rattle.spec_image.specs.Image.{External, Image, has_file}
use Rattle.spec_image.specs.Footprint.{Footprint, SameOutside, nothing, whole}
use Rattle.spec_format.specs.Address.{kind_of, external, external_number, file_selector}
use Rattle.spec_format.specs.BlockFiles.{is_among, most_blocks}
use Rattle.spec_format.specs.Claims.{is_in_file}
use Rattle.spec_format.specs.Maps.{AreAllocations, EmptyAgrees, is_block_marked}
use Rattle.blk_alloc.specs.Changes.{map_of}
use Rattle.blk_alloc.specs.Owning.{CanBeFreed, is_of, others}

-- address w may be freed: where it names blocks, they are an allocation of their file; an external file always may
abbrev pub MayBeFreed : ℕ → Image → Type 0
MayBeFreed w image = kind_of w ≢ external → CanBeFreed image w

-- the frame of freeing address w: its external file, or the map and the counters of the file of its blocks
unfoldable pub freeing_of : ℕ → Footprint
freeing_of w = if kind_of w == external then whole (External (external_number w)) else map_of (file_selector w)

-- the frame of freeing the address word w of a stream: nothing for 0, else that of the address
unfoldable pub leaving_of : ℕ → Footprint
leaving_of w = if w == 0 then nothing else freeing_of w

-- block b of file n is one of address w, which names blocks
unfoldable pub is_block_of : ℕ → ℕ → ℕ → Bool
is_block_of w n b = if kind_of w == external then false else is_of w n b

-- those of the allocations `words` of file n that are left when address w is freed
unfoldable pub left_by : ℕ → ℕ → List ℕ → List ℕ
left_by w n words = if is_in_file n w then others w words else words

-- address w is freed: its external file is deleted, or its blocks (and no others) are cleared in the map; w is an allocation no longer, and nothing else has
-- changed but the counters of its file
pub record IsPlaceFreed (w : ℕ) (from image : Image) : Type 0 where
  pub same : SameOutside (freeing_of w) from image
  pub marks : (n b : ℕ) → b < most_blocks → is_block_marked image n b ≡ (if is_block_of w n b then false else is_block_marked from n b)
  pub allocations : (n : ℕ) (words : List ℕ) → AreAllocations from n words → (is_in_file n w ≡ true → is_among words w ≡ true) → AreAllocations image n (left_by w n words)
  pub empty : (n : ℕ) → EmptyAgrees from n → EmptyAgrees image n
  pub gone : kind_of w ≡ external → has_file image (External (external_number w)) ≡ false
