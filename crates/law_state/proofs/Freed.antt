-- Blocks that are freed have their allocation removed.
use Rattle.std.proofs.Common.{◌≡◌, ◌≢◌, ℕ, ◌+◌, ◌*◌, List, refl, ap, ◌∙◌, arith, true}
use Rattle.spec_image.specs.Bytes.{word_at}
use Rattle.spec_image.specs.Image.{Image, Index, Block, byte, has_file, word}
use Rattle.spec_image.proofs.Footprints.{same_word_outside}
use Rattle.spec_image.proofs.Words.{same-word_at}
use Rattle.spec_format.specs.Address.{file_selector}
use Rattle.spec_format.specs.BlockFiles.{linked_as, max_entries_in, next_file_in, HasSoundHeaders}
use Rattle.spec_format.specs.Headers.{is_extent_place}
use Rattle.spec_format.proofs.LinkedHeads.{linked_head, HasHead}
use Rattle.law_folder.proofs.claims.ByteChanges.{same-links, stands-linked}
use Rattle.law_state.proofs.Headers.{undamaged}
use Rattle.std.proofs.Common.{length, [], Option, Some, None, ◌≤◌}
use Rattle.std.specs.Prelude.{is_some, unwrap_or}
use Rattle.law_state.specs.AllocationLaws.{AllocatedBlocksAreAdded, AreAllocated, AreFreed, FreedBlocksAreRemoved}
use Rattle.law_state.specs.Changes.{SameExtent}

module _ (from image : Image) (w : ℕ) (a : AreFreed from w image) where
  extent-byte : (n i : ℕ) → is_extent_place i ≡ true → byte image (Block n) i ≡ byte from (Block n) i
  extent-byte n i e = a.same.bytes (Block n) i (a.of_map.extents n i e)

  next-same : (n : ℕ) → next_file_in image n ≡ next_file_in from n
  unfolding next_file_in
  next-same n = λ j. extent-byte n 10 refl j + 256 * extent-byte n 11 refl j

  blocks-same : (n : ℕ) → max_entries_in image n ≡ max_entries_in from n
  unfolding max_entries_in
  blocks-same n = λ j. extent-byte n 20 refl j + 256 * extent-byte n 21 refl j + 65536 * extent-byte n 22 refl j + 16777216 * extent-byte n 23 refl j

  extent : (n : ℕ) → SameExtent from image n
  extent n = record {
    linked = same-links from image next-same n;
    there = a.same.files (Block n) (a.of_map.sizes (Block n));
    length = a.same.lengths (Block n) (a.of_map.sizes (Block n));
    blocks = blocks-same n;
  }

  index-word : (p : ℕ) → word image Index p ≡ word from Index p
  index-word p = same_word_outside a.footprint from image Index p a.same (λ k low high. a.of_map.index k)

  updating-same : (n : ℕ) → n ≢ file_selector w → word_at (byte image (Block n)) 56 ≡ word_at (byte from (Block n)) 56
  updating-same n apart = same-word_at (byte image (Block n)) (byte from (Block n)) 56 (at 56) (at 57) (at 58) (at 59) where
    at : (i : ℕ) → byte image (Block n) i ≡ byte from (Block n) i
    at i = a.same.bytes (Block n) i (a.of_map.elsewhere n i apart)

pub freed-removed : FreedBlocksAreRemoved
freed-removed from image w a = record {
  block_kind = a.block_kind;
  grown = a.stays.grown;
  headers = a.stays.headers;
  session = record { crash = index-word from image w a 32; id = index-word from image w a 20 };
  extent = extent from image w a (file_selector w);
  allocations = a.allocations;
  empty = a.empty;
  updating = a.updating;
  elsewhere = λ n apart. record {
    extent = extent from image w a n;
    mapped = λ words linked m. let keeps = a.elsewhere n apart in record { allocations = keeps.allocations _ m.allocations; empty = keeps.empty m.empty; updating = updating-same from image w a n apart ∙ m.updating };
  };
}

-- ---- allocated

module _ (from image : Image) (w : ℕ) (a : AreAllocated from w image) where
  other-byte : (n i : ℕ) → n ≢ file_selector w → 12 ≤ i → byte image (Block n) i ≡ byte from (Block n) i
  other-byte n i apart low = a.same.bytes (Block n) i (a.apart n i apart low)

  other-blocks : (n : ℕ) → n ≢ file_selector w → max_entries_in image n ≡ max_entries_in from n
  unfolding max_entries_in
  other-blocks n apart = λ j. other-byte n 20 apart (omega arith) j + 256 * other-byte n 21 apart (omega arith) j + 65536 * other-byte n 22 apart (omega arith) j + 16777216 * other-byte n 23 apart (omega arith) j

  other-updating : (n : ℕ) → n ≢ file_selector w → word_at (byte image (Block n)) 56 ≡ word_at (byte from (Block n)) 56
  other-updating n apart = same-word_at (byte image (Block n)) (byte from (Block n)) 56 (other-byte n 56 apart (omega arith)) (other-byte n 57 apart (omega arith)) (other-byte n 58 apart (omega arith)) (other-byte n 59 apart (omega arith))

  index-here : (p : ℕ) → word image Index p ≡ word from Index p
  index-here p = same_word_outside a.footprint from image Index p a.same (λ k low high. a.index k)

  there : HasSoundHeaders image → has_file image (Block (file_selector w)) ≡ true
  there well =
      let linked : is_some (linked_as image (file_selector w)) ≡ true = ap (λ (o : Option ℕ). is_some o) (stands-linked image w a.stands a.block_kind) in
      let head : HasHead image (file_selector w) = linked_head image (file_selector w) (undamaged image well) linked in
      some-file (image (Block (file_selector w))) head.header
    where
      some-file : (o : Option (List ℕ)) → 8192 ≤ length (unwrap_or o []) → is_some o ≡ true
      some-file None long = absurd (omega (arith, long))
      some-file (Some bytes) long = refl

pub allocated-added : AllocatedBlocksAreAdded
allocated-added from image w well a = record {
  block_kind = a.block_kind;
  grown = a.stays.grown;
  headers = a.stays.headers;
  session = record { crash = index-here from image w a 32; id = index-here from image w a 20 };
  allocations = a.allocations;
  fresh = a.fresh;
  empty = a.empty;
  updating = a.updating;
  there = there from image w a (a.stays.headers.sound well);
  long_enough = a.long_enough;
  elsewhere = λ n apart. record {
    extent = record { linked = a.linked n apart; there = a.same.files (Block n) (a.sizes n apart); length = a.same.lengths (Block n) (a.sizes n apart); blocks = other-blocks from image w a n apart };
    mapped = λ words linked m. let keeps = a.elsewhere n apart linked in record { allocations = keeps.allocations _ m.allocations; empty = keeps.empty m.empty; updating = other-updating from image w a n apart ∙ m.updating };
  };
}
