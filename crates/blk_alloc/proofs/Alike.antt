-- A header whose map and counters are those of the used blocks already.
use Rattle.std.proofs.Common.{◌≡◌, ℕ, zero, suc, ◌+◌, ◌*◌, ◌<◌, ◌≤◌, List, [], ◌∷◌, refl, sym, ◌∙◌, ap, arith}
use Rattle.std.specs.Prelude.{slice_index}
use Rattle.spec_image.specs.Bytes.{content, range_at, word_at}
use Rattle.spec_image.specs.Image.{Image, Block, byte}
use Rattle.blk_addr.specs.Bits.{has_bit}
use Rattle.blk_addr.specs.Claims.{allocations_in}
use Rattle.blk_addr.specs.declared.claim_set.Claims.{Claims}
use Rattle.spec_format.specs.BlockFiles.{max_entries_in}
use Rattle.spec_format.specs.Maps.{EmptyAgrees, groups_of, groups_with, is_block_marked}
use Rattle.blk_alloc.specs.Rebuilding.{AreBitsOf, HasMarksOf, HasTheseCounters}
use Rattle.spec_format.proofs.Groups.{groups_same}
use Rattle.blk_alloc.proofs.Headers.{bit_read, field_read}

pub zeros_at : (i : ℕ) → i < 4 → slice_index (0 ∷ 0 ∷ 0 ∷ 0 ∷ []) i ≡ 0
zeros_at zero small = refl
zeros_at (suc zero) small = refl
zeros_at (suc (suc zero)) small = refl
zeros_at (suc (suc (suc zero))) small = refl
zeros_at (suc (suc (suc (suc i)))) small = absurd (omega arith)

-- the marks of a map that was read
bit_is : (image : Image) (n : ℕ) (map : List ℕ) → map ≡ range_at (byte image (Block n)) 80 8112 → (b : ℕ) → b < 64896 → is_block_marked image n b ≡ has_bit map b
bit_is image n map read b small = sym (ap (λ (l : List ℕ). has_bit l b) read ∙ bit_read (byte image (Block n)) 0 8112 b b (omega (arith, small)) (omega arith))

-- where the marks are those of the used blocks, the bits are so
pub right_bits : (claims : Claims) (image : Image) (n : ℕ) (map : List ℕ) → map ≡ range_at (byte image (Block n)) 80 8112 → HasMarksOf claims image n → AreBitsOf claims n 64896 map
right_bits claims image n map read right b small = sym (bit_is image n map read b small) ∙ right.marks b small

-- the fields of a header that were read
module _ (image : Image) (n count : ℕ) (fields runs : List ℕ) (read : fields ≡ range_at (byte image (Block n)) 0 80) where
  at : (i : ℕ) → i + 4 ≤ 80 → word_at (content fields) i ≡ word_at (byte image (Block n)) i
  at i small = ap (λ (l : List ℕ). word_at (content l) i) read ∙ field_read (byte image (Block n)) i small

  -- have the counters of the file
  pub counters_read : HasTheseCounters (content fields) count runs → HasTheseCounters (byte image (Block n)) count runs
  counters_read has = record { allocations = sym (at 16 (omega arith)) ∙ has.allocations; empty = λ i small. sym (at (24 + 4 * i) (omega (arith, small))) ∙ has.empty i small }

  pub counters_stand : HasTheseCounters (byte image (Block n)) count runs → HasTheseCounters (content fields) count runs
  counters_stand has = record { allocations = at 16 (omega arith) ∙ has.allocations; empty = λ i small. at (24 + 4 * i) (omega (arith, small)) ∙ has.empty i small }

-- a map that was read, and the longest free runs of so many of its groups
pub record IsMapRead (image : Image) (n groups : ℕ) (map empty : List ℕ) : Type 0 where
  pub few : groups ≤ 16224
  pub read : map ≡ range_at (byte image (Block n)) 80 8112
  pub counts : (i : ℕ) → i < 4 → slice_index empty i ≡ groups_with (has_bit map) groups (i + 1)

module _ (claims : Claims) (n groups : ℕ) (image : Image) (map empty : List ℕ) (is : IsMapRead image n groups map empty) where
  bit : (b : ℕ) → b < 64896 → is_block_marked image n b ≡ has_bit map b
  bit = bit_is image n map is.read

  counts_are : groups ≡ groups_of (max_entries_in image n) → (i : ℕ) → i < 4 → slice_index empty i ≡ groups_with (is_block_marked image n) (groups_of (max_entries_in image n)) (i + 1)
  counts_are same i small =
      let few = is.few in
      is.counts i small ∙ groups_same (has_bit map) (is_block_marked image n) groups (i + 1) (λ b below. sym (bit b (omega (arith, below, few)))) ∙ ap (λ (k : ℕ). groups_with (is_block_marked image n) k (i + 1)) same

  -- a map and counters that were compared are those of the used blocks
  pub compared_right : groups ≡ groups_of (max_entries_in image n) → AreBitsOf claims n 64896 map → HasTheseCounters (byte image (Block n)) (allocations_in claims n) empty → HasMarksOf claims image n
  unfolding EmptyAgrees
  compared_right same marks counters = record {
    marks = λ b small. bit b small ∙ marks b small;
    allocations = counters.allocations;
    empty = λ i small. counters.empty i small ∙ counts_are same i small;
  }

  -- where map and counters are those of the used blocks, the counters are the ones that were counted
  pub right_counters : groups ≡ groups_of (max_entries_in image n) → HasMarksOf claims image n → HasTheseCounters (byte image (Block n)) (allocations_in claims n) empty
  unfolding EmptyAgrees
  right_counters same right = record { allocations = right.allocations; empty = λ i small. right.empty i small ∙ sym (counts_are same i small) }
