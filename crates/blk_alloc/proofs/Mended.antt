-- The map and the counters of one file, made those of the used blocks: after each write, and in the end.
use Rattle.std.proofs.Common.{◌≡◌, ℕ, zero, suc, ◌+◌, ◌-◌, ◌*◌, ◌/◌, ◌%◌, ◌<◌, ◌≤◌, ◌⊎◌, inl, inr, List, length, Bool, true, false, ◌&&◌, ◌||◌, nat_le, nat_lt, take, drop, refl, sym, ◌∙◌, ap, subst, arith, ⊎_elim}
use Rattle.std.specs.Prelude.{◌==◌, slice_index}
use Rattle.std.specs.Int.{bit_at}
use Rattle.std.proofs.lemmas.Bool.{cases_lt}
use Rattle.std.proofs.lemmas.Bool.Decides.{nat_tests}
use Rattle.spec_image.specs.Bytes.{content, word_at, word_bytes}
use Rattle.spec_image.specs.Image.{Image, Block, byte, same_file, word}
use Rattle.spec_image.specs.Footprint.{SameOutside, IsWithin, either, one_word, range}
use Rattle.spec_image.proofs.Words.{content-range, same-word}
use Rattle.spec_image.proofs.Footprints.{outside-refl, outside-trans, outside_wider, range_within, same_word_outside, within_both, within_left, within_right}
use Rattle.spec_format.specs.Headers.{updating_of}
use Rattle.spec_format.specs.BlockFiles.{max_entries_in}
use Rattle.spec_format.specs.Maps.{is_block_marked, groups_of, groups_with, EmptyAgrees}
use Rattle.spec_format.proofs.Groups.{groups_same}
use Rattle.blk_addr.specs.Bits.{has_bit}
use Rattle.blk_addr.specs.Claims.{allocations_in}
use Rattle.blk_addr.specs.declared.claim_set.Claims.{Claims}
use Rattle.blk_alloc.specs.Changes.{map_of}
use Rattle.blk_alloc.specs.Mending.{IsPrefixWritten, AreBytesWritten}
use Rattle.blk_alloc.specs.Rebuilding.{counters_of, counts_of, is_block_claimed, is_updating_place, AreHeaderBytes, AreMarked, HasMarksOf, HasTheseCounters, IsCounting, IsMending, IsMendingToEnd, IsOldOrClaimed, IsRebuilt, KeepsBytes, RemakesInProgress}
use Rattle.blk_alloc.proofs.Changing.{at_updating, within-trans}
use Rattle.blk_alloc.proofs.Counted.{at_map, counts_within, updating_kept}
use Rattle.blk_alloc.proofs.Needed.{content_part, range_content}
use Rattle.blk_alloc.proofs.Recounted.{range_beside, word_beside_range, word_there}

-- A header but for updating.

module _ (n : ℕ) (a b : Image) (keeps : KeepsBytes n a b) where
  -- a word beside updating
  word_kept : (i : ℕ) → (i + 4 ≤ 56) ⊎ (60 ≤ i) → word b (Block n) i ≡ word a (Block n) i
  word_kept i apart = same-word (byte b (Block n)) (byte a (Block n)) i (λ k low high. keeps k (beside k low high apart))
    where
      beside : (k : ℕ) → i ≤ k → k < i + 4 → (i + 4 ≤ 56) ⊎ (60 ≤ i) → is_updating_place k ≡ false
      beside k low high (inl left) = grind (arith, nat_tests)
      beside k low high (inr right) = grind (arith, nat_tests)

  marks_kept : (k : ℕ) → is_block_marked b n k ≡ is_block_marked a n k
  marks_kept k = let beside : is_updating_place (80 + k / 8) ≡ false = grind (arith, nat_tests) in ap (λ (x : ℕ). bit_at x (k % 8) == 1) (keeps (80 + k / 8) beside)

  pub blocks_kept : max_entries_in b n ≡ max_entries_in a n
  unfolding max_entries_in
  blocks_kept = word_kept 20 (inl (omega arith))

  pub has_marks_kept : (claims : Claims) → HasMarksOf claims a n → HasMarksOf claims b n
  unfolding EmptyAgrees
  has_marks_kept claims has = record {
    marks = λ k small. marks_kept k ∙ has.marks k small;
    allocations = word_kept 16 (inl (omega arith)) ∙ has.allocations;
    empty = λ i small. word_kept (24 + 4 * i) (inl (omega (arith, small))) ∙ has.empty i small
        ∙ ap (λ (g : ℕ). groups_with (is_block_marked a n) (groups_of g) (i + 1)) (sym blocks_kept)
        ∙ ap (λ (m : ℕ → Bool). groups_with m (groups_of (max_entries_in b n)) (i + 1)) (λ j k. sym (marks_kept k) j);
  }

-- what is as it was or as the used blocks have it, seen from headers that differ in updating alone
pub each_same : (claims : Claims) (n : ℕ) (from start image later : Image) → KeepsBytes n from start → KeepsBytes n image later → IsOldOrClaimed claims n from image → IsOldOrClaimed claims n start later
each_same claims n from start image later before behind each = record {
  marks = λ b small. ⊎_elim (λ old. inl (marks_kept n image later behind b ∙ old ∙ sym (marks_kept n from start before b))) (λ new. inr (marks_kept n image later behind b ∙ new)) (each.marks b small);
  allocations = ⊎_elim (λ old. inl (word_kept n image later behind 16 (inl (omega arith)) ∙ old ∙ sym (word_kept n from start before 16 (inl (omega arith))))) (λ new. inr (word_kept n image later behind 16 (inl (omega arith)) ∙ new)) each.allocations;
  empty = λ i small.
      ⊎_elim (λ old. inl (word_kept n image later behind (24 + 4 * i) (inl (omega (arith, small))) ∙ old ∙ sym (word_kept n from start before (24 + 4 * i) (inl (omega (arith, small))))))
      (λ new. inr (word_kept n image later behind (24 + 4 * i) (inl (omega (arith, small))) ∙ new ∙ ap (λ (g : ℕ). groups_with (is_block_claimed claims n) (groups_of g) (i + 1)) (sym (blocks_kept n from start before)))) (each.empty i small);
}

pub each_begin : (claims : Claims) (n : ℕ) (from : Image) → IsOldOrClaimed claims n from from
each_begin claims n from = record { marks = λ b small. inl refl; allocations = inl refl; empty = λ i small. inl refl }

-- updating that is written
module _ (n : ℕ) (bytes : List ℕ) (from image : Image) (written : AreBytesWritten (Block n) 56 bytes 4 from image) where
  pub only_updating : KeepsBytes n from image
  only_updating i beside = written.same.bytes (Block n) i (range_beside (Block n) 56 4 i (apart i beside))
    where
      apart : (i : ℕ) → is_updating_place i ≡ false → (i < 56) ⊎ (56 + 4 ≤ i)
      apart i e = ⊎_elim (λ (low : i < 56). inl low) (λ (high : 56 ≤ i). inr (grind (arith, nat_tests))) (cases_lt i 56)

  pub in_map : SameOutside (map_of n) from image
  in_map = outside_wider (range (Block n) 56 4) (map_of n) from image (at_updating n) written.same

-- the bytes of updating stay while map and counters change
pub updating_bytes : (n : ℕ) (a b : Image) → SameOutside (counts_of n) a b → (i : ℕ) → i < 4 → byte b (Block n) (56 + i) ≡ byte a (Block n) (56 + i)
updating_bytes n a b same i small = same.bytes (Block n) (56 + i) (by_test (same_file (Block n) (Block n)))
  where
    by_test : (t : Bool) → ((t && (nat_le 16 (56 + i) && nat_lt (56 + i) 20)) || ((t && (nat_le 24 (56 + i) && nat_lt (56 + i) 40)) || (t && (nat_le 80 (56 + i) && nat_lt (56 + i) 8192)))) ≡ false
    by_test true = grind (arith, nat_tests)
    by_test false = refl

-- The map.

module _ (claims : Claims) (n : ℕ) (from : Image) (bytes : List ℕ) (long : length bytes ≡ 8112) (bits : (m : ℕ) → m < 64896 → has_bit bytes m ≡ is_block_claimed claims n m) where
  map_mark : (k : ℕ) (image : Image) → AreBytesWritten (Block n) 80 bytes k from image → (b : ℕ) → b < 64896 → b / 8 < k → is_block_marked image n b ≡ is_block_claimed claims n b
  unfolding has_bit
  map_mark k image written b small below = ap (λ (x : ℕ). bit_at x (b % 8) == 1) (written.there (b / 8) below) ∙ bits b small

  pub mending_map : (image : Image) → IsPrefixWritten (Block n) 80 bytes from image → IsMending claims n from image
  mending_map image part = record {
    same = outside_wider (range (Block n) 80 (4 * part.words)) (counts_of n) from image
        (within-trans (range (Block n) 80 (4 * part.words)) (range (Block n) 80 8112) (counts_of n) (range_within (Block n) 80 (4 * part.words) 80 8112 (omega arith) (let most = part.most in omega (arith, most, long))) (at_map n)) part.written.same;
    each = record {
      marks = λ b small.
          ⊎_elim (λ (below : b / 8 < 4 * part.words). inr (map_mark (4 * part.words) image part.written b small below))
          (λ (past : 4 * part.words ≤ b / 8). inl (ap (λ (x : ℕ). bit_at x (b % 8) == 1) (part.written.same.bytes (Block n) (80 + b / 8) (range_beside (Block n) 80 (4 * part.words) (80 + b / 8) (inr (omega (arith, past))))))) (cases_lt (b / 8) (4 * part.words));
      allocations = inl (word_beside_range (Block n) 80 (4 * part.words) 16 from image (inl (omega arith)) part.written.same);
      empty = λ i small. inl (word_beside_range (Block n) 80 (4 * part.words) (24 + 4 * i) from image (inl (omega (arith, small))) part.written.same);
    };
  }

  pub map_marked : (image : Image) → AreBytesWritten (Block n) 80 bytes (length bytes) from image → AreMarked claims image n
  map_marked image written b small = map_mark (length bytes) image written b small (omega (arith, small, long))

-- The counters, after the map.

counters_within : (n : ℕ) → IsWithin (counters_of n) (counts_of n)
counters_within n =
    within_both (one_word (Block n) 16) (range (Block n) 24 16) (counts_of n) (within_left (one_word (Block n) 16) (either (range (Block n) 24 16) (range (Block n) 80 8112)))
    (within-trans (range (Block n) 24 16) (either (range (Block n) 24 16) (range (Block n) 80 8112)) (counts_of n) (within_left (range (Block n) 24 16) (range (Block n) 80 8112)) (within_right (one_word (Block n) 16) (either (range (Block n) 24 16) (range (Block n) 80 8112))))

beside_counters : (n i : ℕ) → (40 ≤ i) ⊎ ((20 ≤ i) × (i < 24)) → (counters_of n).bytes (Block n) i ≡ false
beside_counters n i apart = by_test (same_file (Block n) (Block n)) apart
  where
    by_test : (t : Bool) → (40 ≤ i) ⊎ ((20 ≤ i) × (i < 24)) → ((t && (nat_le 16 i && nat_lt i 20)) || (t && (nat_le 24 i && nat_lt i 40))) ≡ false
    by_test true (inl past) = grind (arith, nat_tests)
    by_test true (inr between) = let low = between.0 in let high = between.1 in grind (arith, nat_tests)
    by_test false apart = refl

module _ (claims : Claims) (n groups a : ℕ) (e : List ℕ) (from mid : Image) (few : groups ≤ 16224) (groups_are : groups ≡ groups_of (max_entries_in from n)) (map_same : SameOutside (range (Block n) 80 8112) from mid) (marks : AreMarked claims mid n)
    (number : a ≡ allocations_in claims n) (runs : (i : ℕ) → i < 4 → slice_index e i ≡ groups_with (is_block_claimed claims n) groups (i + 1)) where
  marks_after : (image : Image) → SameOutside (counters_of n) mid image → AreMarked claims image n
  marks_after image same b small = ap (λ (x : ℕ). bit_at x (b % 8) == 1) (same.bytes (Block n) (80 + b / 8) (beside_counters n (80 + b / 8) (inl (omega arith)))) ∙ marks b small

  blocks_after : (image : Image) → SameOutside (counters_of n) mid image → max_entries_in image n ≡ max_entries_in from n
  unfolding max_entries_in
  blocks_after image same = same_word_outside (counters_of n) mid image (Block n) 20 same (λ k low high. beside_counters n k (inr (low, high))) ∙ word_beside_range (Block n) 80 8112 20 from mid (inl (omega arith)) map_same

  pub mending_counters : (image : Image) → IsCounting n a e mid image → IsMending claims n from image
  mending_counters image counting = record {
    same = outside-trans (counts_of n) from mid image (outside_wider (range (Block n) 80 8112) (counts_of n) from mid (at_map n) map_same) (outside_wider (counters_of n) (counts_of n) mid image (counters_within n) counting.same);
    each = record {
      marks = λ b small. inr (marks_after image counting.same b small);
      allocations = ⊎_elim (λ old. inl (old ∙ word_beside_range (Block n) 80 8112 16 from mid (inl (omega arith)) map_same)) (λ new. inr (new ∙ number)) counting.allocations;
      empty = λ i small.
          ⊎_elim (λ old. inl (old ∙ word_beside_range (Block n) 80 8112 (24 + 4 * i) from mid (inl (omega (arith, small))) map_same))
          (λ new. inr (new ∙ runs i small ∙ ap (λ (g : ℕ). groups_with (is_block_claimed claims n) g (i + 1)) groups_are)) (counting.empty i small);
    };
  }

  pub has_marks : (image : Image) → SameOutside (counters_of n) mid image → HasTheseCounters (byte image (Block n)) a e → HasMarksOf claims image n
  unfolding EmptyAgrees
  has_marks image same has = record {
    marks = marks_after image same;
    allocations = has.allocations ∙ number;
    empty = λ i small.
        has.empty i small ∙ runs i small
        ∙ groups_same (is_block_claimed claims n) (is_block_marked image n) groups (i + 1) (λ b below. sym (marks_after image same b (omega (arith, below, few))))
        ∙ ap (λ (k : ℕ). groups_with (is_block_marked image n) k (i + 1)) (groups_are ∙ ap groups_of (sym (blocks_after image same)));
  }

-- Updating, which is 1 until all is done.

-- a file whose map and counters are right is rebuilt once updating is 0
pub rebuilt_by : (claims : Claims) (n : ℕ) (image : Image) → HasMarksOf claims image n → updating_of (byte image (Block n)) ≡ 0 → IsRebuilt claims image n
rebuilt_by claims n image has zero_is = record { right = has; updating = zero_is }

-- a file whose map and counters are right is rebuilt once its updating is written as 0
pub end_rebuilt : (claims : Claims) (n : ℕ) (mid : Image) → HasMarksOf claims mid n → (bytes : List ℕ) → bytes ≡ word_bytes 0 → (image : Image) → AreBytesWritten (Block n) 56 bytes 4 mid image → IsRebuilt claims image n
end_rebuilt claims n mid has bytes zeros image written =
    rebuilt_by claims n image (has_marks_kept n mid image (only_updating n bytes mid image written) claims has)
    (word_there (byte image (Block n)) 56 0 (omega arith) (λ i small. written.there i small ∙ ap (λ (l : List ℕ). content l i) zeros))

module _ (claims : Claims) (n : ℕ) (from : Image) (one : (i : ℕ) → i < 4 → byte from (Block n) (56 + i) ≡ content (word_bytes 1) i) where
  pub to_end : (image : Image) → IsMending claims n from image → IsMendingToEnd claims n from image
  to_end image mending = record {
    same = outside_wider (counts_of n) (map_of n) from image (counts_within n) mending.same;
    each = mending.each;
    hand = inl (updating_kept n from image mending.same ∙ word_there (byte from (Block n)) 56 1 (omega arith) one);
  }

  module _ (mid : Image) (mending : IsMending claims n from mid) (has : HasMarksOf claims mid n) (bytes : List ℕ) (zeros : bytes ≡ word_bytes 0) where
    pub at_end : (image : Image) → (image ≡ mid) ⊎ AreBytesWritten (Block n) 56 bytes 4 mid image → IsMendingToEnd claims n from image
    at_end image (inl is) = subst (IsMendingToEnd claims n from) (sym is) (to_end mid mending)
    at_end image (inr written) = record {
      same = outside-trans (map_of n) from mid image (to_end mid mending).same (in_map n bytes mid image written);
      each = each_same claims n from from mid image (λ i beside. refl) (only_updating n bytes mid image written) mending.each;
      hand = inr (end_rebuilt claims n mid has bytes zeros image written);
    }

-- The whole of one file, by what was read of it.

module _ (image : Image) (n : ℕ) (map fields : List ℕ) (long : length fields ≡ 80) (read : AreHeaderBytes image n map fields) where
  field_is : (i : ℕ) → i < 80 → content fields i ≡ byte image (Block n) i
  field_is i small = ap (λ (l : List ℕ). content l i) read.fields_read ∙ content-range 80 0 (byte image (Block n)) i i small (omega arith)

  -- updating, as it was read
  pub old_updating : (i : ℕ) → i < 4 → content (take 4 (drop 56 fields)) i ≡ byte image (Block n) (56 + i)
  old_updating i small = content_part fields 56 4 i (omega (arith, long)) small ∙ field_is (56 + i) (omega (arith, small))

  -- the map and the counters hold while updating alone has changed
  pub map_stands : (later : Image) → KeepsBytes n image later → (i : ℕ) → i < 8112 → content map i ≡ byte later (Block n) (80 + i)
  map_stands later keeps i small =
      let beside : is_updating_place (80 + i) ≡ false = grind (arith, nat_tests) in
      ap (λ (l : List ℕ). content l i) read.map_read ∙ content-range 8112 80 (byte image (Block n)) i (80 + i) small refl ∙ sym (keeps (80 + i) beside)

  pub fields_stand : (later : Image) → KeepsBytes n image later → (i : ℕ) → 16 ≤ i → i < 40 → content fields i ≡ byte later (Block n) i
  fields_stand later keeps i low high = let beside : is_updating_place i ≡ false = grind (arith, nat_tests) in field_is i (omega (arith, high)) ∙ sym (keeps i beside)

-- two lists of the four bytes at a place
pub four_same : (f : ℕ → ℕ) (at : ℕ) (xs ys : List ℕ) → length xs ≡ 4 → length ys ≡ 4 → ((i : ℕ) → i < 4 → content xs i ≡ f (at + i)) → ((i : ℕ) → i < 4 → content ys i ≡ f (at + i)) → xs ≡ ys
four_same f at xs ys long wide first second = sym (range_content 4 at f xs long first) ∙ range_content 4 at f ys wide second

zero_bytes : (f : ℕ → ℕ) → word_at f 56 ≡ 0 → (k : ℕ) → k < 4 → f (56 + k) ≡ 0
zero_bytes f none zero small = omega (arith, none)
zero_bytes f none (suc zero) small = omega (arith, none)
zero_bytes f none (suc (suc zero)) small = omega (arith, none)
zero_bytes f none (suc (suc (suc zero))) small = omega (arith, none)
zero_bytes f none (suc (suc (suc (suc k)))) small = absurd (omega arith)

no_bytes : (k : ℕ) → k < 4 → content (word_bytes 0) k ≡ 0
no_bytes zero small = refl
no_bytes (suc zero) small = refl
no_bytes (suc (suc zero)) small = refl
no_bytes (suc (suc (suc zero))) small = refl
no_bytes (suc (suc (suc (suc k)))) small = absurd (omega arith)

-- updating is 0 in a file that is rebuilt
pub zeros_stand : (claims : Claims) (n : ℕ) (from : Image) → IsRebuilt claims from n → (k : ℕ) → k < 4 → content (word_bytes 0) k ≡ byte from (Block n) (56 + k)
zeros_stand claims n from rebuilt k small = no_bytes k small ∙ sym (zero_bytes (byte from (Block n)) rebuilt.updating k small)

module _ (claims : Claims) (n : ℕ) (from : Image) where
  pub remakes_begin : RemakesInProgress claims n from from
  remakes_begin = record { same = outside-refl (map_of n) from; each = each_begin claims n from; hand = inl (λ i beside. refl); right = λ rebuilt i. refl }

  module _ (bytes : List ℕ) where
    -- where the map and the counters are right, updating alone is written
    pub only_end : bytes ≡ word_bytes 0 → (image : Image) → (image ≡ from) ⊎ AreBytesWritten (Block n) 56 bytes 4 from image → RemakesInProgress claims n from image
    only_end zeros image (inl is) = subst (RemakesInProgress claims n from) (sym is) remakes_begin
    only_end zeros image (inr written) = record {
      same = in_map n bytes from image written;
      each = each_same claims n from from from image (λ i beside. refl) (only_updating n bytes from image written) (each_begin claims n from);
      hand = inl (only_updating n bytes from image written);
      right = λ rebuilt i. all rebuilt i (is_updating_place i) refl;
    }
      where
        inside : (i : ℕ) → is_updating_place i ≡ true → (56 ≤ i) × (i < 56 + 4)
        inside i e = (grind (arith, nat_tests), grind (arith, nat_tests))

        at_zero : IsRebuilt claims from n → (k : ℕ) → k < 4 → byte image (Block n) (56 + k) ≡ byte from (Block n) (56 + k)
        at_zero rebuilt k small = written.there k small ∙ ap (λ (l : List ℕ). content l k) zeros ∙ zeros_stand claims n from rebuilt k small

        all : IsRebuilt claims from n → (i : ℕ) (t : Bool) → is_updating_place i ≡ t → byte image (Block n) i ≡ byte from (Block n) i
        all rebuilt i true e =
            let there = inside i e in
            let low = there.0 in
            let high = there.1 in
            subst (λ (j : ℕ). byte image (Block n) j ≡ byte from (Block n) j) {x = 56 + (i - 56)} {y = i} (omega (arith, low)) (at_zero rebuilt (i - 56) (omega (arith, low, high)))
        all rebuilt i false e = only_updating n bytes from image written i e

    -- where the map and the counters aren't right, updating becomes 1 first
    module _ (wrong : HasMarksOf claims from n → ⊥) where
      pub first_step : (image : Image) → (image ≡ from) ⊎ AreBytesWritten (Block n) 56 bytes 4 from image → RemakesInProgress claims n from image
      first_step image (inl is) = subst (RemakesInProgress claims n from) (sym is) remakes_begin
      first_step image (inr written) = record {
        same = in_map n bytes from image written;
        each = each_same claims n from from from image (λ i beside. refl) (only_updating n bytes from image written) (each_begin claims n from);
        hand = inl (only_updating n bytes from image written);
        right = λ rebuilt. absurd (wrong rebuilt.right);
      }

      -- after updating is 1, all is written
      pub then_all : (mid : Image) → AreBytesWritten (Block n) 56 bytes 4 from mid → (image : Image) → IsMendingToEnd claims n mid image → RemakesInProgress claims n from image
      then_all mid written image mending = record {
        same = outside-trans (map_of n) from mid image (in_map n bytes from mid written) mending.same;
        each = each_same claims n mid from image image (λ i beside. sym (only_updating n bytes from mid written i beside)) (λ i beside. refl) mending.each;
        hand = inr mending.hand;
        right = λ rebuilt. absurd (wrong rebuilt.right);
      }
