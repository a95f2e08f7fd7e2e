-- In the worked folder, once `b` is out, its blocks begin to be freed: meanwhile the durable contents with it doomed are recovered.
use Rattle.std.proofs.Common.{◌≡◌, ℕ, ◌+◌, ◌*◌, ◌<◌, ◌≤◌, [], ◌++◌, refl, subst, sym, arith, lit<, lit≤, Bool, true, false, Some, codes}
use Rattle.std.specs.Prelude.{◌&&◌, nat_le, nat_lt}
use Rattle.std.proofs.lemmas.Bool.Decides.{nat_tests}
use Rattle.spec_image.specs.Bytes.{word_bytes}
use Rattle.spec_image.specs.Footprint.{SameOutside, range}
use Rattle.spec_image.specs.Image.{Block, Image, Index, byte, length_of, same_file, word}
use Rattle.spec_image.specs.Steps.{Word, applied}
use Rattle.spec_image.proofs.Footprints.{outside_write, same_word_outside}
use Rattle.blk_model.specs.Effects.{doomed}
use Rattle.blk_model.specs.Holding.{rest}
use Rattle.spec_format.specs.BlockFiles.{block_checks, is_block_count, max_entries_in, next_file_in, HasSoundHeaders, KeepsHeaders}
use Rattle.spec_format.specs.Growth.{HaveGrown}
use Rattle.spec_format.specs.Headers.{list_checks, field_checks}
use Rattle.spec_format.proofs.Keeping.{none_both, none_parts, undamaged_still}
use Rattle.law_folder.proofs.claims.Files.{headers-change}
use Rattle.spec_folder.specs.Sound.{words_of}
use Rattle.law_state.specs.Changes.{Finds, StillFinds}
use Rattle.law_state.specs.PartlyOut.{chains_but}
use Rattle.law_state.proofs.PartlyOutStops.{freeing-finds, own-items-leave}
use Rattle.law_state.proofs.WorkedDooms.{b_is_out, both, but_b, without_b}
use Rattle.law_state.proofs.WorkedKept.{worked_folder}
use Rattle.law_state.proofs.WorkedState.{chain_of, plain_object, records, the_plain, worked_layout}
use Rattle.law_state.proofs.Writes.{growth-finds}

-- the word that says that the map of data_1 changes
module _ (from : Image) where
  abbrev pub begun : Image
  begun = applied (Word (Block 1) 56 (word_bytes 1)) from

  same : SameOutside (range (Block 1) 56 4) from begun
  same = outside_write (Block 1) 56 (word_bytes 1) from

  clear : (m i : ℕ) → (nat_le 56 i && nat_lt i 60) ≡ false → (range (Block 1) 56 4).bytes (Block m) i ≡ false
  clear m i none = go (same_file (Block 1) (Block m)) where
    go : (t : Bool) → (t && (nat_le 56 i && nat_lt i 60)) ≡ false
    go true = none
    go false = refl

  early : (m i : ℕ) → i < 56 → byte begun (Block m) i ≡ byte from (Block m) i
  early m i small = same.bytes (Block m) i (clear m i (grind (arith, nat_tests)))

  lengths : (m : ℕ) → length_of begun (Block m) ≡ length_of from (Block m)
  lengths m = same.lengths (Block m) refl

  pub begun-grown : HaveGrown from begun
  begun-grown = headers-change (range (Block 1) 56 4) from begun (record {
    index = λ i shown. refl;
    extents = λ m i is. clear m i (grind (arith, nat_tests));
    suffix = λ m i late. clear m i (grind (arith, nat_tests));
    externals = λ m i. refl;
    external_sizes = λ m. refl;
  }) same (λ m. let l = lengths m in omega (arith, l))

  head-word : (m i : ℕ) → i + 4 ≤ 56 → word begun (Block m) i ≡ word from (Block m) i
  head-word m i low = same_word_outside (range (Block 1) 56 4) from begun (Block m) i same (λ k above below. clear m k (grind (arith, nat_tests)))

  next-same : next_file_in begun ≡ next_file_in from
  unfolding next_file_in
  next-same = λ j m. early m 10 (lit< tt) j + 256 * early m 11 (lit< tt) j

  counts-same : (m : ℕ) → max_entries_in begun m ≡ max_entries_in from m
  unfolding max_entries_in
  counts-same m = head-word m 20 (lit≤ tt)

  begun-headers-sound : HasSoundHeaders from → HasSoundHeaders begun
  unfolding field_checks list_checks
  begun-headers-sound well =
      let p = none_parts (field_checks (byte from Index) (length_of from Index)) (list_checks (byte from Index) ++ block_checks from) well in
      let q = none_parts (list_checks (byte from Index)) (block_checks from) p.1 in
      none_both (field_checks (byte from Index) (length_of from Index)) (list_checks (byte from Index) ++ block_checks begun) p.0
      (none_both (list_checks (byte from Index)) (block_checks begun) q.0
      (undamaged_still from begun next-same (λ m. record {
        longer = let l = lengths m in omega (arith, l);
        magic = head-word m 0 (lit≤ tt);
        is_version = head-word m 4 (lit≤ tt);
        this_file = λ j. early m 8 (lit< tt) j + 256 * early m 9 (lit< tt) j;
        entry_size = head-word m 12 (lit≤ tt);
        count = λ right. subst (λ (n : ℕ). is_block_count n ≡ true) (sym (counts-same m)) right;
      }) q.1))

  pub begun-headers : KeepsHeaders from begun
  begun-headers = record { sound = begun-headers-sound; magic = refl }

freeing_finds : Finds (rest (doomed 0 both (Some plain_object))) (begun without_b)
freeing_finds = freeing-finds both worked_layout 0 plain_object but_b (chains_but chain_of (records 2)) (words_of the_plain ++ []) without_b (begun without_b) refl (own-items-leave (codes "b")).0 b_is_out (begun-grown without_b) (begun-headers without_b)

-- and before it is out, the durable contents
growth_finds : StillFinds [] worked_folder (begun worked_folder)
growth_finds = growth-finds [] worked_folder (begun worked_folder) (begun-grown worked_folder) (begun-headers worked_folder)
