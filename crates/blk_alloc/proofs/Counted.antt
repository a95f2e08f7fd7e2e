-- The counters of a file that are written.
use Rattle.std.proofs.Common.{◌≡◌, ℕ, ◌+◌, ◌<◌, ◌≤◌, List, [], ◌∷◌, Bool, true, false, ◌&&◌, ◌||◌, nat_le, nat_lt, refl, arith}
use Rattle.std.specs.Option.{ForSome}
use Rattle.std.proofs.lemmas.Bool.Decides.{nat_tests}
use Rattle.spec_image.specs.Bytes.{word_bytes}
use Rattle.spec_image.specs.Image.{Image, File, Block, byte, length_of, same_file}
use Rattle.spec_image.specs.Steps.{Word, after, word_step, word_steps}
use Rattle.spec_image.specs.Footprint.{Footprint, SameOutside, IsWithin, either, nothing, one_word, range, touched_by_all}
use Rattle.spec_image.specs.Told.{Told, Applies, Until}
use Rattle.spec_image.proofs.Footprints.{outside-refl, outside_steps, outside_write, within_left, within_right, within_both, range_within, same_word_outside}
use Rattle.spec_image.proofs.Runs.{until_last, told_whole}
use Rattle.spec_format.specs.Headers.{updating_of}
use Rattle.blk_alloc.specs.Changes.{map_of}
use Rattle.blk_alloc.specs.Rebuilding.{counts_of}
use Rattle.blk_alloc.proofs.Changing.{nothing_within, within-trans}

module _ (n : ℕ) where
  abbrev emptied : Footprint
  emptied = either (range (Block n) 24 16) (range (Block n) 80 8112)

  -- the counters are among what may change
  at_number : IsWithin (range (Block n) 16 4) (counts_of n)
  at_number = within_left (one_word (Block n) 16) emptied

  at_runs : (p : ℕ) → 24 ≤ p → p + 4 ≤ 40 → IsWithin (range (Block n) p 4) (counts_of n)
  at_runs p low high =
      within-trans (range (Block n) p 4) (range (Block n) 24 16) (counts_of n) (range_within (Block n) p 4 24 16 low high)
      (within-trans (range (Block n) 24 16) emptied (counts_of n) (within_left (range (Block n) 24 16) (range (Block n) 80 8112)) (within_right (one_word (Block n) 16) emptied))

  -- the map is among what may change
  pub at_map : IsWithin (range (Block n) 80 8112) (counts_of n)
  at_map = within-trans (range (Block n) 80 8112) emptied (counts_of n) (within_right (range (Block n) 24 16) (range (Block n) 80 8112)) (within_right (one_word (Block n) 16) emptied)

  -- the map is in the footprint of the counters
  pub counts_within : IsWithin (counts_of n) (map_of n)
  counts_within = record { bytes = λ file i e. by_test (same_file (Block n) file) i e; sizes = λ file e. e }
    where
      by_test : (t : Bool) (i : ℕ) → ((t && (nat_le 16 i && nat_lt i 20)) || ((t && (nat_le 24 i && nat_lt i 40)) || (t && (nat_le 80 i && nat_lt i 8192)))) ≡ true
          → ((t && (nat_le 16 i && nat_lt i 20)) || ((t && (nat_le 24 i && nat_lt i 40)) || ((t && (nat_le 56 i && nat_lt i 60)) || (t && (nat_le 80 i && nat_lt i 8192))))) ≡ true
      by_test true i e = grind (arith, nat_tests)
      by_test false i e = e

  -- updating is beside it
  pub updating_kept : (a b : Image) → SameOutside (counts_of n) a b → updating_of (byte b (Block n)) ≡ updating_of (byte a (Block n))
  updating_kept a b same = same_word_outside (counts_of n) a b (Block n) 56 same (λ k low high. by_test (same_file (Block n) (Block n)) k low high)
    where
      by_test : (t : Bool) (k : ℕ) → 56 ≤ k → k < 56 + 4 → ((t && (nat_le 16 k && nat_lt k 20)) || ((t && (nat_le 24 k && nat_lt k 40)) || (t && (nat_le 80 k && nat_lt k 8192)))) ≡ false
      by_test true k low high = grind (arith, nat_tests)
      by_test false k low high = refl

-- a header has its length after a word
pub word_kept : {a b : Told} (n at value : ℕ) → Applies a b (word_step (Block n) at value) → ForSome a.files (λ image. 8192 ≤ length_of image (Block n)) → ForSome b.files (λ image. 8192 ≤ length_of image (Block n))
unfolding word_step
word_kept {a} {b} n at value grows long = told_whole (λ image. 8192 ≤ length_of image (Block n)) grows (λ from there. let e = (outside_write (Block n) at (word_bytes value) from).lengths (Block n) refl in let was = long from there in omega (arith, e, was))

-- a header has its length after two words
pub two_kept : {a b : Told} (n p v q w : ℕ) → Applies a b (word_steps (Block n) ((p, v) ∷ (q, w) ∷ [])) → ForSome a.files (λ image. 8192 ≤ length_of image (Block n)) → ForSome b.files (λ image. 8192 ≤ length_of image (Block n))
unfolding word_step
two_kept {a} {b} n p v q w grows long =
    told_whole (λ image. 8192 ≤ length_of image (Block n)) grows
    (λ from there. let e = (outside_write (Block n) p (word_bytes v) from).lengths (Block n) refl in
    let d = (outside_write (Block n) q (word_bytes w) (after (Word (Block n) p (word_bytes v) ∷ []) from)).lengths (Block n) refl in
    let was = long from there in omega (arith, e, d, was))

-- the last word alone
pub last_word : (n : ℕ) → word_step (Block n) 56 0 ≡ word_steps (Block n) ((56, 0) ∷ [])
unfolding word_step
last_word n = refl

module _ (n a e0 e1 e2 e3 : ℕ) where
  abbrev f : File
  f = Block n

  -- the counters, and then updating
  abbrev pub counter_words : List (ℕ × ℕ)
  counter_words = (16, a) ∷ (24, e0) ∷ (28, e1) ∷ (32, e2) ∷ (36, e3) ∷ []

  counters_within : IsWithin (touched_by_all (word_steps f counter_words)) (counts_of n)
  unfolding word_step
  counters_within =
      let M : Footprint = counts_of n in
      let b : Footprint = range f 16 4 in
      let c : Footprint = range f 24 4 in
      let d : Footprint = range f 28 4 in
      let g : Footprint = range f 32 4 in
      let h : Footprint = range f 36 4 in
      within_both b (either c (either d (either g (either h nothing)))) M (at_number n)
      (within_both c (either d (either g (either h nothing))) M (at_runs n 24 (omega arith) (omega arith))
      (within_both d (either g (either h nothing)) M (at_runs n 28 (omega arith) (omega arith))
      (within_both g (either h nothing) M (at_runs n 32 (omega arith) (omega arith))
      (within_both h nothing M (at_runs n 36 (omega arith) (omega arith)) (nothing_within M)))))

  counters_along : (from mid : Image) → SameOutside (counts_of n) from mid → Until (SameOutside (counts_of n) from) (SameOutside (counts_of n) from) mid (word_steps f counter_words)
  counters_along from mid same = outside_steps (counts_of n) (word_steps f counter_words) from mid counters_within same

  -- a header has its length after the counters
  pub counters_kept : {b c : Told} → Applies b c (word_steps f counter_words) → ForSome b.files (λ image. 8192 ≤ length_of image f) → ForSome c.files (λ image. 8192 ≤ length_of image f)
  counters_kept {b} {c} grows long =
      told_whole (λ image. 8192 ≤ length_of image f) grows
      (λ from there. let e = (until_last (SameOutside (counts_of n) from) (SameOutside (counts_of n) from) (word_steps f counter_words) from (counters_along from from (outside-refl (counts_of n) from))).lengths f refl in
      let was = long from there in omega (arith, e, was))
