-- What the words of a plan do to the files.
use Rattle.std.proofs.Common.{◌≡◌, ℕ, ◌+◌, ◌<◌, ◌≤◌, ◌⊎◌, inl, inr, List, [], ◌∷◌, length, true, false, refl, sym, ◌∙◌, ap, subst, arith, lit<}
use Rattle.std.specs.Prelude.{slice_index}
use Rattle.spec_image.specs.Bytes.{content, word_at, word_bytes}
use Rattle.spec_image.specs.Image.{Image, File, Block, bytes_of, length_of}
use Rattle.spec_image.specs.Steps.{Word, applied, after, word_step, word_steps, with_word, with_words}
use Rattle.spec_image.specs.Told.{Until}
use Rattle.spec_image.specs.Footprint.{Footprint, SameOutside, IsWithin, either, nothing, one_word, range, touched_by_all}
use Rattle.spec_image.proofs.Splices.{content-spliced_inside, content-spliced_outside}
use Rattle.spec_image.proofs.Words.{word-beside, word-there}
use Rattle.spec_image.proofs.Images.{bytes_of-written}
use Rattle.spec_image.proofs.Footprints.{outside-refl, outside-trans, outside_wider, outside_steps, outside_write, within_left, within_right, within_both, range_within}
use Rattle.spec_image.proofs.Runs.{until_both, until_weaker2, until-append, until_last}
use Rattle.spec_image.proofs.WordSteps.{along_over, StaysOver}
use Rattle.blk_alloc.specs.declared.plan.Plan.{Plan}
use Rattle.blk_alloc.specs.Changes.{map_of, plan_words, IsMapInProgress}
use Rattle.spec_format.proofs.Groups.{one}

-- one within another within a third
pub within-trans : (F G H : Footprint) → IsWithin F G → IsWithin G H → IsWithin F H
within-trans F G H one other = record { bytes = λ file i e. other.bytes file i (one.bytes file i e); sizes = λ file e. other.sizes file (one.sizes file e) }

pub nothing_within : (F : Footprint) → IsWithin nothing F
nothing_within F = record { bytes = λ g i e. absurd (clash e); sizes = λ g e. absurd (clash e) }
  where
    clash : false ≡ true → ⊥
    clash c = cc

-- the words of a header that a change touches
module _ (n : ℕ) where
  abbrev pub updated : Footprint
  updated = either (one_word (Block n) 56) (range (Block n) 80 8112)

  abbrev pub emptied : Footprint
  emptied = either (range (Block n) 24 16) updated

  at_counter : IsWithin (range (Block n) 16 4) (map_of n)
  at_counter = within_left (one_word (Block n) 16) emptied

  inner : IsWithin updated (map_of n)
  inner = within-trans updated emptied (map_of n) (within_right (range (Block n) 24 16) updated) (within_right (one_word (Block n) 16) emptied)

  at_empty : (p : ℕ) → 24 ≤ p → p + 4 ≤ 40 → IsWithin (range (Block n) p 4) (map_of n)
  at_empty p low high =
      within-trans (range (Block n) p 4) (range (Block n) 24 16) (map_of n) (range_within (Block n) p 4 24 16 low high)
      (within-trans (range (Block n) 24 16) emptied (map_of n) (within_left (range (Block n) 24 16) updated) (within_right (one_word (Block n) 16) emptied))

  pub at_updating : IsWithin (range (Block n) 56 4) (map_of n)
  at_updating = within-trans (range (Block n) 56 4) updated (map_of n) (within_left (one_word (Block n) 56) (range (Block n) 80 8112)) inner

  at_map : (p : ℕ) → 80 ≤ p → p + 4 ≤ 8192 → IsWithin (range (Block n) p 4) (map_of n)
  at_map p low high =
      within-trans (range (Block n) p 4) (range (Block n) 80 8112) (map_of n) (range_within (Block n) p 4 80 8112 low high)
      (within-trans (range (Block n) 80 8112) updated (map_of n) (within_right (one_word (Block n) 56) (range (Block n) 80 8112)) inner)

-- no step was made
pub midst_begin : (n : ℕ) (from : Image) → IsMapInProgress n from from
midst_begin n from = record { same = outside-refl (map_of n) from; updating = inr (outside-refl (one_word (Block n) 56) from) }

-- the words between the two of updating
abbrev pub inner_words : Plan → List (ℕ × ℕ)
inner_words plan =
    (plan.at, plan.word) ∷ (16, plan.counters.allocations) ∷ (24, slice_index plan.counters.empty 0) ∷ (28, slice_index plan.counters.empty 1)
    ∷ (32, slice_index plan.counters.empty 2) ∷ (36, slice_index plan.counters.empty 3) ∷ []

-- a file after words that were written to it
pub bytes_after : (f : File) (ws : List (ℕ × ℕ)) (image : Image) → bytes_of (after (word_steps f ws) image) f ≡ with_words ws (bytes_of image f)
unfolding word_step with_word
bytes_after f [] image = refl
bytes_after f (w ∷ ws) image = bytes_after f ws (applied (Word f w.0 (word_bytes w.1)) image) ∙ ap (with_words ws) (bytes_of-written image f w.0 (word_bytes w.1))

-- a byte beside a word that was written
pub byte_beside : (p v : ℕ) (bytes : List ℕ) (k : ℕ) → (k < p) ⊎ (p + 4 ≤ k) → content (with_word p v bytes) k ≡ content bytes k
unfolding with_word
byte_beside p v bytes k apart = content-spliced_outside p (word_bytes v) bytes k apart

-- a byte of a word that was written
pub byte_there : (p v : ℕ) (bytes : List ℕ) (j k : ℕ) → k < 4 → j ≡ p + k → j < length bytes → content (with_word p v bytes) j ≡ content (word_bytes v) k
unfolding with_word
byte_there p v bytes j k few is inside = content-spliced_inside p (word_bytes v) bytes k j is few inside

module _ (n : ℕ) (plan : Plan) (low : 80 ≤ plan.at) (high : plan.at + 4 ≤ 8192) where
  abbrev pub file : File
  file = Block n

  inner_within : IsWithin (touched_by_all (word_steps file (inner_words plan))) (map_of n)
  unfolding word_step
  inner_within =
      let M : Footprint = map_of n in
      let a : Footprint = range file plan.at 4 in
      let b : Footprint = range file 16 4 in
      let c : Footprint = range file 24 4 in
      let d : Footprint = range file 28 4 in
      let e : Footprint = range file 32 4 in
      let f : Footprint = range file 36 4 in
      within_both a (either b (either c (either d (either e (either f nothing))))) M (at_map n plan.at low high)
      (within_both b (either c (either d (either e (either f nothing)))) M (at_counter n)
      (within_both c (either d (either e (either f nothing))) M (at_empty n 24 (omega arith) (omega arith))
      (within_both d (either e (either f nothing)) M (at_empty n 28 (omega arith) (omega arith))
      (within_both e (either f nothing) M (at_empty n 32 (omega arith) (omega arith))
      (within_both f nothing M (at_empty n 36 (omega arith) (omega arith)) (nothing_within M))))))

  -- the files after updating is 1
  abbrev pub begun : Image → Image
  begun from = applied (Word file 56 (word_bytes 1)) from

  -- the files when all but updating is written
  abbrev pub written : Image → Image
  written from = after (word_steps file (inner_words plan)) (begun from)

  -- the files at the end
  abbrev pub ended : Image → Image
  ended from = applied (Word file 56 (word_bytes 0)) (written from)

  abbrev Marked : List ℕ → Type 0
  Marked bytes = word_at (content bytes) 56 ≡ 1

  same_begun : (from : Image) → SameOutside (one_word file 56) from (begun from)
  same_begun from = outside_write file 56 (word_bytes 1) from

  step_within : (from a b : Image) (v : ℕ) → b ≡ applied (Word file 56 (word_bytes v)) a → SameOutside (map_of n) from a → SameOutside (map_of n) from b
  step_within from a b v is same = subst (SameOutside (map_of n) from) (sym is) (outside-trans (map_of n) from a _ same (outside_wider (range file 56 4) (map_of n) a _ (at_updating n) (outside_write file 56 (word_bytes v) a)))

  begun_same : (from : Image) → SameOutside (map_of n) from (begun from)
  begun_same from = step_within from from (begun from) 1 refl (outside-refl (map_of n) from)

  stays : StaysOver Marked (inner_words plan)
  stays = (
    (λ bytes holds. word-beside 56 plan.at plan.word bytes (inl (omega arith)) ∙ holds),
    (
      (λ bytes holds. word-beside 56 16 plan.counters.allocations bytes (inr (omega arith)) ∙ holds),
      (
        (λ bytes holds. word-beside 56 24 (slice_index plan.counters.empty 0) bytes (inr (omega arith)) ∙ holds),
        (
          (λ bytes holds. word-beside 56 28 (slice_index plan.counters.empty 1) bytes (inr (omega arith)) ∙ holds),
          (
            (λ bytes holds. word-beside 56 32 (slice_index plan.counters.empty 2) bytes (inr (omega arith)) ∙ holds),
            ((λ bytes holds. word-beside 56 36 (slice_index plan.counters.empty 3) bytes (inr (omega arith)) ∙ holds), tt),
          ),
        ),
      ),
    ),
  )

  marked_begun : (from : Image) → 8192 ≤ length_of from file → Marked (bytes_of (begun from) file)
  marked_begun from long = ap (λ (b : List ℕ). word_at (content b) 56) (bytes_of-written from file 56 (word_bytes 1)) ∙ unfold with_word in word-there 56 1 (bytes_of from file) (lit< tt) (omega (arith, long))

  -- before the last word is written the change is under way
  midst_along : (from : Image) → 8192 ≤ length_of from file → Until (IsMapInProgress n from) (IsMapInProgress n from) (begun from) (word_steps file (inner_words plan))
  midst_along from long =
      let both : Until (λ i. SameOutside (map_of n) from i × Marked (bytes_of i file)) (λ i. SameOutside (map_of n) from i × Marked (bytes_of i file)) (begun from) (word_steps file (inner_words plan)) =
      until_both (SameOutside (map_of n) from) (λ i. Marked (bytes_of i file)) (SameOutside (map_of n) from) (λ i. Marked (bytes_of i file)) (word_steps file (inner_words plan)) (begun from)
      (outside_steps (map_of n) (word_steps file (inner_words plan)) from (begun from) inner_within (begun_same from))
      (along_over Marked file (inner_words plan) (begun from) stays (marked_begun from long)) in
      let midst : (i : Image) → SameOutside (map_of n) from i × Marked (bytes_of i file) → IsMapInProgress n from i = λ i h. record { same = h.0; updating = inl h.1 } in
      until_weaker2 (λ i. SameOutside (map_of n) from i × Marked (bytes_of i file)) (IsMapInProgress n from) (λ i. SameOutside (map_of n) from i × Marked (bytes_of i file)) (IsMapInProgress n from) (word_steps file (inner_words plan)) (begun from) midst midst both

  -- the steps of the plan
  pub plan_until : (from : Image) (Q : Image → Type 0) → 8192 ≤ length_of from file → Q (ended from) → Until (IsMapInProgress n from) Q from (word_steps file (plan_words plan))
  unfolding word_step
  plan_until from Q long last = (
    midst_begin n from,
    until-append (IsMapInProgress n from) Q (word_steps file (inner_words plan)) (Word file 56 (word_bytes 0) ∷ []) (begun from) (midst_along from long)
        (until_last (IsMapInProgress n from) (IsMapInProgress n from) (word_steps file (inner_words plan)) (begun from) (midst_along from long), last),
  )

  pub ended_is : (from : Image) → after (word_steps file (plan_words plan)) from ≡ ended from
  unfolding word_step
  ended_is from = refl

  pub ended_same : (from : Image) → 8192 ≤ length_of from file → SameOutside (map_of n) from (ended from)
  ended_same from long = step_within from (written from) (ended from) 0 refl (until_last (IsMapInProgress n from) (IsMapInProgress n from) (word_steps file (inner_words plan)) (begun from) (midst_along from long)).same
