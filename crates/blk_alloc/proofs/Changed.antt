-- What a change of marks leaves.
use Rattle.std.proofs.Common.{◌≡◌, ◌≢◌, ℕ, zero, suc, ◌+◌, ◌*◌, ◌/◌, ◌%◌, ◌^◌, ◌<◌, ◌≤◌, ◌⊎◌, inl, inr, List, length, Bool, false, if◌then◌else◌, sym, ◌∙◌, ap, ap₂, subst, arith, ⊎_elim, Some}
use Rattle.std.specs.Prelude.{◌==◌, slice_index}
use Rattle.std.specs.List.{count_by, range_with_len}
use Rattle.std.specs.Int.{bit_at}
use Rattle.std.proofs.lemmas.Bool.{cases_eq, cases_lt}
use Rattle.std.proofs.lemmas.Bool.Decides.{nat_tests}
use Rattle.spec_image.specs.Bytes.{content, word_bytes}
use Rattle.spec_image.specs.Image.{length_of, Image, File, Block, byte, bytes_of}
use Rattle.spec_image.specs.Steps.{after, word_steps, with_word, with_words}
use Rattle.spec_image.specs.Footprint.{SameOutside}
use Rattle.spec_image.proofs.Words.{word-beside, word-there, length-with_word}
use Rattle.spec_image.proofs.Footprints.{same_word_outside}
use Rattle.std.specs.Option.{ForSome}
use Rattle.spec_image.specs.Told.{Told, Applies, AppliesPrefix, PassesTo, Until}
use Rattle.spec_image.proofs.Runs.{passes_part, some_inj, told_whole}
use Rattle.spec_image.proofs.WordSteps.{quiet-word_steps}
use Rattle.spec_format.specs.Headers.{allocations_of, empty_of, updating_of}
use Rattle.spec_format.specs.Maps.{is_block_marked, longest_run, groups_with, groups_of, EmptyAgrees}
use Rattle.spec_format.specs.BlockFiles.{max_entries_in, most_blocks}
use Rattle.blk_addr.specs.Bits.{has_bit, is_between}
use Rattle.blk_alloc.specs.declared.plan.Plan.{Plan}
use Rattle.blk_alloc.specs.Counting.{counted}
use Rattle.blk_alloc.specs.Changes.{map_of, plan_words, with_marks, HasBlocks, IsPlan, IsMapInProgress, IsChanged}
use Rattle.spec_format.proofs.Groups.{longest_run-same, count-changed, one}
use Rattle.blk_alloc.proofs.Changing.{bytes_after, byte_beside, byte_there, ended, ended_is, ended_same, plan_until}

-- blocks that are marked or freed lie in one word of the map
outside_word : (start count b : ℕ) → start % 4 + count ≤ 4 → b / 32 ≢ start / 32 → is_between start (start + count) b ≡ false
outside_word start count b group apart = grind (arith, nat_tests)

-- all words of a plan over bytes that are a header at least
module _ (plan : Plan) (q : ℕ) (at : plan.at ≡ 80 + 4 * q) (few : q < 2028) (bytes : List ℕ) (long : 8192 ≤ length bytes) where
  abbrev b1 : List ℕ
  b1 = with_word 56 1 bytes

  abbrev b2 : List ℕ
  b2 = with_word plan.at plan.word b1

  abbrev b3 : List ℕ
  b3 = with_word 16 plan.counters.allocations b2

  abbrev b4 : List ℕ
  b4 = with_word 24 (slice_index plan.counters.empty 0) b3

  abbrev b5 : List ℕ
  b5 = with_word 28 (slice_index plan.counters.empty 1) b4

  abbrev b6 : List ℕ
  b6 = with_word 32 (slice_index plan.counters.empty 2) b5

  abbrev b7 : List ℕ
  b7 = with_word 36 (slice_index plan.counters.empty 3) b6

  abbrev all : List ℕ
  all = with_words (plan_words plan) bytes

  -- the lengths stay
  long1 : length b1 ≡ length bytes
  long1 = length-with_word 56 1 bytes

  long2 : length b2 ≡ length bytes
  long2 = length-with_word plan.at plan.word b1 ∙ long1

  long3 : length b3 ≡ length bytes
  long3 = length-with_word 16 plan.counters.allocations b2 ∙ long2

  long4 : length b4 ≡ length bytes
  long4 = length-with_word 24 (slice_index plan.counters.empty 0) b3 ∙ long3

  long5 : length b5 ≡ length bytes
  long5 = length-with_word 28 (slice_index plan.counters.empty 1) b4 ∙ long4

  long6 : length b6 ≡ length bytes
  long6 = length-with_word 32 (slice_index plan.counters.empty 2) b5 ∙ long5

  long7 : length b7 ≡ length bytes
  long7 = length-with_word 36 (slice_index plan.counters.empty 3) b6 ∙ long6

  -- a byte of the map is that of the word
  map_bytes : (k : ℕ) → 80 ≤ k → content all k ≡ content b2 k
  map_bytes k low =
      byte_beside 56 0 b7 k (inr (omega arith)) ∙ byte_beside 36 (slice_index plan.counters.empty 3) b6 k (inr (omega arith))
      ∙ byte_beside 32 (slice_index plan.counters.empty 2) b5 k (inr (omega arith)) ∙ byte_beside 28 (slice_index plan.counters.empty 1) b4 k (inr (omega arith))
      ∙ byte_beside 24 (slice_index plan.counters.empty 0) b3 k (inr (omega arith)) ∙ byte_beside 16 plan.counters.allocations b2 k (inr (omega arith))

  -- a mark of another word is as before
  pub bit_elsewhere : (b : ℕ) → b / 32 ≢ q → bit_at (content all (80 + b / 8)) (b % 8) ≡ bit_at (content bytes (80 + b / 8)) (b % 8)
  bit_elsewhere b apart =
      ap (λ (x : ℕ). bit_at x (b % 8))
      (map_bytes (80 + b / 8) (omega arith) ∙ byte_beside plan.at plan.word b1 (80 + b / 8) (beside (cases_lt (b / 32) q)) ∙ byte_beside 56 1 bytes (80 + b / 8) (inr (omega arith)))
    where
      beside : (b / 32 < q) ⊎ (q ≤ b / 32) → (80 + b / 8 < plan.at) ⊎ (plan.at + 4 ≤ 80 + b / 8)
      beside (inl before) = inl (omega (arith, at))
      beside (inr behind) = inr (omega (arith, at, apart))

  -- one of this word is as planned
  pub bit_here : (b : ℕ) → b / 32 ≡ q → has_bit (word_bytes plan.word) (b % 32) ≡ (bit_at (content all (80 + b / 8)) (b % 8) == 1)
  unfolding has_bit
  bit_here b here =
      let place : 80 + b / 8 ≡ plan.at + b % 32 / 8 = omega (arith, at, here) in
      let same : content all (80 + b / 8) ≡ content (word_bytes plan.word) (b % 32 / 8) = map_bytes (80 + b / 8) (omega arith) ∙ byte_there plan.at plan.word b1 (80 + b / 8) (b % 32 / 8) (omega arith) place (omega (arith, long1, few)) in
      let bit : b % 32 % 8 ≡ b % 8 = omega arith in
      ap₂ (λ (x y : ℕ). bit_at x y == 1) (sym same) bit

  -- the counters
  pub allocations_are : plan.counters.allocations < 2 ^ 32 → allocations_of (content all) ≡ plan.counters.allocations
  allocations_are fits =
      word-beside 16 56 0 b7 (inl (omega arith)) ∙ word-beside 16 36 (slice_index plan.counters.empty 3) b6 (inl (omega arith)) ∙ word-beside 16 32 (slice_index plan.counters.empty 2) b5 (inl (omega arith))
      ∙ word-beside 16 28 (slice_index plan.counters.empty 1) b4 (inl (omega arith)) ∙ word-beside 16 24 (slice_index plan.counters.empty 0) b3 (inl (omega arith))
      ∙ word-there 16 plan.counters.allocations b2 fits (omega (arith, long2))

  pub empty_are : ((i : ℕ) → i < 4 → slice_index plan.counters.empty i < 2 ^ 32) → (i : ℕ) → i < 4 → empty_of (content all) i ≡ slice_index plan.counters.empty i
  empty_are fits zero small =
      word-beside 24 56 0 b7 (inl (omega arith)) ∙ word-beside 24 36 (slice_index plan.counters.empty 3) b6 (inl (omega arith)) ∙ word-beside 24 32 (slice_index plan.counters.empty 2) b5 (inl (omega arith))
      ∙ word-beside 24 28 (slice_index plan.counters.empty 1) b4 (inl (omega arith)) ∙ word-there 24 (slice_index plan.counters.empty 0) b3 (fits 0 (omega arith)) (omega (arith, long3))
  empty_are fits (suc zero) small =
      word-beside 28 56 0 b7 (inl (omega arith)) ∙ word-beside 28 36 (slice_index plan.counters.empty 3) b6 (inl (omega arith)) ∙ word-beside 28 32 (slice_index plan.counters.empty 2) b5 (inl (omega arith))
      ∙ word-there 28 (slice_index plan.counters.empty 1) b4 (fits 1 (omega arith)) (omega (arith, long4))
  empty_are fits (suc (suc zero)) small =
      word-beside 32 56 0 b7 (inl (omega arith)) ∙ word-beside 32 36 (slice_index plan.counters.empty 3) b6 (inl (omega arith)) ∙ word-there 32 (slice_index plan.counters.empty 2) b5 (fits 2 (omega arith)) (omega (arith, long5))
  empty_are fits (suc (suc (suc zero))) small = word-beside 36 56 0 b7 (inl (omega arith)) ∙ word-there 36 (slice_index plan.counters.empty 3) b6 (fits 3 (omega arith)) (omega (arith, long6))
  empty_are fits (suc (suc (suc (suc i)))) small = absurd (omega arith)

  pub updating_is : updating_of (content all) ≡ 0
  updating_is = word-there 56 0 b7 (omega arith) (omega (arith, long7))

module _ (from : Image) (n start count : ℕ) (used : Bool) (plan : Plan) (long : 8192 ≤ length_of from (Block n)) (inside : start + count ≤ most_blocks) (some : 0 < count) (group : start % 4 + count ≤ 4) (is : IsPlan from n start count used plan)
    (fits : plan.counters.allocations < 2 ^ 32) (runs_fit : (i : ℕ) → i < 4 → slice_index plan.counters.empty i < 2 ^ 32) where
  abbrev pub f : File
  f = Block n

  pub low : 80 ≤ plan.at
  low = let at = is.at in omega (arith, at)

  pub high : plan.at + 4 ≤ 8192
  high = let at = is.at in omega (arith, at, inside, some)

  few : start / 32 < 2028
  few = omega (arith, inside, some)

  abbrev pub image : Image
  image = ended n plan low high from

  bytes_are : bytes_of image f ≡ with_words (plan_words plan) (bytes_of from f)
  bytes_are = ap (λ (i : Image). bytes_of i f) (sym (ended_is n plan low high from)) ∙ bytes_after f (plan_words plan) from

  abbrev new : ℕ → ℕ
  new = content (with_words (plan_words plan) (bytes_of from f))

  marks_are : (b : ℕ) → b < most_blocks → is_block_marked image n b ≡ with_marks (is_block_marked from n) start count used b
  marks_are b small = ap (λ (l : List ℕ). bit_at (content l (80 + b / 8)) (b % 8) == 1) bytes_are ∙ ⊎_elim here elsewhere (cases_eq (b / 32) (start / 32))
    where
      here : b / 32 ≡ start / 32 → (bit_at (new (80 + b / 8)) (b % 8) == 1) ≡ with_marks (is_block_marked from n) start count used b
      here e =
          sym (bit_here plan (start / 32) is.at few (bytes_of from f) long b e) ∙ is.bits (b % 32) (omega arith)
          ∙ ap (with_marks (is_block_marked from n) start count used) {x = 32 * (start / 32) + b % 32} {y = b} (omega (arith, e))

      elsewhere : b / 32 ≢ start / 32 → (bit_at (new (80 + b / 8)) (b % 8) == 1) ≡ with_marks (is_block_marked from n) start count used b
      elsewhere apart =
          ap (λ (x : ℕ). x == 1) (bit_elsewhere plan (start / 32) is.at few (bytes_of from f) long b apart)
          ∙ ap (λ (t : Bool). if t then used else is_block_marked from n b) (sym (outside_word start count b group apart))

  same : SameOutside (map_of n) from image
  same = ended_same n plan low high from long

  -- the number of blocks stays
  blocks_same : max_entries_in image n ≡ max_entries_in from n
  unfolding max_entries_in
  blocks_same = same_word_outside (map_of n) from image f 20 same (λ k from_ upto. grind (arith, nat_tests))

  abbrev groups : ℕ
  groups = groups_of (max_entries_in from n)

  abbrev before : ℕ
  before = longest_run (is_block_marked from n) (start / 4)

  abbrev later : ℕ
  later = longest_run (with_marks (is_block_marked from n) start count used) (start / 4)

  later_is : longest_run (is_block_marked image n) (start / 4) ≡ later
  later_is = longest_run-same (is_block_marked image n) (with_marks (is_block_marked from n) start count used) (start / 4) (start / 4) (λ i small. marks_are (4 * (start / 4) + i) (omega (arith, inside, some, group)))

  other_group : max_entries_in from n ≤ most_blocks → (g : ℕ) → g < groups → g ≢ start / 4 → longest_run (is_block_marked from n) g ≡ longest_run (is_block_marked image n) g
  other_group most g there apart =
      longest_run-same (is_block_marked from n) (is_block_marked image n) g g
      (λ i small.
      let out : is_between start (start + count) (4 * g + i) ≡ false = grind (arith, nat_tests) in
      sym (marks_are (4 * g + i) (omega (arith, most, there)) ∙ ap (λ (t : Bool). if t then used else is_block_marked from n (4 * g + i)) out))

  empty_is : (i : ℕ) → i < 4 → empty_of (byte image f) i ≡ slice_index plan.counters.empty i
  empty_is i small = ap (λ (l : List ℕ). empty_of (content l) i) bytes_are ∙ empty_are plan (start / 32) is.at few (bytes_of from f) long runs_fit i small

  counts_are : (i : ℕ) → i < 4 → empty_of (byte image f) i + counted before i ≡ empty_of (byte from f) i + counted (longest_run (is_block_marked image n) (start / 4)) i
  counts_are i small =
      let now = empty_is i small in
      let moved = is.empty i small in
      let last : counted (longest_run (is_block_marked image n) (start / 4)) i ≡ counted later i = ap (λ (r : ℕ). counted r i) later_is in
      omega (arith, now, moved, last)

  empty_true : HasBlocks from n start count → EmptyAgrees from n → EmptyAgrees image n
  unfolding EmptyAgrees groups_with
  empty_true has were i small =
      let p : ℕ → Bool = λ g. longest_run (is_block_marked from n) g == i + 1 in
      let q : ℕ → Bool = λ g. longest_run (is_block_marked image n) g == i + 1 in
      let whole = has.whole in
      let below = has.below in
      let there : start / 4 < groups = omega (arith, whole, below, some) in
      let changed : count_by q (range_with_len 0 groups) + one (p (start / 4)) ≡ count_by p (range_with_len 0 groups) + one (q (start / 4)) =
      count-changed p q (start / 4) 0 groups (omega arith) (omega (arith, there)) (λ g low high apart. ap (λ (r : ℕ). r == i + 1) (other_group has.most g (omega (arith, high)) apart)) in
      let was : empty_of (byte from f) i ≡ count_by p (range_with_len 0 groups) = were i small in
      let moved = counts_are i small in
      let total : empty_of (byte image f) i ≡ count_by q (range_with_len 0 groups) = omega (arith, changed, was, moved) in
      total ∙ ap (λ (m : ℕ). count_by q (range_with_len 0 (groups_of m))) (sym blocks_same)

  pub changed_is : IsChanged from n start count used image
  changed_is = record {
    same = same;
    marks = marks_are;
    allocations =
        let now : allocations_of (byte image f) ≡ plan.counters.allocations = ap (λ (l : List ℕ). allocations_of (content l)) bytes_are ∙ allocations_are plan (start / 32) is.at few (bytes_of from f) long fits in
        let counted = is.allocations in
        omega (arith, now, counted);
    counts = counts_are;
    empty = empty_true;
    updating = ap (λ (l : List ℕ). updating_of (content l)) bytes_are ∙ updating_is plan (start / 32) is.at few (bytes_of from f) long;
  }

  -- what each prefix of the plan's words leaves
  pub change_stops : {a b : Told} → a.files ≡ Some from → AppliesPrefix a b (word_steps f (plan_words plan)) → PassesTo a b (IsMapInProgress n from) (λ i. IsMapInProgress n from i ⊎ IsChanged from n start count used i)
  change_stops {a} {b} there part =
      let Q : Image → Type 0 = λ i. IsMapInProgress n from i ⊎ IsChanged from n start count used i in
      passes_part (IsMapInProgress n from) Q part (quiet-word_steps f (plan_words plan) tt) (λ i midst. inl midst)
      (λ i is_. subst (λ (j : Image). Until (IsMapInProgress n from) Q j (word_steps f (plan_words plan))) (some_inj (sym there ∙ is_)) (plan_until n plan low high from Q long (inr changed_is)))

  -- all of its words make the change
  pub change_done : {a b : Told} → a.files ≡ Some from → Applies a b (word_steps f (plan_words plan)) → ForSome b.files (IsChanged from n start count used)
  change_done {a} {b} there grows =
      told_whole (IsChanged from n start count used) grows
      (λ i is_. subst (λ (j : Image). IsChanged from n start count used (after (word_steps f (plan_words plan)) j)) (some_inj (sym there ∙ is_)) (subst (IsChanged from n start count used) (sym (ended_is n plan low high from)) changed_is))
