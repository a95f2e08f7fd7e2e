-- The plan of a change of marks.
use Rattle.std.proofs.Common.{◌≡◌, ℕ, ◌+◌, ◌*◌, ◌/◌, ◌%◌, ◌<◌, ◌≤◌, List, Bool, true, false, if◌then◌else◌, sym, ◌∙◌, ap, ap₂, arith}
use Rattle.std.specs.Prelude.{◌==◌, slice_index}
use Rattle.std.proofs.lemmas.Bool.Decides.{nat_tests}
use Rattle.spec_image.specs.Bytes.{range_at, word_bytes}
use Rattle.spec_image.specs.Image.{Image, Block, byte}
use Rattle.spec_format.specs.BlockFiles.{max_entries_in}
use Rattle.spec_format.specs.Maps.{is_block_marked, longest_run, groups_with, groups_of, EmptyAgrees}
use Rattle.blk_addr.specs.Bits.{has_bit, is_between}
use Rattle.blk_alloc.specs.declared.counters.Counters.{Counters}
use Rattle.blk_alloc.specs.Counting.{AreCounters, counted, MovesRun, MayMoveRun}
use Rattle.blk_alloc.specs.Changes.{IsPlan, CanChangeMarks, with_marks}
use Rattle.spec_format.proofs.Groups.{longest_run-same, counted_there, counted_most, one}
use Rattle.blk_alloc.proofs.Headers.{bit_read}

module _ (image : Image) (n start count : ℕ) (used : Bool) (ready : CanChangeMarks image n start count used) (some : 0 < count) where
  -- the group is one of the file
  pub group_there : start / 4 < groups_of (max_entries_in image n)
  group_there = let whole = ready.whole in let below = ready.below in omega (arith, whole, below, some)

  -- counters that agree with the map may move
  pub may_move : (counters : Counters) (before later : ℕ) → AreCounters (byte image (Block n)) counters → before ≡ longest_run (is_block_marked image n) (start / 4) → MayMoveRun counters before later used
  unfolding groups_with EmptyAgrees
  may_move counters before later are is = record {
    more = λ e. let few = ready.more e in let same = are.allocations in omega (arith, few, same);
    less = λ e. let few = ready.less e in let same = are.allocations in omega (arith, few, same);
    enough = λ i small.
        let test : ℕ → Bool = λ g. longest_run (is_block_marked image n) g == i + 1 in
        let there = counted_there test (start / 4) 0 (groups_of (max_entries_in image n)) (omega arith) (omega (arith, group_there)) in
        let same = are.empty i small ∙ ready.empty i small in
        let e : counted before i ≡ one (test (start / 4)) = ap (λ (r : ℕ). one (r == i + 1)) is in
        omega (arith, there, same, e);
    room = λ i small.
        let test : ℕ → Bool = λ g. longest_run (is_block_marked image n) g == i + 1 in
        let most = counted_most test 0 (groups_of (max_entries_in image n)) in
        let same = are.empty i small ∙ ready.empty i small in
        let few : counted later i ≤ 1 = one_most (later == i + 1) in
        let blocks = ready.most in
        omega (arith, most, same, few, blocks);
  }
    where
      one_most : (t : Bool) → one t ≤ 1
      one_most true = omega arith
      one_most false = omega arith

-- a run of blocks inside one word of the map
in_word : (start count m : ℕ) → m < 32 → start % 4 + count ≤ 4 → is_between (start % 32) (start % 32 + count) m ≡ is_between start (start + count) (32 * (start / 32) + m)
in_word start count m small group = grind (arith, nat_tests)

module _ (image : Image) (n start count : ℕ) (used : Bool) (old new : List ℕ) (read : old ≡ range_at (byte image (Block n)) (80 + 4 * (start / 32)) 4)
    (group : start % 4 + count ≤ 4)
    (marks : (m : ℕ) → has_bit new m ≡ (if is_between (start % 32) (start % 32 + count) m then used else has_bit old m)) where
  -- the word's bits before
  old_bits : (m : ℕ) → m < 32 → has_bit old m ≡ is_block_marked image n (32 * (start / 32) + m)
  old_bits m small = ap (λ (l : List ℕ). has_bit l m) read ∙ bit_read (byte image (Block n)) (4 * (start / 32)) 4 (32 * (start / 32) + m) m (omega arith) (omega arith)

  -- the word's bits with the new marks
  pub new_bits : (m : ℕ) → m < 32 → has_bit new m ≡ with_marks (is_block_marked image n) start count used (32 * (start / 32) + m)
  new_bits m small =
      marks m ∙ ap (λ (t : Bool). if t then used else has_bit old m) (in_word start count m small group)
      ∙ ap (λ (b : Bool). if is_between start (start + count) (32 * (start / 32) + m) then used else b) (old_bits m small)

  -- the longest run of the group, before and after
  pub run_before : longest_run (has_bit old) (start % 32 / 4) ≡ longest_run (is_block_marked image n) (start / 4)
  run_before =
      longest_run-same (has_bit old) (is_block_marked image n) (start % 32 / 4) (start / 4)
      (λ i small. old_bits (4 * (start % 32 / 4) + i) (omega arith) ∙ ap (is_block_marked image n) {x = 32 * (start / 32) + (4 * (start % 32 / 4) + i)} {y = 4 * (start / 4) + i} (omega arith))

  pub run_later : longest_run (has_bit new) (start % 32 / 4) ≡ longest_run (with_marks (is_block_marked image n) start count used) (start / 4)
  run_later =
      longest_run-same (has_bit new) (with_marks (is_block_marked image n) start count used) (start % 32 / 4) (start / 4)
      (λ i small. new_bits (4 * (start % 32 / 4) + i) (omega arith) ∙ ap (with_marks (is_block_marked image n) start count used) {x = 32 * (start / 32) + (4 * (start % 32 / 4) + i)} {y = 4 * (start / 4) + i} (omega arith))

  -- what was read, and the counters that move, are the plan
  pub plan_is : (before later : ℕ) (counters moved : Counters) (at word : ℕ) → at ≡ 80 + 4 * (start / 32) → word_bytes word ≡ new
      → AreCounters (byte image (Block n)) counters → MovesRun counters moved before later used → before ≡ longest_run (has_bit old) (start % 32 / 4) → later ≡ longest_run (has_bit new) (start % 32 / 4)
      → IsPlan image n start count used (record { at = at; word = word; counters = moved })
  plan_is before later counters moved at word place is are moves first second = record {
    at = place;
    bits = λ m few. ap (λ (l : List ℕ). has_bit l m) is ∙ new_bits m few;
    allocations =
        let same = are.allocations in
        let count = moves.allocations in
        omega (arith, same, count);
    empty = λ i few.
        ap (λ (r : ℕ). slice_index moved.empty i + counted r i) (sym (first ∙ run_before))
        ∙ moves.empty i few
        ∙ ap₂ (λ (x r : ℕ). x + counted r i) (are.empty i few) (second ∙ run_later);
  }
