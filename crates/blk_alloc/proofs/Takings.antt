-- Blocks that are taken: a hint is set, which leaves all that is asked of marks, and then they are marked.
use Rattle.std.proofs.Common.{◌≡◌, ◌≢◌, ℕ, ◌+◌, ◌*◌, ◌/◌, ◌%◌, ◌<◌, ◌≤◌, ◌⊎◌, inl, inr, Bool, true, false, ◌&&◌, nat_le, nat_lt, if◌then◌else◌, refl, sym, ◌∙◌, ap, subst, arith, ⊎_elim}
use Rattle.std.proofs.lemmas.Bool.Decides.{nat_tests}
use Rattle.spec_image.specs.Image.{Block, External, Image, byte, length_of, same_file}
use Rattle.spec_image.specs.Footprint.{Footprint, IsWithin, SameOutside, one_word}
use Rattle.spec_image.proofs.Footprints.{outside-trans, outside_wider, range_within, same_word_outside}
use Rattle.spec_image.proofs.Words.{same-range}
use Rattle.spec_format.specs.Address.{file_selector}
use Rattle.spec_format.specs.BlockFiles.{is_among, max_entries_in}
use Rattle.spec_format.specs.Headers.{allocations_of, empty_of, hints_of}
use Rattle.spec_format.specs.Maps.{are_free, groups_of, groups_with, is_block_marked, longest_run, EmptyAgrees}
use Rattle.spec_format.proofs.Keeping.{undamaged_still}
use Rattle.spec_format.proofs.SpareHeaders.{other_file}
use Rattle.blk_disk.specs.declared.tables.BlockFiles.{BlockFiles}
use Rattle.blk_disk.specs.Tables.{Agrees, all_files}
use Rattle.blk_alloc.specs.declared.blocks.Blocks.{Blocks}
use Rattle.blk_alloc.specs.Counting.{counted, IsCounted}
use Rattle.blk_alloc.specs.Fitting.{hint_place, IsMapWord}
use Rattle.blk_alloc.specs.Marking.{hints_of_file, taking_of, CanBeMarked, CountsUsed, MarksUsed, MarksUsedInProgress}
use Rattle.blk_alloc.specs.Owning.{is_of}
use Rattle.blk_alloc.proofs.Changing.{within-trans}
use Rattle.blk_alloc.proofs.Sparing.{SparesFields, blocks_spared, heads_spared, linked_spared, next_spared}
use Rattle.blk_alloc.proofs.Taken.{hints_quiet, hints_taken, quiet_of}
use Rattle.blk_alloc.proofs.Widening.{Widens, allocations_more, mark_kept}

-- one hint of a file is among its hints
hint_among : (n i : ℕ) → i < 4 → IsWithin (one_word (Block n) (hint_place i)) (hints_of_file n)
hint_among n i small = range_within (Block n) (40 + 4 * i) 4 40 16 (omega arith) (omega (arith, small))

module _ (n i : ℕ) (small : i < 4) (from mid : Image) (same : SameOutside (one_word (Block n) (hint_place i)) from mid) where
  abbrev hint : Footprint
  hint = one_word (Block n) (hint_place i)

  spared : (m k : ℕ) → (k < 40) ⊎ (56 ≤ k) → hint.bytes (Block m) k ≡ false
  spared m k apart = by_test (same_file (Block n) (Block m)) k apart
    where
      by_test : (t : Bool) (k : ℕ) → (k < 40) ⊎ (56 ≤ k) → (t && (nat_le (40 + 4 * i) k && nat_lt k (40 + 4 * i + 4))) ≡ false
      by_test true k apart = grind (arith, nat_tests)
      by_test false k apart = refl

  kept : (m k : ℕ) → (k < 40) ⊎ (56 ≤ k) → byte mid (Block m) k ≡ byte from (Block m) k
  kept m k apart = same.bytes (Block m) k (spared m k apart)

  sizes : (m : ℕ) → length_of mid (Block m) ≡ length_of from (Block m)
  sizes m = same.lengths (Block m) refl

  fields : SparesFields hint
  fields = record {
    fields = λ m k field. spared m k (inl (⊎_elim (λ (low : k < 16). omega (arith, low)) (λ (both : (20 ≤ k) × (k < 24)). let high = both.1 in omega (arith, high)) field));
    blocks = λ m k past. spared m k (inr (omega (arith, past)));
    index = λ k. refl;
    index_size = refl;
    externals = λ m k. refl;
    external_sizes = λ m. refl;
  }

  longer : (m : ℕ) → length_of from (Block m) ≤ length_of mid (Block m)
  longer m = let e = sizes m in omega (arith, e)

  blocks : (m : ℕ) → max_entries_in mid m ≡ max_entries_in from m
  blocks m = blocks_spared hint from mid fields same longer m

  marks : (m b : ℕ) → is_block_marked mid m b ≡ is_block_marked from m b
  marks m b = mark_kept from mid m b (kept m (80 + b / 8) (inr (omega arith)))

  pub agrees_hinted : (files : BlockFiles) → Agrees files from → Agrees files mid
  agrees_hinted files agrees = record {
    links = λ kind holds. agrees.links kind holds ∙ sym (λ j. linked_spared hint from mid fields same longer j kind);
    blocks = λ m among. agrees.blocks m among ∙ sym (blocks m);
    lengths = λ m among. agrees.lengths m among ∙ sym (sizes m);
    undamaged = undamaged_still from mid (next_spared hint from mid fields same longer) (heads_spared hint from mid fields same longer) agrees.undamaged;
  }

  pub word_hinted : (m number w : ℕ) → IsMapWord from m number w → IsMapWord mid m number w
  word_hinted m number w read = read ∙ same-range 4 (80 + 4 * number) (byte from (Block m)) (byte mid (Block m)) (λ k low high. sym (kept m k (inr (omega (arith, low)))))

  widens : (files : BlockFiles) → Widens files files from mid
  widens files = record {
    tables = record { types = λ f there. refl; blocks = λ f there. omega arith; lengths = λ f there. omega arith };
    externals = λ m. same.files (External m) refl;
    marks = λ f b there. marks f b;
    allocations = λ f there. same_word_outside hint from mid (Block f) 16 same (λ k low high. spared f k (inl (omega (arith, high))));
  }

  empties : (m : ℕ) → EmptyAgrees from m → EmptyAgrees mid m
  unfolding EmptyAgrees
  empties m was j few =
      same_word_outside hint from mid (Block m) (24 + 4 * j) same (λ k low high. spared m k (inl (omega (arith, high, few)))) ∙ was j few
      ∙ (λ t. groups_with (λ b. sym (marks m b) t) (groups_of (sym (blocks m) t)) (j + 1))

  pub can_hinted : (place : Blocks) → CanBeMarked from place → CanBeMarked mid place
  can_hinted place can =
      let n = place.file in
      let ready = can.ready in
      let size = sizes place.file in
      let max = blocks place.file in
      let count : allocations_of (byte mid (Block place.file)) ≡ allocations_of (byte from (Block place.file)) = same_word_outside hint from mid (Block place.file) 16 same (λ k low high. spared place.file k (inl (omega (arith, high)))) in
      record {
        ready = record {
          header = let long = ready.header in omega (arith, long, size);
          whole = ap (λ (k : ℕ). k % 4) max ∙ ready.whole;
          most = let most = ready.most in omega (arith, most, max);
          below = let below = ready.below in omega (arith, below, max);
          empty = empties place.file ready.empty;
          more = λ e. let few = ready.more e in omega (arith, few, count);
          less = λ e. let few = ready.less e in omega (arith, few, count);
        };
        free = (λ j. are_free (λ b. marks place.file b j) place.start place.count) ∙ can.free;
      }

  -- the files once the hint was set
  pub hinted_moment : MarksUsedInProgress n from mid
  hinted_moment = record {
    same = outside_wider hint (taking_of n) from mid (within-trans hint (hints_of_file n) (taking_of n) (hint_among n i small) (hints_taken n)) same;
    longer = longer n;
    updating = inr (outside_wider hint (quiet_of n) from mid (within-trans hint (hints_of_file n) (quiet_of n) (hint_among n i small) (hints_quiet n)) same);
  }

  -- the files while the blocks are marked
  pub marked_moment : (image : Image) → MarksUsedInProgress n mid image → MarksUsedInProgress n from image
  marked_moment image midst =
      let first = hinted_moment in
      record {
        same = outside-trans (taking_of n) from mid image first.same midst.same;
        longer = let one = first.longer in let other = midst.longer in omega (arith, one, other);
        updating = ⊎_elim (λ one. inl one)
            (λ quiet. inr (outside-trans (quiet_of n) from mid image (outside_wider hint (quiet_of n) from mid (within-trans hint (hints_of_file n) (quiet_of n) (hint_among n i small) (hints_quiet n)) same) quiet)) midst.updating;
      }

  pub used_hinted : (files : BlockFiles) (w : ℕ) (image : Image) → Agrees files from → file_selector w ≡ n → is_among (all_files files) (file_selector w) ≡ true → MarksUsed files mid w image → MarksUsed files from w image
  used_hinted files w image agrees file among used =
      let before = hinted_moment in
      let more = λ (m : ℕ). allocations_more files files from mid agrees (agrees_hinted files agrees) (widens files) m in
      record {
        same = outside-trans (taking_of (file_selector w)) from mid image (subst (λ (k : ℕ). SameOutside (taking_of k) from mid) (sym file) before.same) used.same;
        longer = let one = longer (file_selector w) in let other = used.longer in omega (arith, one, other);
        free = λ b of. sym (marks (file_selector w) b) ∙ used.free b of;
        marks = λ m b low. used.marks m b low ∙ ap (λ (t : Bool). if is_of w m b then true else t) (marks m b);
        allocations = λ words are. used.allocations words (more (file_selector w) among words are);
        elsewhere = λ m there differs words are. used.elsewhere m there differs words (more m there words are);
        empty = used.empty;
        empty_elsewhere = λ m differs was. used.empty_elsewhere m differs (empties m was);
        updating = used.updating;
      }

  pub counted_hinted : (m start : ℕ) (image : Image) → CountsUsed m start mid image → CountsUsed m start from image
  counted_hinted m start image is = record {
    allocations = subst (λ (k : ℕ). IsCounted true k (allocations_of (byte image (Block m)))) (same_word_outside hint from mid (Block m) 16 same (λ k low high. spared m k (inl (omega (arith, high))))) is.allocations;
    counts = λ j few.
        let runs : counted (longest_run (is_block_marked mid m) (start / 4)) j ≡ counted (longest_run (is_block_marked from m) (start / 4)) j = (λ t. counted (longest_run (λ b. marks m b t) (start / 4)) j) in
        let empty : empty_of (byte mid (Block m)) j ≡ empty_of (byte from (Block m)) j = same_word_outside hint from mid (Block m) (24 + 4 * j) same (λ k low high. spared m k (inl (omega (arith, high, few)))) in
        let was = is.counts j few in
        omega (arith, runs, empty, was);
  }

  -- the other hints stay
  pub other_hints : (m j : ℕ) → j < 4 → (m ≢ n) ⊎ (j ≢ i) → hints_of (byte mid (Block m)) j ≡ hints_of (byte from (Block m)) j
  other_hints m j few apart = same_word_outside hint from mid (Block m) (40 + 4 * j) same (λ k low high. beside k low high)
    where
      by_test : (t : Bool) (k : ℕ) → 40 + 4 * j ≤ k → k < 40 + 4 * j + 4 → j ≢ i → (t && (nat_le (40 + 4 * i) k && nat_lt k (40 + 4 * i + 4))) ≡ false
      by_test true k low high differs = grind (arith, nat_tests)
      by_test false k low high differs = refl

      beside : (k : ℕ) → 40 + 4 * j ≤ k → k < 40 + 4 * j + 4 → hint.bytes (Block m) k ≡ false
      beside k low high = ⊎_elim (λ (other : m ≢ n). ap (λ (t : Bool). t && (nat_le (40 + 4 * i) k && nat_lt k (40 + 4 * i + 4))) (other_file n m other)) (λ differs. by_test (same_file (Block n) (Block m)) k low high differs) apart
