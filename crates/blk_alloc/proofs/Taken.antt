-- Blocks that are taken.
use Rattle.std.proofs.Common.{◌≡◌, ◌≢◌, ℕ, zero, suc, ◌+◌, ◌-◌, ◌%◌, ◌<◌, ◌≤◌, inl, inr, [], ◌∷◌, Bool, true, false, ◌&&◌, not, if◌then◌else◌, nat_lt, Some, refl, sym, ◌∙◌, ap, subst, arith, ⊎_elim}
use Rattle.std.specs.List.{list_all, range_with_len}
use Rattle.std.proofs.lemmas.Bool.{cases_eq}
use Rattle.std.proofs.lemmas.Bool.Decides.{nat_tests}
use Rattle.spec_image.specs.Image.{Image, Block, byte, length_of}
use Rattle.spec_image.specs.Steps.{SetLength, applied}
use Rattle.spec_image.specs.Footprint.{Footprint, IsWithin, SameOutside, size_of, one_word, either}
use Rattle.spec_image.specs.Told.{Told, Applies, PassesTo, Until, IsQuiet}
use Rattle.spec_image.proofs.Footprints.{outside-refl, outside-trans, outside_wider, outside_longer, within_left, within_right}
use Rattle.spec_image.proofs.Images.{length-after_set_len}
use Rattle.spec_image.proofs.Runs.{passes_part, part_whole, some_inj}
use Rattle.spec_format.specs.Headers.{empty_of, max_entries_of, allocations_of}
use Rattle.spec_format.specs.BlockFiles.{is_among, max_entries_in, most_blocks}
use Rattle.spec_format.specs.Maps.{is_block_marked_at, are_free, groups_with, groups_of, EmptyAgrees}
use Rattle.blk_disk.specs.declared.tables.BlockFiles.{BlockFiles}
use Rattle.blk_disk.specs.Tables.{Agrees, all_files, length_in}
use Rattle.blk_disk.specs.Growth.{fit_steps, whole_length}
use Rattle.blk_alloc.specs.Changes.{map_of, CanChangeMarks, IsMapInProgress}
use Rattle.blk_alloc.specs.Marking.{hints_and_updating, hints_of_file, taking_of, MarksUsedInProgress}
use Rattle.blk_alloc.proofs.Changing.{within-trans}

clash : true ≡ false → ⊥
clash e = cc

not_true : (t : Bool) → (t ≡ true → ⊥) → t ≡ false
not_true true never = absurd (never refl)
not_true false never = refl

-- The file is lengthened to its blocks.

module _ (files : BlockFiles) (n : ℕ) (from : Image) (agrees : Agrees files from) (among : is_among (all_files files) n ≡ true) where
  longer : nat_lt (length_in files n) (whole_length files n) ≡ true → length_of from (Block n) ≤ whole_length files n
  longer test = let same = agrees.lengths n among in grind (arith, nat_tests)

  fit_along : (P : Image → Type 0) → P from → ((mid : Image) → SameOutside (size_of (Block n)) from mid → length_of from (Block n) ≤ length_of mid (Block n) → P mid) → Until P P from (fit_steps files n)
  fit_along P here there = by_test (nat_lt (length_in files n) (whole_length files n)) refl
    where
      by_test : (t : Bool) → nat_lt (length_in files n) (whole_length files n) ≡ t → Until P P from (if t then SetLength (Block n) (whole_length files n) ∷ [] else [])
      by_test true e = (here, there (applied (SetLength (Block n) (whole_length files n)) from) (outside_longer (Block n) (whole_length files n) from (longer e)) (let at = length-after_set_len from (Block n) (whole_length files n) in omega (arith, at, longer e)))
      by_test false e = here

  fit_quiet : IsQuiet (fit_steps files n)
  fit_quiet = by_test (nat_lt (length_in files n) (whole_length files n))
    where
      by_test : (t : Bool) → IsQuiet (if t then SetLength (Block n) (whole_length files n) ∷ [] else [])
      by_test true = tt
      by_test false = tt

  pub fit_passes : {a b : Told} (P : Image → Type 0) → a.files ≡ Some from → Applies a b (fit_steps files n) → ((mid : Image) → SameOutside (size_of (Block n)) from mid → length_of from (Block n) ≤ length_of mid (Block n) → P mid) → PassesTo a b P P
  fit_passes {a} {b} P there grows all =
      passes_part P P (part_whole grows) fit_quiet (λ i p. p)
      (λ i is. subst (λ (j : Image). Until P P j (fit_steps files n)) (some_inj (sym there ∙ is)) (fit_along P (all from (outside-refl (size_of (Block n)) from) (omega arith)) all))

-- a header that is as it was is ready as it was
pub ready_kept : (from mid : Image) (n start count : ℕ) (used : Bool) → SameOutside (size_of (Block n)) from mid → length_of from (Block n) ≤ length_of mid (Block n) → CanChangeMarks from n start count used → CanChangeMarks mid n start count used
unfolding EmptyAgrees max_entries_in
ready_kept from mid n start count used same longer ready =
    let bytes : byte from (Block n) ≡ byte mid (Block n) = (λ j i. sym (same.bytes (Block n) i refl) j) in
    record {
      header = let long = ready.header in omega (arith, long, longer);
      whole = subst (λ (f : ℕ → ℕ). max_entries_of f % 4 ≡ 0) bytes ready.whole;
      most = subst (λ (f : ℕ → ℕ). max_entries_of f ≤ most_blocks) bytes ready.most;
      below = subst (λ (f : ℕ → ℕ). start + count ≤ max_entries_of f) bytes ready.below;
      empty = subst (λ (f : ℕ → ℕ). (i : ℕ) → i < 4 → empty_of f i ≡ groups_with (is_block_marked_at f) (groups_of (max_entries_of f)) (i + 1)) bytes ready.empty;
      more = subst (λ (f : ℕ → ℕ). used ≡ true → allocations_of f < 4294967295) bytes ready.more;
      less = subst (λ (f : ℕ → ℕ). used ≡ false → 0 < allocations_of f) bytes ready.less;
    }

-- what is touched by marks, and by updating, is among what is touched
pub map_taken : (n : ℕ) → IsWithin (map_of n) (taking_of n)
map_taken n = within-trans (map_of n) (either (hints_of_file n) (map_of n)) (taking_of n) (within_right (hints_of_file n) (map_of n)) (within_right (size_of (Block n)) (either (hints_of_file n) (map_of n)))

pub hints_taken : (n : ℕ) → IsWithin (hints_of_file n) (taking_of n)
hints_taken n = within-trans (hints_of_file n) (either (hints_of_file n) (map_of n)) (taking_of n) (within_left (hints_of_file n) (map_of n)) (within_right (size_of (Block n)) (either (hints_of_file n) (map_of n)))

-- what is touched while updating needn't be 1
abbrev pub quiet_of : ℕ → Footprint
quiet_of n = either (size_of (Block n)) (hints_and_updating n)

updating_quiet : (n : ℕ) → IsWithin (one_word (Block n) 56) (quiet_of n)
updating_quiet n = within-trans (one_word (Block n) 56) (hints_and_updating n) (quiet_of n) (within_right (hints_of_file n) (one_word (Block n) 56)) (within_right (size_of (Block n)) (hints_and_updating n))

pub hints_quiet : (n : ℕ) → IsWithin (hints_of_file n) (quiet_of n)
hints_quiet n = within-trans (hints_of_file n) (hints_and_updating n) (quiet_of n) (within_left (hints_of_file n) (one_word (Block n) 56)) (within_right (size_of (Block n)) (hints_and_updating n))

-- the files once the file was lengthened
pub taking_fit : (n : ℕ) (from mid : Image) → SameOutside (size_of (Block n)) from mid → length_of from (Block n) ≤ length_of mid (Block n) → MarksUsedInProgress n from mid
taking_fit n from mid same grows = record {
  longer = grows;
  same = outside_wider (size_of (Block n)) (taking_of n) from mid (within_left (size_of (Block n)) (either (hints_of_file n) (map_of n))) same;
  updating = inr (outside_wider (size_of (Block n)) (quiet_of n) from mid (within_left (size_of (Block n)) (hints_and_updating n)) same);
}

pub taking_midst : (n : ℕ) (from mid image : Image) → SameOutside (size_of (Block n)) from mid → length_of from (Block n) ≤ length_of mid (Block n) → IsMapInProgress n mid image → MarksUsedInProgress n from image
taking_midst n from mid image same grows midst =
    let first = taking_fit n from mid same grows in
    let kept = midst.same.lengths (Block n) refl in
    record {
      longer = omega (arith, grows, kept);
      same = outside-trans (taking_of n) from mid image first.same (outside_wider (map_of n) (taking_of n) mid image (map_taken n) midst.same);
      updating = ⊎_elim (λ one. inl one)
          (λ word. inr (outside-trans (quiet_of n) from mid image
          (outside_wider (size_of (Block n)) (quiet_of n) from mid (within_left (size_of (Block n)) (hints_and_updating n)) same)
          (outside_wider (one_word (Block n) 56) (quiet_of n) mid image (updating_quiet n) word))) midst.updating;
    }

-- free blocks are not marked
pub free_at : (p : ℕ → Bool) (s count b : ℕ) → are_free p s count ≡ true → s ≤ b → b < s + count → p b ≡ false
unfolding are_free
free_at p s count b free low high = not_true (p b) (λ marked. clash (sym (at_index 0 count (b - s) (omega arith) (omega arith) free) ∙ ap not (ap p {x = s + (b - s)} {y = b} (omega arith) ∙ marked)))
  where
    at_index : (a n i : ℕ) → a ≤ i → i < a + n → list_all (λ j. not (p (s + j))) (range_with_len a n) ≡ true → not (p (s + i)) ≡ true
    at_index a zero i low high all = absurd (omega arith)
    at_index a (suc n) i low high all =
        ⊎_elim (λ (here : i ≡ a). ap (λ (j : ℕ). not (p (s + j))) here ∙ first (not (p (s + a))) (list_all (λ j. not (p (s + j))) (range_with_len (a + 1) n)) all)
        (λ (apart : i ≢ a). at_index (a + 1) n i (omega arith) (omega arith) (second (not (p (s + a))) (list_all (λ j. not (p (s + j))) (range_with_len (a + 1) n)) all)) (cases_eq i a)
      where
        first : (x y : Bool) → (x && y) ≡ true → x ≡ true
        first true y e = refl
        first false y e = e

        second : (x y : Bool) → (x && y) ≡ true → y ≡ true
        second true y e = e
        second false y e = absurd (clash (sym e))
