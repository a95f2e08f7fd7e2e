-- What a change that spares headers and sizes leaves of marks, allocations and counters.
use Rattle.std.proofs.Common.{◌≡◌, ⊎_elim, ℕ, ◌+◌, ◌*◌, ◌/◌, ◌<◌, ◌≤◌, Bool, true, false, List, [], ◌∷◌, refl, sym, ◌∙◌, ap, subst, arith}
use Rattle.std.specs.Prelude.{◌==◌}
use Rattle.std.specs.List.{All, sum_by}
use Rattle.std.proofs.lemmas.List.Sums.{sum_by-cons}
use Rattle.std.proofs.lemmas.Bool.Decides.{nat_tests}
use Rattle.spec_image.specs.Image.{Block, External, Image, byte}
use Rattle.spec_image.specs.Footprint.{Footprint, SameOutside}
use Rattle.spec_image.proofs.Words.{same-word_at}
use Rattle.spec_format.specs.Address.{file_selector}
use Rattle.spec_format.specs.BlockFiles.{is_among, kind_among, max_entries_in, most_blocks, stands_in}
use Rattle.spec_format.specs.Headers.{allocations_of}
use Rattle.spec_format.specs.Maps.{AreAllocations, EmptyAgrees, groups_with, is_block_marked, HasAllocations}
use Rattle.spec_format.specs.Standing.{stands}
use Rattle.spec_format.proofs.SpareHeaders.{SparesHeaders, blocks_same, linked_same}
use Rattle.blk_disk.specs.Tables.{all_files, files_of}
use Rattle.blk_disk.proofs.Ranges.{stands_linked}
use Rattle.blk_alloc.specs.Laws.{AllocatedMayBeFreed, CountedFilesStay, MayBeFreedStill, NewFilesAreCounted, SparesHeadersAndSizes}
use Rattle.blk_alloc.proofs.Adding.{new_allocations, new_empty}
use Rattle.spec_format.proofs.Groups.{groups_same}
use Rattle.spec_format.proofs.LinkedHeads.{HasHead, count_whole, linked_checked}
use Rattle.blk_disk.proofs.WholeHeaders.{all_head}
use Rattle.blk_alloc.proofs.Widening.{mark_kept}

module _ (F : Footprint) (from image : Image) (spares : SparesHeadersAndSizes F) (same : SameOutside F from image) where
  none : SparesHeaders F
  none = record { bytes = spares.headers }

  header : (n i : ℕ) → i < 8192 → byte image (Block n) i ≡ byte from (Block n) i
  header n i small = same.bytes (Block n) i (spares.headers n i small)

  word_kept : (n at : ℕ) → at + 3 < 8192 → (λ (f : ℕ → ℕ). f at + 256 * f (at + 1) + 65536 * f (at + 2) + 16777216 * f (at + 3)) (byte image (Block n)) ≡ (λ (f : ℕ → ℕ). f at + 256 * f (at + 1) + 65536 * f (at + 2) + 16777216 * f (at + 3)) (byte from (Block n))
  word_kept n at small = same-word_at (byte image (Block n)) (byte from (Block n)) at (header n at (omega arith)) (header n (at + 1) (omega arith)) (header n (at + 2) (omega arith)) (header n (at + 3) small)

  stands_kept : stands_in image ≡ stands_in from
  stands_kept = λ j w. stands (λ m. kind_among (λ kind. linked_same F from image none same kind j) m) (λ m. blocks_same F from image none same m j) (λ m. same.lengths (Block m) (spares.sizes (Block m)) j) (λ m. same.files (External m) (spares.sizes (External m)) j) w

  pub marks_kept : (n b : ℕ) → b < most_blocks → is_block_marked image n b ≡ is_block_marked from n b
  marks_kept n b small = mark_kept from image n b (header n (80 + b / 8) (omega (arith, small)))

  count_kept : (n : ℕ) → allocations_of (byte image (Block n)) ≡ allocations_of (byte from (Block n))
  count_kept n = word_kept n 16 (omega arith)

  pub allocations_kept : (n : ℕ) (words : List ℕ) → AreAllocations from n words → AreAllocations image n words
  allocations_kept n words are = record {
    stand = subst (λ (f : ℕ → Bool). All (λ w. f w ≡ true) words) (sym stands_kept) are.stand;
    here = are.here;
    apart = are.apart;
    marks = λ b small. marks_kept n b small ∙ are.marks b small;
    counted = count_kept n ∙ are.counted;
  }

  pub empty_kept : (n : ℕ) → max_entries_in from n ≤ most_blocks → EmptyAgrees from n → EmptyAgrees image n
  unfolding EmptyAgrees
  empty_kept n few was i small =
      word_kept n (24 + 4 * i) (omega (arith, small)) ∙ was i small
      ∙ sym (groups_same (is_block_marked image n) (is_block_marked from n) (max_entries_in from n / 4) (i + 1) (λ b below. marks_kept n b (omega (arith, below, few))))
      ∙ (λ k. groups_with (is_block_marked image n) (sym (blocks_same F from image none same n) k / 4) (i + 1))

  -- what each file of a list counts is as before
  sum_kept : (list : List ℕ) → sum_by (λ n. allocations_of (byte image (Block n))) list ≡ sum_by (λ n. allocations_of (byte from (Block n))) list
  sum_kept [] = refl
  sum_kept (n ∷ list) =
      let a = sum_by-cons (λ n. allocations_of (byte image (Block n))) n list in
      let b = sum_by-cons (λ n. allocations_of (byte from (Block n))) n list in
      let c = sum_kept list in
      let d = count_kept n in
      omega (arith, a, b, c, d)

pub counted_stay : CountedFilesStay
counted_stay F files kind from image spares same agrees block_kind counted = record {
  each = λ n among.
      let has = counted.each n among in
      let head : HasHead from n = linked_checked from kind n agrees.undamaged block_kind (ap (λ (l : List ℕ). is_among l n) (sym (agrees.links kind block_kind)) ∙ among) in
      record { words = has.words; are = allocations_kept F from image spares same n has.words has.are; empty = empty_kept F from image spares same n (count_whole _ head.count).1 has.empty };
  most = let sum = sum_kept F from image spares same (files_of files kind) in let most = counted.most in omega (arith, sum, most);
}

pub freed_still : MayBeFreedStill
freed_still F files w from image spares same agrees there may =
    let n = file_selector w in
    let head : HasHead from n = all_head files from n agrees (stands_linked files w there) in
    record {
      allocated = record { words = may.allocated.words; are = allocations_kept F from image spares same n may.allocated.words may.allocated.are; there = may.allocated.there };
      empty = empty_kept F from image spares same n (count_whole _ head.count).1 may.empty;
    }

itself : (n m : ℕ) → is_among (n ∷ []) m ≡ true → m ≡ n
itself n m among = grind (arith, nat_tests)

pub new_counted : NewFilesAreCounted
new_counted files image kind n is file =
    let allocations = new_allocations image kind n file in
    record {
      each = λ m among. subst (HasAllocations image) (sym (itself n m (ap (λ (l : List ℕ). is_among l m) (sym is) ∙ among))) (record { words = []; are = allocations; empty = new_empty image kind n file });
      most =
          let sum : sum_by (λ m. allocations_of (byte image (Block m))) (files_of files kind) ≡ sum_by (λ m. allocations_of (byte image (Block m))) (n ∷ []) = ap (λ (l : List ℕ). sum_by (λ m. allocations_of (byte image (Block m))) l) is in
          let one = sum_by-cons (λ m. allocations_of (byte image (Block m))) n [] in
          let last : sum_by (λ m. allocations_of (byte image (Block m))) [] ≡ 0 = refl in
          let zero_count = allocations.counted in
          omega (arith, sum, one, last, zero_count);
    }

first_among : (w : ℕ) (words : List ℕ) → is_among (w ∷ words) w ≡ true
first_among w words = let e : (w == w) ≡ true = grind (arith, nat_tests) in rw e refl

pub allocated_free : AllocatedMayBeFreed
allocated_free files kind w from image counted where_it_is all allocates = ⊎_elim
    (λ (linked : is_among (files_of files kind) (file_selector w) ≡ true).
    let has = counted.each (file_selector w) linked in
    record { allocated = record { words = w ∷ has.words; are = allocates.allocations (all linked) has.words has.are; there = first_among w has.words }; empty = allocates.empty })
    (λ (fresh : is_among (all_files files) (file_selector w) ≡ false).
    record { allocated = record { words = w ∷ []; are = allocates.fresh fresh; there = first_among w [] }; empty = allocates.empty })
    where_it_is
