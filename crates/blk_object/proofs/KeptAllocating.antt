-- An allocation stays whole, and is added.
use Rattle.std.proofs.Common.{◌≡◌, ◌≢◌, inl, inr, ℕ, ◌+◌, ◌*◌, ◌≤◌, List, sym, ◌∙◌, refl, ap, subst, arith, Bool, true, false, None, Option, Some}
use Rattle.std.specs.Prelude.{◌&&◌, ◌||◌, ◌==◌, if◌then◌else◌, is_some, nat_le, nat_lt}
use Rattle.std.specs.List.{sum_by}
use Rattle.std.proofs.lemmas.Bool.Decides.{nat_tests}
use Rattle.spec_image.specs.Footprint.{Footprint, SameOutside, either}
use Rattle.spec_image.specs.Image.{Block, Image, Index, byte, length_of, same_file}
use Rattle.spec_image.proofs.Runs.{passes_weaker}
use Rattle.spec_format.specs.Address.{block_place, external, header_size, file_selector, is_block_kind, kind_of}
use Rattle.spec_format.specs.BlockFiles.{is_among, kind_among, linked, linked_as, max_entries_in, stands_in, stands_in_blocks}
use Rattle.spec_format.specs.Growth.{StaysWhole}
use Rattle.spec_format.specs.Headers.{allocations_of}
use Rattle.spec_format.specs.Standing.{stands}
use Rattle.blk_disk.specs.declared.tables.BlockFiles.{BlockFiles}
use Rattle.blk_disk.specs.Growth.{addition_of, free_number, growth_of, last_file, size_as, whole_length}
use Rattle.blk_disk.specs.Tables.{Agrees, all_files, blocks_of, files_of, length_in}
use Rattle.blk_disk.proofs.Joined.{among_kinds}
use Rattle.blk_disk.proofs.Ranges.{stands_agree, stands_linked}
use Rattle.blk_alloc.specs.Allocating.{AllocatesIn, AllocatesOrStops, ExtendsAnd}
use Rattle.blk_alloc.specs.Marking.{taking_of}
use Rattle.law_folder.proofs.claims.ByteChanges.{stands-linked}
use Rattle.law_state.specs.AllocationLaws.{AreAllocated}
use Rattle.law_state.proofs.Freed.{allocated-added}
use Rattle.blk_object.specs.KeptBlocks.{AllocationsAdd, AllocationsStayWhole, IsAllocation, KeptFilesAreCounted}

pub files-counted : KeptFilesAreCounted
files-counted files kind image agrees block few = record {
  each = λ n among. few.each n (ap (λ (ns : List ℕ). is_among ns n) (sym (agrees.links kind block)) ∙ among);
  most = subst (λ (ns : List ℕ). sum_by (λ n. allocations_of (byte image (Block n))) ns ≤ 655362) (sym (agrees.links kind block)) few.few;
}

either-whole : (files : BlockFiles) (kind count : ℕ) (from image : Image) → AllocatesOrStops files kind count from image → StaysWhole from image
either-whole files kind count from image (inl before) = before.stays
either-whole files kind count from image (inr last) = last.stays

pub allocations-stay : AllocationsStayWhole
allocations-stay files kind count old new counted passes from there = passes_weaker (passes from there (counted from there)) (λ image before. before.stays) (either-whole files kind count from)

-- ---- what is kept of the files, and what is linked

kinds-alike : (f g : ℕ → List ℕ) (n : ℕ) → is_among (f 1) n ≡ is_among (g 1) n → is_among (f 2) n ≡ is_among (g 2) n → is_among (f 3) n ≡ is_among (g 3) n → is_among (f 4) n ≡ is_among (g 4) n → kind_among f n ≡ kind_among g n
unfolding kind_among
kinds-alike f g n a b c d = rw (a, b, c, d) refl

linked-agrees : (files : BlockFiles) (image : Image) (n : ℕ) → Agrees files image → kind_among (files_of files) n ≡ linked_as image n
linked-agrees files image n agrees = kinds-alike (files_of files) (linked image) n (in-kind 1 refl) (in-kind 2 refl) (in-kind 3 refl) (in-kind 4 refl) where
  in-kind : (kind : ℕ) → is_block_kind kind ≡ true → is_among (files_of files kind) n ≡ is_among (linked image kind) n
  in-kind kind block = ap (λ (ns : List ℕ). is_among ns n) (agrees.links kind block)

some-kind : (f : ℕ → List ℕ) (n : ℕ) → is_some {T = ℕ} (kind_among f n) ≡ (is_among (f 1) n || is_among (f 2) n || is_among (f 3) n || is_among (f 4) n)
unfolding kind_among
some-kind f n = by_tests (is_among (f 1) n) (is_among (f 2) n) (is_among (f 3) n) (is_among (f 4) n) where
  by_tests : (p q r s : Bool) → is_some {T = ℕ} (if p then Some 1 else if q then Some 2 else if r then Some 3 else if s then Some 4 else None) ≡ (p || q || r || s)
  by_tests true true true true = refl
  by_tests true true true false = refl
  by_tests true true false true = refl
  by_tests true true false false = refl
  by_tests true false true true = refl
  by_tests true false true false = refl
  by_tests true false false true = refl
  by_tests true false false false = refl
  by_tests false true true true = refl
  by_tests false true true false = refl
  by_tests false true false true = refl
  by_tests false true false false = refl
  by_tests false false true true = refl
  by_tests false false true false = refl
  by_tests false false false true = refl
  by_tests false false false false = refl

-- a file is kept exactly where it is linked
kept-linked : (files : BlockFiles) (image : Image) (n : ℕ) → Agrees files image → is_among (all_files files) n ≡ is_some (linked_as image n)
kept-linked files image n agrees = among_kinds files n ∙ sym (some-kind (files_of files) n) ∙ ap (λ (o : Option ℕ). is_some o) (linked-agrees files image n agrees)

-- ---- what is touched

no-file : (n m : ℕ) → m ≢ n → same_file (Block n) (Block m) ≡ false
no-file n m apart = grind (arith, nat_tests)

and-false : (x y : Bool) → (x && (y && false)) ≡ false
and-false true true = refl
and-false true false = refl
and-false false y = refl

-- of other files at most links, and of the index nothing
record IsApart (n : ℕ) (footprint : Footprint) : Type 0 where
  index : (i : ℕ) → footprint.bytes Index i ≡ false
  apart : (m i : ℕ) → m ≢ n → 12 ≤ i → footprint.bytes (Block m) i ≡ false
  sizes : (m : ℕ) → m ≢ n → footprint.sizes (Block m) ≡ false

-- two such are one
both-apart : (n : ℕ) (one other : Footprint) → IsApart n one → IsApart n other → IsApart n (either one other)
both-apart n one other a b = record {
  index = λ i. let x = a.index i in let y = b.index i in rw (x, y) refl;
  apart = λ m i ne late. let x = a.apart m i ne late in let y = b.apart m i ne late in rw (x, y) refl;
  sizes = λ m ne. let x = a.sizes m ne in let y = b.sizes m ne in rw (x, y) refl;
}

taking-apart : (n : ℕ) → IsApart n (taking_of n)
taking-apart n = record { index = λ i. refl; apart = λ m i ne late. let t = no-file n m ne in rw t refl; sizes = λ m ne. let t = no-file n m ne in rw t refl }

growth-apart : (n : ℕ) → IsApart n (growth_of n)
growth-apart n = record { index = λ i. refl; apart = λ m i ne late. let t = no-file n m ne in rw t refl; sizes = λ m ne. let t = no-file n m ne in rw t refl }

addition-apart : (files : BlockFiles) (kind n : ℕ) → n ≡ free_number files → IsApart n (addition_of files kind)
addition-apart files kind n is = record {
  index = λ i. refl;
  apart = λ m i ne late.
      let t : same_file (Block (free_number files)) (Block m) ≡ false = subst (λ (k : ℕ). same_file (Block k) (Block m) ≡ false) is (no-file n m ne) in
      let l : nat_lt i 12 ≡ false = grind (arith, nat_tests) in
      rw (t, l) (and-false (same_file (Block (last_file files kind)) (Block m)) (nat_le 10 i));
  sizes = λ m ne. let t : same_file (Block (free_number files)) (Block m) ≡ false = subst (λ (k : ℕ). same_file (Block k) (Block m) ≡ false) is (no-file n m ne) in rw t refl;
}

-- ---- an allocation that is done

module _ (old new : BlockFiles) (kind w : ℕ) (from image : Image) (a : IsAllocation old new kind w from image) where
  abbrev n : ℕ
  n = file_selector w

  block-kind : kind_of w ≢ external
  block-kind e = let z : is_block_kind external ≡ true = subst (λ (k : ℕ). is_block_kind k ≡ true) (sym a.of_kind ∙ e) a.block_kind in (let y : false ≡ true = z in cc)

  stands-now : stands_in image w ≡ true
  unfolding stands
  stands-now =
      let no_external = block-kind in
      let t : (kind_of w == external) ≡ false = grind (arith, nat_tests) in
      let address = a.address in
      let s : stands_in_blocks image w ≡ true = sym (stands_agree new image w a.agrees) ∙ a.stands in
      rw (address, t) s

  kept : (m : ℕ) → is_among (all_files old) m ≡ is_some (linked_as from m)
  kept m = kept-linked old from m a.agreed

  linked-still : (m : ℕ) → m ≢ n → linked_as image m ≡ linked_as from m
  linked-still m other = sym (linked-agrees new image m a.agrees) ∙ kinds-alike (files_of new) (files_of old) m (a.links m 1 other) (a.links m 2 other) (a.links m 3 other) (a.links m 4 other) ∙ linked-agrees old from m a.agreed

  its-link : kind_among (files_of new) n ≡ Some (kind_of w)
  its-link = linked-agrees new image n a.agrees ∙ stands-linked image w stands-now block-kind

  long-enough : block_place (kind_of w) (max_entries_in image n) ≤ length_of image (Block n)
  unfolding whole_length block_place
  long-enough =
      let among : is_among (all_files new) n ≡ true = stands_linked new w a.stands in
      let blocks : blocks_of new n ≡ max_entries_in image n = a.agrees.blocks n among in
      let size : length_in new n ≡ length_of image (Block n) = a.agrees.lengths n among in
      let path : header_size + blocks_of new n * size_as (kind_among (files_of new) n) ≡ header_size + max_entries_in image n * size_as (Some (kind_of w)) = λ i. header_size + blocks i * size_as (its-link i) in
      subst (λ (x : ℕ). x ≤ length_of image (Block n)) path (subst (λ (l : ℕ). header_size + blocks_of new n * size_as (kind_among (files_of new) n) ≤ l) size a.long)

  allocated : (footprint : Footprint) → IsApart n footprint → SameOutside footprint from image → AreAllocated from w image
  allocated footprint p same = record {
    block_kind = block-kind;
    footprint = footprint;
    same = same;
    index = p.index;
    apart = p.apart;
    sizes = p.sizes;
    linked = linked-still;
    allocations = λ there. a.allocates.allocations (kept n ∙ there);
    fresh = λ none. a.allocates.fresh (kept n ∙ none);
    empty = a.allocates.empty;
    updating = a.allocates.updating;
    stands = stands-now;
    long_enough = long-enough;
    elsewhere = λ m other linked. a.allocates.elsewhere m (kept m ∙ linked) other;
    stays = a.stays;
  }

  extended : ExtendsAnd taking_of old kind from n image → AreAllocated from w image
  extended (inl grown) = allocated (either (growth_of n) (taking_of n)) (both-apart n (growth_of n) (taking_of n) (growth-apart n) (taking-apart n)) grown.1
  extended (inr added) = allocated (either (addition_of old kind) (either (growth_of n) (taking_of n)))
      (both-apart n (addition_of old kind) (either (growth_of n) (taking_of n)) (addition-apart old kind n added.1) (both-apart n (growth_of n) (taking_of n) (growth-apart n) (taking-apart n))) added.2

  within-cases : AllocatesIn old kind from n image → AreAllocated from w image
  within-cases (inl same) = allocated (taking_of n) (taking-apart n) same
  within-cases (inr more) = extended more

pub allocations-add : AllocationsAdd
allocations-add old new kind w from image well a = allocated-added from image w well (within-cases old new kind w from image a a.within)
