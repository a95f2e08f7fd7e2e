-- What blocks that are taken leave.
use Rattle.std.proofs.Common.{◌≡◌, ◌≢◌, ℕ, ◌+◌, ◌/◌, ◌%◌, ◌<◌, ◌≤◌, List, max, Bool, true, false, ◌&&◌, ◌||◌, if◌then◌else◌, Option, refl, sym, ◌∙◌, ap, ap₂, subst, arith, ⊎_elim}
use Rattle.std.specs.Prelude.{◌==◌}
use Rattle.std.specs.List.{All}
use Rattle.std.specs.Int.{bit_at}
use Rattle.std.proofs.lemmas.List.Elements.{All-cons}
use Rattle.std.proofs.lemmas.Bool.{cases_eq}
use Rattle.std.proofs.lemmas.Bool.Decides.{nat_tests}
use Rattle.spec_image.specs.Image.{Image, Block, External, has_file, byte, length_of}
use Rattle.spec_image.specs.Footprint.{SameOutside, size_of}
use Rattle.spec_image.proofs.Footprints.{outside-trans, outside_wider}
use Rattle.spec_format.specs.Address.{kind_of, external, external_number, file_selector, first_block, block_count, is_address}
use Rattle.spec_format.specs.Claims.{Claim, BlockOf, ExternalOf, claims_of, claims_of_all, has_claim, is_in_file}
use Rattle.spec_format.specs.Headers.{empty_of, max_entries_of}
use Rattle.spec_format.specs.Standing.{stands}
use Rattle.spec_format.specs.BlockFiles.{is_among, max_entries_in, stands_in, stands_in_blocks, most_blocks}
use Rattle.spec_format.specs.Maps.{is_block_marked, is_block_marked_at, groups_with, groups_of, are_free, AreAllocations, EmptyAgrees}
use Rattle.blk_addr.specs.Bits.{is_between}
use Rattle.blk_addr.specs.declared.kinds.Kind.{Kind}
use Rattle.blk_addr.specs.Kind.{kind_number}
use Rattle.blk_addr.proofs.ClaimLemmas.{has_claim-append, is_in_file-blocks}
use Rattle.blk_disk.specs.declared.tables.BlockFiles.{BlockFiles}
use Rattle.blk_disk.specs.Tables.{Agrees, Resizes, files_of, all_files, length_in, stands_among}
use Rattle.blk_disk.specs.Growth.{whole_length}
use Rattle.blk_disk.proofs.Ranges.{stands_agree}
use Rattle.blk_alloc.specs.Changes.{map_of, with_marks, HasBlocks, IsChanged}
use Rattle.blk_alloc.specs.Owning.{is_of}
use Rattle.blk_alloc.specs.Marking.{taking_of, MarksUsed}
use Rattle.blk_alloc.proofs.Formed.{stands_kept, other_kept, file_kept}
use Rattle.blk_alloc.proofs.Lists.{IsBlocks, claims_blocks, claims_no_external, one_more_once}
use Rattle.blk_alloc.proofs.Members.{member_all}
use Rattle.blk_alloc.proofs.Widening.{Widens, fit_widens, allocations_more}
use Rattle.blk_alloc.proofs.Taken.{map_taken, taking_fit, free_at}

clash : true ≡ false → ⊥
clash e = cc

module _ (old new : BlockFiles) (from mid : Image) (k : Kind) (w : ℕ)
    (block_kind : kind_number k ≢ external) (kind : kind_of w ≡ kind_number k) (address : is_address w ≡ true) (blocks : IsBlocks w)
    (before : Agrees old from) (later : Agrees new mid)
    (there : is_among (files_of old (kind_number k)) (file_selector w) ≡ true)
    (below : first_block w + block_count w ≤ max_entries_in from (file_selector w)) (most : max_entries_in from (file_selector w) ≤ most_blocks) (whole : max_entries_in from (file_selector w) % 4 ≡ 0)
    (resizes : Resizes old new (file_selector w) (max (length_in old (file_selector w)) (whole_length old (file_selector w))))
    (same : SameOutside (size_of (Block (file_selector w))) from mid) (stands_new : stands_among new w ≡ true) where
  abbrev n : ℕ
  n = file_selector w

  all_there : is_among (all_files old) n ≡ true
  all_there = member_all old k n block_kind there

  abbrev pub widens : Widens old new from mid
  widens = fit_widens old new from mid n (whole_length old n) resizes same

  module _ (image : Image) (changed : IsChanged mid n (first_block w) (block_count w) true image) (free : are_free (is_block_marked from n) (first_block w) (block_count w) ≡ true) (empties : EmptyAgrees from n) where
    mid_marks : (m b : ℕ) → is_block_marked mid m b ≡ is_block_marked from m b
    mid_marks m b = ap (λ (x : ℕ). bit_at x (b % 8) == 1) (same.bytes (Block m) (80 + b / 8) refl)

    free_blocks : (b : ℕ) → is_of w n b ≡ true → is_block_marked from n b ≡ false
    unfolding is_of
    free_blocks b of = free_at (is_block_marked from n) (first_block w) (block_count w) b free (grind (arith, nat_tests)) (grind (arith, nat_tests))

    marks_are : (m b : ℕ) → b < most_blocks → is_block_marked image m b ≡ (if is_of w m b then true else is_block_marked from m b)
    unfolding is_of
    marks_are m b small = ⊎_elim here elsewhere (cases_eq m (file_selector w))
      where
        here : m ≡ file_selector w → is_block_marked image m b ≡ (if (file_selector w == m) && is_between (first_block w) (first_block w + block_count w) b then true else is_block_marked from m b)
        here e =
            let test : (file_selector w == m) ≡ true = grind (arith, nat_tests) in
            ap (λ (j : ℕ). is_block_marked image j b) e ∙ changed.marks b small ∙ ap (λ (j : ℕ). with_marks (is_block_marked mid j) (first_block w) (block_count w) true b) (sym e)
            ∙ ap (λ (t : Bool). if is_between (first_block w) (first_block w + block_count w) b then true else t) (mid_marks m b)
            ∙ ap (λ (t : Bool). if t && is_between (first_block w) (first_block w + block_count w) b then true else is_block_marked from m b) (sym test)

        elsewhere : m ≢ file_selector w → is_block_marked image m b ≡ (if (file_selector w == m) && is_between (first_block w) (first_block w + block_count w) b then true else is_block_marked from m b)
        elsewhere differs =
            let test : (file_selector w == m) ≡ false = grind (arith, nat_tests) in
            ap (λ (o : Option (List ℕ)). is_block_marked (λ file. o) m b) (other_kept (file_selector w) mid image changed.same m differs)
            ∙ mid_marks m b
            ∙ ap (λ (t : Bool). if t && is_between (first_block w) (first_block w + block_count w) b then true else is_block_marked from m b) (sym test)

    -- the address shares nothing with the allocations of its file
    of_parts : (f b : ℕ) → is_of w f b ≡ true → (f ≡ n) × ((first_block w ≤ b) × (b < first_block w + block_count w))
    unfolding is_of
    of_parts f b of = (grind (arith, nat_tests), (grind (arith, nat_tests), grind (arith, nat_tests)))

    apart : (words : List ℕ) → AreAllocations from n words → (c : Claim) → has_claim (claims_of w) c ≡ true → has_claim (claims_of_all words) c ≡ true → ⊥
    apart words are (ExternalOf m) inside also = clash (sym inside ∙ claims_no_external w m blocks)
    apart words are (BlockOf f b) inside also =
        let parts = of_parts f b (sym (claims_blocks w f b blocks) ∙ inside) in
        let high = parts.1.1 in
        let unmarked : is_block_marked from n b ≡ false = free_at (is_block_marked from n) (first_block w) (block_count w) b free parts.1.0 high in
        clash (sym also ∙ ap (λ (g : ℕ). has_claim (claims_of_all words) (BlockOf g b)) parts.0 ∙ sym (are.marks b (omega (arith, high, below, most))) ∙ unmarked)

    stands_last : stands_in image w ≡ true
    unfolding stands
    stands_last =
        let mid_stands : stands_in_blocks mid w ≡ true = sym (stands_agree new mid w later) ∙ stands_new in
        let test : (kind_of w == external) ≡ false = (let d = blocks.block_kind in grind (arith, nat_tests)) in
        let all : (is_address w && (if kind_of w == external then has_file mid (External (external_number w)) else stands_in_blocks mid w)) ≡ true =
        ap (λ (t : Bool). is_address w && (if t then has_file mid (External (external_number w)) else stands_in_blocks mid w)) test ∙ ap₂ (λ (x y : Bool). x && y) address mid_stands in
        ap (λ (f : ℕ → Bool). f w) (stands_kept n mid image changed.same) ∙ all

    empty_mid : (m : ℕ) → EmptyAgrees from m → EmptyAgrees mid m
    unfolding EmptyAgrees max_entries_in
    empty_mid m was =
        let bytes : byte from (Block m) ≡ byte mid (Block m) = (λ j i. sym (same.bytes (Block m) i refl) j) in
        subst (λ (f : ℕ → ℕ). (i : ℕ) → i < 4 → empty_of f i ≡ groups_with (is_block_marked_at f) (groups_of (max_entries_of f)) (i + 1)) bytes was

    longer_mid : length_of from (Block n) ≤ length_of mid (Block n)
    longer_mid =
        let was = before.lengths n all_there in
        let is = later.lengths n (ap (λ (l : List ℕ). is_among l n) resizes.all ∙ all_there) in
        let size = resizes.size_there in
        omega (arith, was, is, size)

    longer_last : length_of from (Block n) ≤ length_of image (Block n)
    longer_last = let kept = changed.same.lengths (Block n) refl in omega (arith, longer_mid, kept)

    has_mid : HasBlocks mid n (first_block w) (block_count w)
    unfolding max_entries_in
    has_mid =
        let bytes : byte from (Block n) ≡ byte mid (Block n) = (λ j i. sym (same.bytes (Block n) i refl) j) in
        record {
          whole = subst (λ (f : ℕ → ℕ). max_entries_of f % 4 ≡ 0) bytes whole;
          most = subst (λ (f : ℕ → ℕ). max_entries_of f ≤ most_blocks) bytes most;
          below = subst (λ (f : ℕ → ℕ). first_block w + block_count w ≤ max_entries_of f) bytes below;
        }

    or_is : (t b : Bool) → (if t then true else b) ≡ (t || b)
    or_is true b = refl
    or_is false b = refl

    pub taken_is : MarksUsed old from w image
    taken_is = record {
      longer = longer_last;
      same = outside-trans (taking_of n) from mid image (taking_fit n from mid same longer_mid).same (outside_wider (map_of n) (taking_of n) mid image (map_taken n) changed.same);
      free = free_blocks;
      marks = marks_are;
      allocations = λ words are.
          let kept = allocations_more old new from mid before later widens n all_there words are in
          record {
            stand = All-cons (λ x. stands_in image x ≡ true) w words stands_last (subst (λ (f : ℕ → Bool). All (λ x. f x ≡ true) words) (sym (stands_kept n mid image changed.same)) kept.stand);
            here = All-cons (λ x. is_in_file n x ≡ true) w words (is_in_file-blocks n w blocks.block_kind ∙ self n) are.here;
            apart = one_more_once words w blocks are.apart (apart words are);
            marks = λ b small. marks_are n b small ∙ ap₂ (λ (t m : Bool). if t then true else m) (sym (claims_blocks w n b blocks)) (are.marks b small)
                ∙ or_is (has_claim (claims_of w) (BlockOf n b)) (has_claim (claims_of_all words) (BlockOf n b)) ∙ sym (has_claim-append (claims_of w) (claims_of_all words) (BlockOf n b));
            counted = let one = changed.allocations in let kept_count = widens.allocations n all_there in let was = are.counted in omega (arith, one, kept_count, was);
          };
      elsewhere = λ m among differs words are. (file_kept n mid image changed.same m differs).allocations words (allocations_more old new from mid before later widens m among words are);
      empty = changed.empty has_mid (empty_mid n empties);
      empty_elsewhere = λ m differs was. (file_kept n mid image changed.same m differs).empty (empty_mid m was);
      updating = changed.updating;
    }
      where
        self : (x : ℕ) → (x == x) ≡ true
        self x = grind (arith, nat_tests)
