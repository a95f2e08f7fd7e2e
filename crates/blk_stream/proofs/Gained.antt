-- What maps and counters gain with a new place.
use Rattle.std.proofs.Common.{◌≡◌, ◌≢◌, ◌⊎◌, ⊎_elim, ℕ, true, false, ◌||◌, List, [], ◌∷◌, ◌+◌, ◌/◌, refl, sym, ◌∙◌, ap, subst, arith}
use Rattle.std.specs.Prelude.{◌==◌}
use Rattle.std.proofs.lemmas.Bool.{and_parts, cases_eq, eqb-true}
use Rattle.std.proofs.lemmas.Bool.Decides.{nat_tests}
use Rattle.spec_image.specs.Image.{Block, Image, byte}
use Rattle.spec_image.specs.Footprint.{Footprint, SameOutside}
use Rattle.spec_format.specs.Address.{block_count, external, file_selector, first_block, kind_of}
use Rattle.spec_format.specs.BlockFiles.{is_among, max_entries_in}
use Rattle.spec_format.specs.Claims.{is_in_file}
use Rattle.spec_format.specs.Headers.{updating_of}
use Rattle.spec_format.specs.Maps.{AreAllocations, EmptyAgrees, is_block_marked}
use Rattle.spec_format.proofs.LinkedHeads.{HasHead, count_whole}
use Rattle.spec_format.proofs.SpareHeaders.{blocks_same}
use Rattle.blk_addr.specs.Bits.{is_between}
use Rattle.blk_disk.specs.declared.tables.BlockFiles.{BlockFiles}
use Rattle.blk_disk.specs.Tables.{Agrees, all_files, files_of, stands_among}
use Rattle.blk_disk.proofs.Joined.{among_kinds}
use Rattle.blk_disk.proofs.Ranges.{stands_linked}
use Rattle.blk_alloc.specs.Allocating.{Allocates}
use Rattle.blk_alloc.specs.Extending.{KeepsLinks}
use Rattle.blk_alloc.specs.Owning.{is_of}
use Rattle.blk_disk.proofs.WholeHeaders.{all_head}
use Rattle.blk_alloc.proofs.Widening.{mark_kept}
use Rattle.blk_stream.specs.Freeing.{is_block_of}
use Rattle.blk_stream.specs.Placing.{GainsPlace, KeepsOtherLinks, gained_by}
use Rattle.blk_stream.proofs.KeptFiles.{SparesBlockFiles, file_kept, headers_spared}
use Rattle.blk_stream.proofs.PlacesFreed.{in_file_blocks, in_file_external}

pub gained_here : (w n : ℕ) (words : List ℕ) → is_in_file n w ≡ true → gained_by w n words ≡ w ∷ words
unfolding gained_by
gained_here w n words t = rw t refl

pub gained_elsewhere : (w n : ℕ) (words : List ℕ) → is_in_file n w ≡ false → gained_by w n words ≡ words
unfolding gained_by
gained_elsewhere w n words t = rw t refl

-- Blocks.

module _ (files : BlockFiles) (w : ℕ) (blocky : kind_of w ≢ external) where
  here : (n : ℕ) → is_in_file n w ≡ true → file_selector w ≡ n
  here n t = eqb-true (file_selector w) n (sym (in_file_blocks n w blocky) ∙ t)

  inside : (n : ℕ) → file_selector w ≡ n → is_in_file n w ≡ true
  inside n e = in_file_blocks n w blocky ∙ (let z : (file_selector w == n) ≡ true = grind (arith, nat_tests) in z)

  outside : (n : ℕ) → file_selector w ≢ n → is_in_file n w ≡ false
  outside n e = in_file_blocks n w blocky ∙ (let z : (file_selector w == n) ≡ false = grind (arith, nat_tests) in z)

  apart : (n : ℕ) → is_in_file n w ≡ false → n ≢ file_selector w
  apart n t e = clash (sym (inside n (sym e)) ∙ t)
    where
      clash : true ≡ false → ⊥
      clash h = cc

  pub other_links : (new : BlockFiles) → KeepsLinks files new (file_selector w) → KeepsOtherLinks files new w
  other_links new links n kind t = links n kind (apart n t)

  still_among : (new : BlockFiles) → KeepsLinks files new (file_selector w) → stands_among new w ≡ true → (n : ℕ) → (is_among (all_files files) n ≡ true) ⊎ (is_in_file n w ≡ true) → is_among (all_files new) n ≡ true
  still_among new links stands n known = ⊎_elim
      (λ (e : file_selector w ≡ n). ap (is_among (all_files new)) (sym e) ∙ stands_linked new w stands)
      (λ (differs : file_selector w ≢ n).
      ⊎_elim
      (λ (among : is_among (all_files files) n ≡ true).
      let l : (kind : ℕ) → is_among (files_of new kind) n ≡ is_among (files_of files kind) n = λ kind. links n kind (λ e. differs (sym e)) in
      among_kinds new n ∙ (λ i. l 1 i || l 2 i || l 3 i || l 4 i) ∙ sym (among_kinds files n) ∙ among)
      (λ (t : is_in_file n w ≡ true). absurd (differs (here n t)))
      known)
      (cases_eq (file_selector w) n)

  pub gained_blocks : (new : BlockFiles) (from image : Image) → Agrees new image → stands_among new w ≡ true → KeepsLinks files new (file_selector w) → Allocates files from w image → GainsPlace files w from image
  unfolding is_block_of
  gained_blocks new from image agrees stands links gains =
      let t : (kind_of w == external) ≡ false = grind (arith, nat_tests) in
      record {
        marks = λ n b among small. rw t (gains.marks n b among small);
        allocations = λ n words among are. ⊎_elim
            (λ (e : file_selector w ≡ n).
            subst (AreAllocations image n) (sym (gained_here w n words (inside n e)))
            (subst (λ (m : ℕ). AreAllocations image m (w ∷ words)) e (gains.allocations (ap (is_among (all_files files)) e ∙ among) words (subst (λ (m : ℕ). AreAllocations from m words) (sym e) are))))
            (λ (differs : file_selector w ≢ n). subst (AreAllocations image n) (sym (gained_elsewhere w n words (outside n differs))) ((gains.elsewhere n among (λ e. differs (sym e))).allocations words are))
            (cases_eq (file_selector w) n);
        fresh = λ n none t. let e = here n t in subst (λ (m : ℕ). AreAllocations image m (w ∷ [])) e (gains.fresh (ap (is_among (all_files files)) e ∙ none));
        empty = λ n among was. ⊎_elim
            (λ (e : file_selector w ≡ n). subst (EmptyAgrees image) e gains.empty)
            (λ (differs : file_selector w ≢ n). (gains.elsewhere n among (λ e. differs (sym e))).empty was)
            (cases_eq (file_selector w) n);
        counted = λ n t. subst (EmptyAgrees image) (here n t) gains.empty;
        updating = λ n t. ap (λ (m : ℕ). updating_of (byte image (Block m))) (sym (here n t)) ∙ gains.updating;
        most = λ n known. let head : HasHead image n = all_head new image n agrees (still_among new links stands n known) in (count_whole (max_entries_in image n) head.count).1;
      }

  pub free_blocks : (from image : Image) → Allocates files from w image → (n b : ℕ) → is_among (all_files files) n ≡ true → is_block_of w n b ≡ true → is_block_marked from n b ≡ false
  unfolding is_block_of is_of
  free_blocks from image gains n b among of =
      let t : (kind_of w == external) ≡ false = grind (arith, nat_tests) in
      let blocks : is_of w n b ≡ true = rw t at of in
      let file : file_selector w ≡ n = eqb-true (file_selector w) n (and_parts (file_selector w == n) (is_between (first_block w) (first_block w + block_count w) b) blocks).0 in
      ap (λ (m : ℕ). is_block_marked from m b) (sym file) ∙ gains.free (ap (is_among (all_files files)) file ∙ among) b (ap (λ (m : ℕ). is_of w m b) file ∙ blocks)

-- An external file, which no block file knows of.

pub gained_external : (files : BlockFiles) (F : Footprint) (w : ℕ) (from image : Image) → kind_of w ≡ external → SparesBlockFiles F → SameOutside F from image → Agrees files from → GainsPlace files w from image
unfolding is_block_of
gained_external files F w from image kind spares same agrees =
    let t : (kind_of w == external) ≡ true = grind (arith, nat_tests) in
    let none : (n : ℕ) → is_in_file n w ≡ false = λ n. in_file_external n w kind in
    record {
      marks = λ n b among small. rw t (mark_kept from image n b (same.bytes (Block n) (80 + b / 8) (spares.bytes n (80 + b / 8))));
      allocations = λ n words among are. subst (AreAllocations image n) (sym (gained_elsewhere w n words (none n))) ((file_kept F from image spares same n).allocations words are);
      fresh = λ n out t. absurd (clash (sym t ∙ none n));
      empty = λ n among was. (file_kept F from image spares same n).empty was;
      counted = λ n t. absurd (clash (sym t ∙ none n));
      updating = λ n t. absurd (clash (sym t ∙ none n));
      most = λ n known. ⊎_elim
          (λ (among : is_among (all_files files) n ≡ true).
          let head : HasHead from n = all_head files from n agrees among in
          let few = (count_whole (max_entries_in from n) head.count).1 in
          let blocks = blocks_same F from image (headers_spared F spares) same n in
          omega (arith, few, blocks))
          (λ (t : is_in_file n w ≡ true). absurd (clash (sym t ∙ none n)))
          known;
    }
  where
    clash : true ≡ false → ⊥
    clash h = cc
