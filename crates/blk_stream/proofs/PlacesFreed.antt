-- The place of data is freed.
use Rattle.std.proofs.Common.{◌≡◌, ◌≢◌, ⊎_elim, ℕ, ◌+◌, ◌/◌, true, false, List, [], ◌∷◌, Option, None, refl, sym, ◌∙◌, ap, subst, arith}
use Rattle.std.specs.Prelude.{◌==◌, is_some}
use Rattle.std.specs.Option.{ForSome}
use Rattle.std.proofs.lemmas.Bool.{cases_eq}
use Rattle.std.proofs.lemmas.Bool.Decides.{nat_tests}
use Rattle.spec_image.specs.Image.{Block, External, Image}
use Rattle.spec_image.specs.Steps.{Delete, applied}
use Rattle.spec_image.specs.Footprint.{Footprint, SameOutside, nothing, whole}
use Rattle.spec_image.specs.Told.{Told, AppliesPrefix}
use Rattle.spec_image.proofs.Footprints.{outside_step}
use Rattle.spec_image.proofs.Runs.{told_part}
use Rattle.spec_format.specs.Address.{kind_of, external, external_number, file_selector}
use Rattle.spec_format.specs.BlockFiles.{is_among}
use Rattle.spec_format.specs.Claims.{is_in_file}
use Rattle.spec_format.specs.Maps.{AreAllocations, EmptyAgrees}
use Rattle.blk_disk.specs.declared.tables.BlockFiles.{BlockFiles}
use Rattle.blk_disk.specs.Tables.{Agrees}
use Rattle.blk_disk.proofs.Agreeing.{agrees_still}
use Rattle.blk_alloc.specs.Changes.{map_of}
use Rattle.blk_alloc.specs.Owning.{FreesAtLast, FreesInProgress, FreesOrStops, IsFreed, others}
use Rattle.blk_alloc.proofs.Widening.{mark_kept}
use Rattle.blk_stream.proofs.KeptFiles.{external_spares, file_kept, headers_spared}
use Rattle.blk_stream.specs.Freeing.{IsPlaceFreed, freeing_of, is_block_of, leaving_of, left_by}

-- a place that is no external file is one of blocks
pub blocky_of : (w : ℕ) → (kind_of w == external) ≡ false → kind_of w ≢ external
blocky_of w t e = let z : (kind_of w == external) ≡ true = grind (arith, nat_tests) in let y : true ≡ false = sym z ∙ t in cc

pub freeing_external : (w : ℕ) → kind_of w ≡ external → freeing_of w ≡ whole (External (external_number w))
unfolding freeing_of
freeing_external w kind = let t : (kind_of w == external) ≡ true = grind (arith, nat_tests) in rw t refl

pub freeing_blocks : (w : ℕ) → kind_of w ≢ external → freeing_of w ≡ map_of (file_selector w)
unfolding freeing_of
freeing_blocks w blocky = let t : (kind_of w == external) ≡ false = grind (arith, nat_tests) in rw t refl

pub leaving_some : (w : ℕ) → w ≢ 0 → leaving_of w ≡ freeing_of w
unfolding leaving_of
leaving_some w some = let t : (w == 0) ≡ false = grind (arith, nat_tests) in rw t refl

pub leaving_none : leaving_of 0 ≡ nothing
unfolding leaving_of
leaving_none = refl

-- Blocks that are freed.

-- while they are, only map, counters and updating of their file differ
pub map_only : (w : ℕ) (from image : Image) → FreesInProgress w from image → SameOutside (map_of (file_selector w)) from image
map_only w from image h = h.marks.same

-- where the process crashed during a free, or where that is done, only map, counters and updating of the file differ
pub freed_only : (w : ℕ) (from image : Image) → FreesOrStops w from image → SameOutside (map_of (file_selector w)) from image
freed_only w from image h = ⊎_elim (λ (midst : FreesInProgress w from image). map_only w from image midst) (λ (last : FreesAtLast w from image). last.freed.same) h

pub in_file_blocks : (n w : ℕ) → kind_of w ≢ external → is_in_file n w ≡ (file_selector w == n)
unfolding is_in_file
in_file_blocks n w blocky = let t : (kind_of w == external) ≡ false = grind (arith, nat_tests) in rw t refl

pub in_file_external : (n w : ℕ) → kind_of w ≡ external → is_in_file n w ≡ false
unfolding is_in_file
in_file_external n w kind = let t : (kind_of w == external) ≡ true = grind (arith, nat_tests) in rw t refl

pub left_here : (w n : ℕ) (words : List ℕ) → is_in_file n w ≡ true → left_by w n words ≡ others w words
unfolding left_by
left_here w n words t = rw t refl

pub left_elsewhere : (w n : ℕ) (words : List ℕ) → is_in_file n w ≡ false → left_by w n words ≡ words
unfolding left_by
left_elsewhere w n words t = rw t refl

module _ (w : ℕ) (from image : Image) (blocky : kind_of w ≢ external) (freed : IsFreed from w image) where
  blocks_left : (n : ℕ) (words : List ℕ) → AreAllocations from n words → (is_in_file n w ≡ true → is_among words w ≡ true) → AreAllocations image n (left_by w n words)
  blocks_left n words are among = ⊎_elim here there (cases_eq (file_selector w) n)
    where
      here : file_selector w ≡ n → AreAllocations image n (left_by w n words)
      here e =
          let t : is_in_file n w ≡ true = in_file_blocks n w blocky ∙ (let z : (file_selector w == n) ≡ true = grind (arith, nat_tests) in z) in
          subst (AreAllocations image n) (sym (left_here w n words t))
          (subst (λ (m : ℕ). AreAllocations image m (others w words)) e (freed.allocations words (subst (λ (m : ℕ). AreAllocations from m words) (sym e) are) (among t)))

      there : file_selector w ≢ n → AreAllocations image n (left_by w n words)
      there differs =
          let t : is_in_file n w ≡ false = in_file_blocks n w blocky ∙ (let z : (file_selector w == n) ≡ false = grind (arith, nat_tests) in z) in
          subst (AreAllocations image n) (sym (left_elsewhere w n words t)) ((freed.elsewhere n (λ e. differs (sym e))).allocations words are)

  blocks_agree : (n : ℕ) → EmptyAgrees from n → EmptyAgrees image n
  blocks_agree n was = ⊎_elim
      (λ (e : file_selector w ≡ n). subst (EmptyAgrees image) e (freed.empty (subst (EmptyAgrees from) (sym e) was)))
      (λ (differs : file_selector w ≢ n). (freed.elsewhere n (λ e. differs (sym e))).empty was)
      (cases_eq (file_selector w) n)

  pub freed_blocks : IsPlaceFreed w from image
  unfolding is_block_of
  freed_blocks =
      let t : (kind_of w == external) ≡ false = grind (arith, nat_tests) in
      record {
        same = subst (λ (F : Footprint). SameOutside F from image) (sym (freeing_blocks w blocky)) freed.same;
        marks = λ n b small. rw t (freed.marks n b small);
        allocations = blocks_left;
        empty = blocks_agree;
        gone = λ kind. absurd (blocky kind);
      }

-- A file that is deleted.

pub freed_file : (w : ℕ) (from image : Image) → kind_of w ≡ external → SameOutside (whole (External (external_number w))) from image → image (External (external_number w)) ≡ None → IsPlaceFreed w from image
unfolding is_block_of
freed_file w from image kind same none =
    let t : (kind_of w == external) ≡ true = grind (arith, nat_tests) in
    record {
      same = subst (λ (F : Footprint). SameOutside F from image) (sym (freeing_external w kind)) same;
      marks = λ n b small. rw t (mark_kept from image n b (same.bytes (Block n) (80 + b / 8) refl));
      allocations = λ n words are among. subst (AreAllocations image n) (sym (left_elsewhere w n words (in_file_external n w kind))) ((file_kept (whole (External (external_number w))) from image (external_spares (external_number w)) same n).allocations words are);
      empty = λ n was. (file_kept (whole (External (external_number w))) from image (external_spares (external_number w)) same n).empty was;
      gone = λ k. ap (λ (o : Option (List ℕ)). is_some o) none;
    }

-- an external file that is deleted leaves the headers
pub agrees_deleted : (files : BlockFiles) (a b : Told) (n : ℕ) → AppliesPrefix a b (Delete (External n) ∷ []) → ForSome a.files (Agrees files) → ForSome b.files (Agrees files)
agrees_deleted files a b n part agrees =
    told_part (Agrees files) part (λ image there. (agrees image there, kept image (applied (Delete (External n)) image) (outside_step (Delete (External n)) image) (agrees image there)))
  where
    kept : (from image : Image) → SameOutside (whole (External n)) from image → Agrees files from → Agrees files image
    kept from image same was = agrees_still (whole (External n)) from image (headers_spared (whole (External n)) (external_spares n)) same files (λ m. refl) was
