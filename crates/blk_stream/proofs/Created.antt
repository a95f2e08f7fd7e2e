-- A new place in an external file that is made: what holds at each word, and in the end.
use Rattle.std.proofs.Common.{◌≡◌, ◌⊎◌, inl, inr, ℕ, Bool, true, false, ◌||◌, [], Some, refl, sym, ◌∙◌, ap, subst, arith}
use Rattle.std.specs.Prelude.{◌==◌}
use Rattle.std.proofs.lemmas.Bool.Decides.{nat_tests}
use Rattle.std.specs.Option.{ForSome}
use Rattle.spec_image.specs.Bytes.{word_bytes}
use Rattle.spec_image.specs.Image.{External, Image, Index, bytes_of, has_file}
use Rattle.spec_image.specs.Steps.{SetLength, Word, after, applied, word_step}
use Rattle.spec_image.specs.Footprint.{Footprint, SameOutside, one_word, whole}
use Rattle.spec_image.specs.Told.{Applies, IsQuiet, Passes, Told, Until}
use Rattle.spec_image.proofs.Footprints.{outside-refl, outside-trans, outside_step, outside_wider, same_file_outside, within_left, within_right}
use Rattle.spec_image.proofs.Images.{with_file-same}
use Rattle.spec_image.proofs.Runs.{passes_part, some_inj, told_whole}
use Rattle.spec_image.proofs.Splices.{resized-zero}
use Rattle.spec_format.specs.Address.{external, external_number, kind_of}
use Rattle.spec_format.specs.BlockFiles.{KeepsHeaders}
use Rattle.spec_format.specs.Storage.{kind_for}
use Rattle.spec_format.proofs.Finished.{headers-kept, headers-next}
use Rattle.blk_disk.specs.declared.tables.BlockFiles.{BlockFiles}
use Rattle.blk_disk.specs.Tables.{Agrees}
use Rattle.blk_disk.proofs.Agreeing.{agrees_still}
use Rattle.blk_external.specs.Making.{Creates, CreatesPrefix, last_number, making, touched_by_making}
use Rattle.blk_external.specs.Numbers.{HasFreeNumber, IsFirstFree}
use Rattle.blk_external.proofs.Changes.{other_number}
use Rattle.law_folder.proofs.updates.IndexWords.{others-unchecked}
use Rattle.blk_stream.specs.Placing.{CanBePlaced, IsNewPlace, LosesNothing, MakesPlace, PlacesInProgress, NewFile, placing_of}
use Rattle.blk_stream.specs.Freeing.{is_block_of}
use Rattle.blk_stream.proofs.PlacesLeft.{headers_behind}
use Rattle.blk_stream.proofs.Gained.{gained_external}
use Rattle.blk_stream.proofs.KeptFiles.{SparesBlockFiles, blocks_kept, external_spares, headers_spared}

pub making_spares : (number : ℕ) → SparesBlockFiles (touched_by_making number)
making_spares number = record { bytes = λ n i. refl; sizes = λ n. refl }

-- an external address has no blocks
pub no_block_of : (w n b : ℕ) → kind_of w ≡ external → is_block_of w n b ≡ true → ⊥
unfolding is_block_of
no_block_of w n b kind of = clash (sym of ∙ (let t : (kind_of w == external) ≡ true = grind (arith, nat_tests) in rw t refl))
  where
    clash : true ≡ false → ⊥
    clash h = cc

module _ (files : BlockFiles) (kind : ℕ) (from : Image) (is : kind ≡ external) (number : ℕ) (first : IsFirstFree from (last_number from) number) where
  abbrev F : Footprint
  F = touched_by_making number

  -- the file is there without bytes
  abbrev bare : Image
  bare = applied (SetLength (External number) 0) from

  -- the file is there without bytes, and the index has its number
  abbrev done : Image
  done = applied (Word Index 16 (word_bytes number)) bare

  bare_same : SameOutside (whole (External number)) from bare
  bare_same = outside_step (SetLength (External number) 0) from

  bare_file : bare (External number) ≡ Some []
  bare_file = with_file-same from (External number) _ ∙ ap Some (resized-zero (bytes_of from (External number)))

  done_file : done (External number) ≡ Some []
  done_file = bare_file

  word_same : SameOutside (one_word Index 16) bare done
  word_same = outside_step (Word Index 16 (word_bytes number)) bare

  bare_outside : SameOutside F from bare
  bare_outside = outside_wider (whole (External number)) F from bare (within_left (whole (External number)) (one_word Index 16)) bare_same

  pub done_outside : SameOutside F from done
  done_outside = outside-trans F from bare done bare_outside (outside_wider (one_word Index 16) F bare done (within_right (whole (External number)) (one_word Index 16)) word_same)

  bare_headers : KeepsHeaders from bare
  bare_headers = headers_behind (whole (External number)) from bare (headers_spared (whole (External number)) (external_spares number)) (λ k. refl) refl (λ n. refl) bare_same

  done_headers : KeepsHeaders from done
  done_headers = headers-next from bare done bare_headers (others-unchecked bare done 16 refl refl word_same)

  making_loses_nothing : (image : Image) → SameOutside F from image → KeepsHeaders from image → LosesNothing from image
  making_loses_nothing image same headers = record {
    blocks = blocks_kept F from image (making_spares number) same;
    externals = λ m there.
        let apart = other_number number m (λ e. clash (sym there ∙ ap (λ (k : ℕ). has_file from (External k)) e ∙ first.free)) in
        same_file_outside F from image (External m) same (λ i. ap (λ (t : Bool). t || false) apart) (ap (λ (t : Bool). t || false) apart);
    headers = headers;
  }
    where
      clash : true ≡ false → ⊥
      clash h = cc

  makes_file : (image : Image) → SameOutside F from image → KeepsHeaders from image → MakesPlace files kind (NewFile number) from image
  unfolding placing_of
  makes_file image same headers = record { right = (is, first); same = same; keeps = making_loses_nothing image same headers; grown = λ other. absurd (other is) }

  pub after_making : (Q : Image → Type 0) → Q done → Q (after (making number) from)
  unfolding word_step
  after_making Q q = q

  pub done_makes : MakesPlace files kind (NewFile number) from done
  done_makes = makes_file done done_outside done_headers

module _ (files : BlockFiles) (size : ℕ) (from : Image) (is : kind_for size ≡ external) (number : ℕ) (first : IsFirstFree from (last_number from) number) where
  moment : (image : Image) → MakesPlace files (kind_for size) (NewFile number) from image → SameOutside (whole (External number)) from image ⊎ (image (External number) ≡ Some []) → PlacesInProgress files size from image
  moment image makes order = record { site = NewFile number; makes = makes; order = λ other e. subst (λ (k : ℕ). SameOutside (whole (External k)) from image ⊎ (image (External k) ≡ Some [])) (one_number e) order }
    where
      one_number : {other : ℕ} → NewFile number ≡ NewFile other → number ≡ other
      one_number e = cc

  pub making_moments : Until (PlacesInProgress files size from) (PlacesInProgress files size from) from (making number)
  unfolding word_step
  making_moments = (
    moment from (makes_file files (kind_for size) from is number first from (outside-refl (touched_by_making number) from) (headers-kept from)) (inl (outside-refl (whole (External number)) from)),
    (
      moment (bare files (kind_for size) from is number first) (makes_file files (kind_for size) from is number first (bare files (kind_for size) from is number first) (bare_outside files (kind_for size) from is number first) (bare_headers files (kind_for size) from is number first)) (inl (bare_same files (kind_for size) from is number first)),
      moment (done files (kind_for size) from is number first) (done_makes files (kind_for size) from is number first) (inr (done_file files (kind_for size) from is number first)),
    ),
  )

quiet : (number : ℕ) → IsQuiet (making number)
unfolding word_step
quiet number = tt

pub creating_passes : (files : BlockFiles) (size : ℕ) (a b : Told) → kind_for size ≡ external → (ForSome a.files HasFreeNumber → CreatesPrefix a b) → ForSome a.files (λ from. CanBePlaced files size from → Passes a b (PlacesInProgress files size from))
creating_passes files size a b is part from there can =
    let P = PlacesInProgress files size from in
    let made = part (λ image here. subst HasFreeNumber (some_inj (sym there ∙ here)) (can.free is)) in
    passes_part P P made.applies (quiet made.number) (λ image moment. moment)
    (λ image here. subst (λ (i : Image). Until P P i (making made.number)) (some_inj (sym there ∙ here)) (making_moments files size from is made.number (made.first from there)))

pub created_agrees : (w : ℕ) (files : BlockFiles) (a b : Told) → Applies a b (making (external_number w)) → ForSome a.files (Agrees files) → ForSome b.files (Agrees files)
unfolding word_step
created_agrees w files a b steps agrees = told_whole (Agrees files) steps
    (λ from there.
    let number : ℕ = external_number w in
    let mid = applied (SetLength (External number) 0) from in
    let last = applied (Word Index 16 (word_bytes number)) mid in
    let F = touched_by_making number in
    let one : SameOutside F from mid = outside_wider (whole (External number)) F from mid (within_left (whole (External number)) (one_word Index 16)) (outside_step (SetLength (External number) 0) from) in
    let other : SameOutside F mid last = outside_wider (one_word Index 16) F mid last (within_right (whole (External number)) (one_word Index 16)) (outside_step (Word Index 16 (word_bytes number)) mid) in
    agrees_still F from last (headers_spared F (making_spares number)) (outside-trans F from mid last one other) files (λ n. refl) (agrees from there))

pub created_place : (w : ℕ) (files : BlockFiles) (a b : Told) → kind_of w ≡ external → ForSome a.files (λ image. IsFirstFree image (last_number image) (external_number w)) → ForSome b.files (λ image. Creates image (external_number w))
    → Applies a b (making (external_number w)) → ForSome a.files (Agrees files) → ForSome a.files (λ from. ForSome b.files (IsNewPlace files w from))
unfolding placing_of
created_place w files a b kind first made steps agrees from there image now = record {
  site = NewFile (external_number w);
  at = (kind, refl);
  makes = makes;
  free = λ n b among of. absurd (no_block_of w n b kind of);
  gains = gained_external files (touched_by_making (external_number w)) w from image kind (making_spares (external_number w)) makes.same (agrees from there);
  created = λ other e. subst (Creates image) (one_number e) (made image now);
}
  where
    one_number : {other : ℕ} → NewFile (external_number w) ≡ NewFile other → external_number w ≡ other
    one_number e = cc

    makes : MakesPlace files (kind_of w) (NewFile (external_number w)) from image
    makes = told_whole (MakesPlace files (kind_of w) (NewFile (external_number w)) from) steps
        (λ other here. subst (λ (i : Image). MakesPlace files (kind_of w) (NewFile (external_number w)) from (after (making (external_number w)) i)) (some_inj (sym there ∙ here))
        (after_making files (kind_of w) from kind (external_number w) (first from there) (MakesPlace files (kind_of w) (NewFile (external_number w)) from) (done_makes files (kind_of w) from kind (external_number w) (first from there))))
        image now
