-- How calls go on through steps that depend on the image at the entry.
use Rattle.std.proofs.Common.{◌≡◌, List, [], ◌++◌, Option, None, Some, refl, sym, ◌∙◌, ap, subst, append_assoc}
use Rattle.std.specs.Option.{ForSome, option_map}
use Rattle.std.proofs.lemmas.List.{append-nil}
use Rattle.spec_image.specs.Image.{Image}
use Rattle.spec_image.specs.Steps.{TrailStep, after}
use Rattle.spec_image.specs.Told.{Told, Along, Applies, AppliesPrefix}
use Rattle.spec_image.proofs.Cuts.{after-append}
use Rattle.spec_image.proofs.Runs.{along_prefix, grows_none, grows_then, part_then, part_only, part_whole, some_inj, told_part}
use Rattle.blk_disk.specs.declared.tables.BlockFiles.{BlockFiles}
use Rattle.blk_disk.specs.Open.{IsOpen}

-- a prefix of the whole steps was made, and of these the rest is left
pub record Progress (old now : Told) (whole rest : Image → List TrailStep) : Type 0 where
  pub done : Image → List TrailStep
  pub split : (from : Image) → whole from ≡ done from ++ rest (after (done from) from)
  pub applies : ForSome old.files (λ from. Applies old now (done from))
  pub silent : old.files ≡ None → now.files ≡ None

-- no step was made
pub begun : (old now : Told) (whole : Image → List TrailStep) → now ≡ old → Progress old now whole whole
begun old now whole same = record {
  done = λ _. [];
  split = λ from. refl;
  applies = λ from there. grows_none same;
  silent = λ none. ap (λ (t : Told). t.files) same ∙ none;
}

-- a run begins with a step, and goes on with the rest
abbrev pub Leads : (rest step later : Image → List TrailStep) → Type 0
Leads rest step later = (image : Image) → rest image ≡ step image ++ later (after (step image) image)

module _ {old now : Told} {whole rest : Image → List TrailStep} (progress : Progress old now whole rest) where
  -- the files now
  pub now_files : (from : Image) → old.files ≡ Some from → now.files ≡ Some (after (progress.done from) from)
  now_files from there = (progress.applies from there).files ∙ ap (option_map (after (progress.done from))) there

  -- what holds of the files at each word holds of them now
  pub now_along : (P : Image → Type 0) → ForSome old.files (λ from. Along P from (whole from)) → ForSome now.files P
  now_along P all image here = by_files old.files refl
    where
      no_some : None ≡ Some image → ⊥
      no_some e = cc

      by_files : (o : Option Image) → old.files ≡ o → P image
      by_files None none = absurd (no_some (sym (progress.silent none) ∙ here))
      by_files (Some from) there =
          subst P (some_inj (sym (now_files from there) ∙ here))
          (along_prefix P (progress.done from) (rest (after (progress.done from) from)) from (subst (Along P from) (progress.split from) (all from there)))

  -- what holds of the files now for each observed start holds of the files now
  pub now_by : (P : Image → Type 0) → ForSome old.files (λ from. ForSome now.files P) → ForSome now.files P
  now_by P holds image here = by_files old.files refl
    where
      no_some : None ≡ Some image → ⊥
      no_some e = cc

      by_files : (o : Option Image) → old.files ≡ o → P image
      by_files None none = absurd (no_some (sym (progress.silent none) ∙ here))
      by_files (Some from) there = holds from there image here

  -- the rest may be said in another way
  pub said_as : (other : Image → List TrailStep) → ((image : Image) → rest image ≡ other image) → Progress old now whole other
  said_as other same = record {
    done = progress.done;
    split = λ from. progress.split from ∙ ap (λ (l : List TrailStep). progress.done from ++ l) (same (after (progress.done from) from));
    applies = progress.applies;
    silent = progress.silent;
  }

  -- the folder is opaque now only where it was opaque
  pub was_untold : now.files ≡ None → old.files ≡ None
  was_untold none = by_files old.files refl
    where
      no_some : (image : Image) → None ≡ Some image → ⊥
      no_some image e = cc

      by_files : (o : Option Image) → old.files ≡ o → old.files ≡ None
      by_files None there = there
      by_files (Some from) there = absurd (no_some (after (progress.done from) from) (sym none ∙ now_files from there))

  module _ (step later : Image → List TrailStep) (next : Told) (leads : Leads rest step later) where
    split_on : (from : Image) → whole from ≡ (progress.done from ++ step (after (progress.done from) from)) ++ later (after (progress.done from ++ step (after (progress.done from) from)) from)
    split_on from =
        let done : List TrailStep = progress.done from in
        let between : Image = after done from in
        progress.split from ∙ ap (λ (l : List TrailStep). done ++ l) (leads between)
        ∙ sym (append_assoc done (step between) (later (after (step between) between)))
        ∙ ap (λ (i : Image). (done ++ step between) ++ later i) (sym (after-append done (step between) from))

    -- the step was made
    pub went_on : ForSome now.files (λ between. Applies now next (step between)) → (now.files ≡ None → next.files ≡ None) → Progress old next whole later
    went_on made silent = record {
      done = λ from. progress.done from ++ step (after (progress.done from) from);
      split = split_on;
      applies = λ from there. grows_then (progress.applies from there) (made (after (progress.done from) from) (now_files from there));
      silent = λ none. silent (progress.silent none);
    }

    -- a part of it was
    pub stopped : ForSome now.files (λ between. AppliesPrefix now next (step between)) → ForSome old.files (λ from. AppliesPrefix old next (whole from))
    stopped part from there =
        let done : List TrailStep = progress.done from in
        let between : Image = after done from in
        subst (AppliesPrefix old next) (sym (progress.split from ∙ ap (λ (l : List TrailStep). done ++ l) (leads between)))
        (part_then (progress.applies from there) (part_only (later (after (step between) between)) (part between (now_files from there))))

-- all steps were made
pub ended : {old now : Told} {whole rest : Image → List TrailStep} → Progress old now whole rest → ((image : Image) → rest image ≡ []) → ForSome old.files (λ from. Applies old now (whole from))
ended {old} {now} {whole} {rest} progress none from there =
    let done : List TrailStep = progress.done from in
    subst (Applies old now) (sym (progress.split from ∙ ap (λ (l : List TrailStep). done ++ l) (none (after done from)) ∙ append-nil done)) (progress.applies from there)

-- all steps are a prefix of them
pub ended_part : {old now : Told} {whole : Image → List TrailStep} → ForSome old.files (λ from. Applies old now (whole from)) → ForSome old.files (λ from. AppliesPrefix old now (whole from))
ended_part all from there = part_whole (all from there)

-- steps that leave a folder open do so also where a part of them is made
pub stays-open : (files : BlockFiles) (old now : Told) (steps : Image → List TrailStep) → ((image : Image) → IsOpen files image → Along (IsOpen files) image (steps image)) → ForSome old.files (IsOpen files) → ForSome old.files (λ from. AppliesPrefix old now (steps from)) → (old.files ≡ None → now.files ≡ None) → ForSome now.files (IsOpen files)
stays-open files old now steps leaves is part silent image here = by_files old.files refl
  where
    no_some : None ≡ Some image → ⊥
    no_some e = cc

    by_files : (o : Option Image) → old.files ≡ o → IsOpen files image
    by_files None none = absurd (no_some (sym (silent none) ∙ here))
    by_files (Some from) there = told_part (IsOpen files) (part from there) (λ x is_there. subst (λ (i : Image). Along (IsOpen files) i (steps from)) (some_inj (sym there ∙ is_there)) (leaves from (is from there))) image here

-- what holds after steps holds once they were made
pub now_has : (old now : Told) (steps : Image → List TrailStep) (P : Image → Type 0) → ForSome old.files (λ from. Applies old now (steps from)) → (old.files ≡ None → now.files ≡ None) → ForSome old.files (λ from. P (after (steps from) from)) → ForSome now.files P
now_has old now steps P made silent holds image here = by_files old.files refl
  where
    no_some : None ≡ Some image → ⊥
    no_some e = cc

    by_files : (o : Option Image) → old.files ≡ o → P image
    by_files None none = absurd (no_some (sym (silent none) ∙ here))
    by_files (Some from) there = subst P (some_inj (sym ((made from there).files ∙ ap (option_map (after (steps from))) there) ∙ here)) (holds from there)

-- what holds of the observed files
pub told_is : {files : Option Image} (P : Image → Type 0) (from : Image) → files ≡ Some from → P from → ForSome files P
told_is {files} P from there holds image here = subst P (some_inj (sym there ∙ here)) holds

-- a part of some steps leaves a folder opaque only where it was
pub untold_part : {a b : Told} {s : List TrailStep} → AppliesPrefix a b s → b.files ≡ None → a.files ≡ None
untold_part {a} {b} {s} part none = by_files a.files refl
  where
    no_some : (image : Image) → None ≡ Some image → ⊥
    no_some image e = cc

    by_files : (o : Option Image) → a.files ≡ o → a.files ≡ None
    by_files None there = there
    by_files (Some from) there = absurd (no_some (after part.made from) (sym none ∙ part.applies.files ∙ ap (option_map (after part.made)) there))
