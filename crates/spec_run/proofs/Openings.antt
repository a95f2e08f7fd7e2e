-- A run begins with an opening, or crashes in it.
use Rattle.std.proofs.Common.{ℕ, ◌+◌, ◌≤◌, ◌≡◌, inl, inr, true, false, ◌||◌, List, [], ◌∷◌, ◌++◌, Some, refl, sym, ◌∙◌, ap, subst, arith, lit<, lit≤, append_assoc}
use Rattle.spec_image.specs.Bytes.{word_bytes}
use Rattle.spec_image.specs.Image.{Image, Index, length_of, word}
use Rattle.spec_image.specs.Steps.{TrailStep, applied, after}
use Rattle.spec_image.specs.Told.{Along, HasNoNote}
use Rattle.spec_image.specs.Notes.{AlongFrom, notes_in}
use Rattle.spec_image.proofs.Cuts.{after-append}
use Rattle.spec_image.proofs.Images.{length-after_write, word-after_same}
use Rattle.spec_image.proofs.NotesLemmas.{along_from-one, at_each_prefix, notes_in-append, are_true-append}
use Rattle.spec_format.specs.BlockFiles.{IsUsable}
use Rattle.spec_format.specs.Headers.{IsUnfinished, index_length}
use Rattle.spec_format.proofs.Finished.{whole_index}
use Rattle.blk_model.specs.State.{State}
use Rattle.spec_folder.specs.Found.{HoldsStill}
use Rattle.spec_folder.specs.StandsFor.{StandsFor}
use Rattle.spec_run.specs.Run.{Stamped, state_after}
use Rattle.spec_run.specs.Moments.{IsStopped, Completes}
use Rattle.spec_run.specs.Opening.{IsInSessionOf, has_opened, open_mark}
use Rattle.spec_run.specs.Laws.{RunsBegin, RunsMayStopInTheOpening}
use Rattle.spec_run.proofs.StepFacts.{true_false, along_head, closed-last, quiet_first, quiet_later, quiet_notes, quiet_true, opened-append, none_before, not_marked, no_last, snoc_step}
use Rattle.spec_run.proofs.Composing.{finished, stays, stopped_at_rest, some_after}

-- a folder that holds what one held that a session may be opened on is uninitialized only where that was
pub unfinished_before : (from image : Image) → IsUsable from → HoldsStill from image → IsUnfinished image → IsUnfinished from
unfinished_before from image (inl unfinished) held now = unfinished
unfinished_before from image (inr well_formed) held now = absurd (finished image (held.formed well_formed) now)

-- before the opening has ended
stopped_before : (from : Image) (opened : State) (commands : List Stamped) (steps : List TrailStep) (image : Image) → IsUsable from → has_opened steps ≡ false → notes_in steps ≡ 0
    → ((before : List TrailStep) (last : TrailStep) → steps ≡ before ++ last ∷ [] → Completes before last → ⊥) → HoldsStill from image → IsStopped from opened commands steps image
stopped_before from opened commands steps image usable none unnoted incomplete still = record {
  usable = still.usable usable;
  making = λ unfinished. (unfinished_before from image usable still unfinished, none);
  left = record {
    opening = λ same. still.found_same;
    later = λ some. true_false some none;
    completed = λ before last split complete. absurd (incomplete before last split complete);
  };
  unnoted = λ same. unnoted;
  stands = λ before last split complete. absurd (incomplete before last split complete);
  session = λ marked. true_false marked none;
  refused = λ before last split marked. true_false marked (none_before before (last ∷ []) (ap has_opened (sym split) ∙ none));
  last = λ before last split marked. true_false marked (none_before before (last ∷ []) (ap has_opened (sym split) ∙ none));
}

-- before the first step
stopped_first : (from : Image) (opened : State) (commands : List Stamped) → IsUsable from → IsStopped from opened commands [] from
stopped_first from opened commands usable =
    stopped_before from opened commands [] from usable refl refl (λ before last split complete. no_last before last split) (record { usable = λ u. u; formed = λ w. w; found_same = refl })

opening_along : (from : Image) (opened : State) (commands : List Stamped) (made : List TrailStep) (image : Image) (steps : List TrailStep) → IsUsable from → has_opened (made ++ steps) ≡ false
    → notes_in made ≡ 0 → HasNoNote steps → IsStopped from opened commands made image → Along (HoldsStill from) image steps → AlongFrom (IsStopped from opened commands) made image steps
opening_along from opened commands made image [] usable none unnoted quiet here all = here
opening_along from opened commands made image (x ∷ steps) usable none unnoted quiet here all =
    let next = applied x image in
    let none_later : has_opened (made ++ x ∷ [] ++ steps) ≡ false = ap has_opened (append_assoc made (x ∷ []) steps) ∙ none in
    let none_here = none_before (made ++ x ∷ []) steps none_later in
    let one = quiet_first x steps quiet in
    let alone = quiet_notes (x ∷ []) one in
    let both = notes_in-append made (x ∷ []) in
    let unnoted_here : notes_in (made ++ x ∷ []) ≡ 0 = omega (arith, alone, both, unnoted) in (
      here,
      opening_along from opened commands (made ++ x ∷ []) next steps usable none_later unnoted_here (quiet_later x steps quiet)
          (stopped_before from opened commands (made ++ x ∷ []) next usable none_here unnoted_here
          (λ before last split complete.
          let same = snoc_step made before x last split in
          not_marked made x none_here one (subst (λ (b : List TrailStep). Completes b x) (sym same.0) (subst (Completes before) (sym same.1) complete)))
          (along_head (HoldsStill from) next steps all.1)) all.1,
    )

along_before : (P : Image → Type 0) (s t : List TrailStep) (image : Image) → Along P image (s ++ t) → Along P image s
along_before P [] t image all = along_head P image t all
along_before P (x ∷ s) t image all = (all.0, along_before P s t (applied x image) all.1)

some_same : {x y : Image} → Some x ≡ Some y → x ≡ y
some_same e = cc

-- the step that marks a session as open makes the crash word 1, in an index of its length
marked_word : (image : Image) → length_of (applied open_mark image) Index ≡ index_length → word (applied open_mark image) Index 32 ≡ 1
marked_word image whole =
    let same = length-after_write image Index Index 32 (word_bytes 1) in
    word-after_same image Index 32 1 (lit< tt) (subst (λ (n : ℕ). 36 ≤ n) (sym whole ∙ same) (lit≤ tt))

-- a run begins with an opening
pub begun : RunsBegin
unfolding state_after
begun from opened old new there usable opens =
    let s = opens.before in
    let all : List TrailStep = s ++ open_mark ∷ [] in
    let image : Image = after all from in
    let at_end = some_after from there opens.applies in
    let stands = opens.stands image at_end in
    let marked : has_opened all ≡ true = opened-append s (open_mark ∷ []) ∙ ap (λ b. b || true) opens.unmarked in
    let count : notes_in all ≡ 0 = notes_in-append s (open_mark ∷ []) ∙ ap (λ (n : ℕ). n + 0) (quiet_notes s opens.unnoted) in
    let last : image ≡ applied open_mark (after s from) = after-append s (open_mark ∷ []) from in
    let crash : word image Index 32 ≡ 1 = subst (λ (i : Image). word i Index 32 ≡ 1) (sym last)
    (marked_word (after s from) (ap (λ (i : Image). length_of i Index) (sym last) ∙ whole_index image stands.well_formed)) in
    let inside : IsInSessionOf from image = record { crash = crash; id = opens.id image at_end } in
    record {
      steps = all;
      applies = opens.applies;
      opens = marked;
      goes_on = closed-last s open_mark;
      noted = count;
      notes = are_true-append 0 s (open_mark ∷ []) (quiet_true 0 s opens.unnoted) tt;
      stands = λ other is. subst (λ (i : Image). StandsFor i opened) (some_same (sym at_end ∙ is)) stands;
      session = λ other is. subst (IsInSessionOf from) (some_same (sym at_end ∙ is)) inside;
      along = λ commands more e.
          let P : List TrailStep → Image → Type 0 = IsStopped from opened commands in
          let first : AlongFrom P [] from s = opening_along from opened commands [] from s usable opens.unmarked refl opens.unnoted
          (stopped_first from opened commands usable)
          (along_before (HoldsStill from) s (open_mark ∷ []) from opens.along) in
          along_from-one P [] from s open_mark first
          (subst (P all) (after-append s (open_mark ∷ []) from)
          (stopped_at_rest from opened commands [] more all image e marked count stands inside
          (λ before step split opened_before. true_false opened_before (ap has_opened (sym (snoc_step s before open_mark step split).0) ∙ opens.unmarked))
          (λ before step split opened_before. true_false opened_before (ap has_opened (sym (snoc_step s before open_mark step split).0) ∙ opens.unmarked))));
    }

-- an opening that failed
pub failed : RunsMayStopInTheOpening
failed from opened commands old new there usable (inl broken) =
    let P : List TrailStep → Image → Type 0 = IsStopped from opened commands in
    let unnoted = quiet_notes broken.steps broken.unnoted in
    record {
      steps = broken.steps;
      applies = broken.applies;
      stops = at_each_prefix P from broken.steps (opening_along from opened commands [] from broken.steps usable broken.unmarked refl broken.unnoted (stopped_first from opened commands usable) broken.along);
      notes = quiet_true 0 broken.steps broken.unnoted;
      few = omega (arith, unnoted);
    }
failed from opened commands old new there usable (inr opens) = stays from opened [] commands old new (begun from opened old new there usable opens)
