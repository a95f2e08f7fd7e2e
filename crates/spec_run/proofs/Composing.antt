-- A run goes on with a command, or crashes in one, between two, or at its end.
use Rattle.std.proofs.Common.{ℕ, ◌+◌, ◌≡◌, inl, inr, Bool, true, false, List, [], ◌∷◌, ◌++◌, length, Option, Some, refl, sym, ◌∙◌, ap, subst, arith, append_assoc}
use Rattle.std.specs.Option.{option_map}
use Rattle.std.proofs.lemmas.List.{append-nil, length-append}
use Rattle.spec_image.specs.Image.{Image}
use Rattle.spec_image.specs.Steps.{TrailStep, Note, applied, after}
use Rattle.spec_image.specs.Told.{Told, Applies, Along, HasNoNote, IsQuiet, Passes, is_quiet}
use Rattle.spec_image.specs.Notes.{AlongFrom, notes_in}
use Rattle.spec_image.proofs.Cuts.{after-append}
use Rattle.spec_image.proofs.Runs.{grows_none, grows_then, only_here, only_there, until_last}
use Rattle.spec_image.proofs.Quiet.{no-note}
use Rattle.spec_image.proofs.NotesLemmas.{along_from-last, along_from-append, along_from-one, at_each_prefix, notes_in-append, are_true-append}
use Rattle.spec_format.specs.BlockFiles.{IsWellFormed}
use Rattle.spec_format.specs.Headers.{IsUnfinished}
use Rattle.spec_format.proofs.Finished.{finished_whole, magic-of}
use Rattle.spec_format.specs.Session.{KeepsSessionWords}
use Rattle.spec_format.proofs.Session.{quiet-words-kept}
use Rattle.blk_model.specs.Items.{Row}
use Rattle.blk_model.specs.State.{State, IsValidState}
use Rattle.blk_model.specs.Holding.{rest}
use Rattle.blk_model.specs.Stops.{StopOutcome}
use Rattle.blk_model.proofs.StopRests.{rest_before}
use Rattle.spec_folder.specs.Found.{HoldsStill, found}
use Rattle.spec_folder.specs.StandsFor.{StandsFor}
use Rattle.law_folder.proofs.states.StoodFor.{stood-found}
use Rattle.law_state.specs.Commands.{IsNoted, MayStop, MayStopFinished}
use Rattle.law_state.proofs.Stopping.{finished-along}
use Rattle.spec_run.specs.Script.{is_refused}
use Rattle.spec_run.specs.Run.{Stamped, outcome_in, state_after, state_then, state_at, command_after}
use Rattle.spec_run.specs.Moments.{IsStopped, IsLeftAt, Completes, MayFollow}
use Rattle.spec_run.specs.Opening.{IsInSessionOf, close_mark, has_closed, has_opened, marks_closed}
use Rattle.spec_run.specs.Progress.{BreaksOffIn, IsWholeRun, MakesCommand, NotesCommand, Progress, Stops, StopsAfter, StopsPast}
use Rattle.spec_run.specs.Laws.{RunsGoOn, RunsMayStopInACommand, RunsMayStopBetween, RunsEnd}
use Rattle.spec_run.proofs.StepFacts.{true_false, along_head, closed-last, head_same, nil_clash, quiet_true, opened_more, quiet_counts, quiet_goes_on, still_going, not_complete, snoc_step, tail_same}
use Rattle.spec_run.proofs.CommandStates.{state_after-one, state_here, next_here, state_next}

-- What is found.

-- what a crash in the next command leaves
pub left_in : (opened : State) (commands done more : List Stamped) (c : Stamped) (rows : List Row) → commands ≡ done ++ c ∷ more
    → StopOutcome (state_after opened done) c.moment c.request (state_then (state_after opened done) c) rows
    → IsLeftAt opened commands (length done) (command_after commands (length done)) rows
left_in opened commands done more c rows e outcome =
    let now = state_here opened commands done (c ∷ more) e in
    let next = state_next opened commands done more c e in
    let first = subst (λ (s : State). StopOutcome s c.moment c.request (state_then (state_after opened done) c) rows) (sym now) outcome in
    let second = subst (λ (s : State). StopOutcome (state_at opened commands (length done)) c.moment c.request s rows) (sym next) first in
    subst (λ (o : Option Stamped). IsLeftAt opened commands (length done) o rows) (sym (next_here commands done (c ∷ more) e)) second

-- what a crash between two commands leaves
pub left_between : (opened : State) (commands done more : List Stamped) (rows : List Row) → commands ≡ done ++ more
    → IsValidState (state_after opened done) → rows ≡ rest (state_after opened done) → IsLeftAt opened commands (length done) (command_after commands (length done)) rows
left_between opened commands done [] rows e valid same =
    subst (λ (o : Option Stamped). IsLeftAt opened commands (length done) o rows) (sym (next_here commands done [] e))
    (same ∙ ap rest (sym (state_here opened commands done [] e)))
left_between opened commands done (c ∷ more) rows e valid same =
    left_in opened commands done more c rows e
    (subst (StopOutcome (state_after opened done) c.moment c.request (state_then (state_after opened done) c)) (sym same) (rest_before (state_after opened done) c.moment c.request valid))

-- a well-formed folder isn't uninitialized
pub finished : (image : Image) → IsWellFormed image → IsUnfinished image → ⊥
finished image well_formed = (finished_whole image well_formed).finished

-- The folder after some steps.

-- the last of some steps may follow those before it, however the steps are written as a list with a last one
follows : (opened : State) (commands : List Stamped) (n : ℕ) (made : List TrailStep) (x : TrailStep) → notes_in made ≡ n
    → MayFollow opened commands n (command_after commands n) x → (before : List TrailStep) (step : TrailStep) → made ++ x ∷ [] ≡ before ++ step ∷ []
    → MayFollow opened commands (notes_in before) (command_after commands (notes_in before)) step
follows opened commands n made x count may before step split =
    let same = snoc_step made before x step split in
    let here : notes_in before ≡ n = ap notes_in (sym same.0) ∙ count in
    subst (λ (m : ℕ). MayFollow opened commands m (command_after commands m) step) (sym here)
    (subst (MayFollow opened commands n (command_after commands n)) same.1 may)

-- and the session has not ended before it
follows_going : (made : List TrailStep) (x : TrailStep) → has_closed made ≡ false → (before : List TrailStep) (step : TrailStep) → made ++ x ∷ [] ≡ before ++ step ∷ [] → has_closed before ≡ false
follows_going made x going before step split = ap has_closed (sym (snoc_step made before x step split).0) ∙ going

-- a command's own note may follow
may_note : (opened : State) (commands done more : List Stamped) (c : Stamped) → commands ≡ done ++ c ∷ more
    → MayFollow opened commands (length done) (command_after commands (length done)) (Note (length done + 1))
may_note opened commands done more c e =
    subst (λ (o : Option Stamped). MayFollow opened commands (length done) o (Note (length done + 1))) (sym (next_here commands done (c ∷ more) e))
    (record { goes_on = refl; note = λ refusal. refl })

-- any step that doesn't end the session may follow in a command that isn't refused, and none is made in one that is
may_any : (opened : State) (commands done more : List Stamped) (c : Stamped) (t : List TrailStep) → commands ≡ done ++ c ∷ more
    → (is_refused (outcome_in (state_after opened done) c) ≡ true → t ≡ []) → (t ≡ [] → ⊥) → (y : TrailStep) → marks_closed y ≡ false
    → MayFollow opened commands (length done) (command_after commands (length done)) y
may_any opened commands done more c t e spared some y going =
    let here = state_here opened commands done (c ∷ more) e in
    subst (λ (o : Option Stamped). MayFollow opened commands (length done) o y) (sym (next_here commands done (c ∷ more) e))
    (record { goes_on = going; note = λ refusal. absurd (some (spared (ap (λ (s : State). is_refused (outcome_in s c)) (sym here) ∙ refusal))) })

-- it is still the same session where its words are as before
in_session_kept : (from start image : Image) → IsInSessionOf from start → KeepsSessionWords start image → IsInSessionOf from image
in_session_kept from start image inside kept = record { crash = kept.crash ∙ inside.crash; id = kept.id ∙ inside.id }

-- between two commands the folder was opened, and these commands are done
pub stopped_at_rest : (from : Image) (opened : State) (commands done more : List Stamped) (steps : List TrailStep) (image : Image) → commands ≡ done ++ more
    → has_opened steps ≡ true → notes_in steps ≡ length done → StandsFor image (state_after opened done) → IsInSessionOf from image
    → ((before : List TrailStep) (step : TrailStep) → steps ≡ before ++ step ∷ [] → has_opened before ≡ true
    → MayFollow opened commands (notes_in before) (command_after commands (notes_in before)) step)
    → ((before : List TrailStep) (step : TrailStep) → steps ≡ before ++ step ∷ [] → has_opened before ≡ true → has_closed before ≡ false)
    → IsStopped from opened commands steps image
stopped_at_rest from opened commands done more steps image e marked count stands inside may going = record {
  usable = inr stands.well_formed;
  making = λ unfinished. absurd (finished image stands.well_formed unfinished);
  left = record {
    opening = λ none. true_false marked none;
    later = λ some. subst (λ (n : ℕ). IsLeftAt opened commands n (command_after commands n) (found image)) (sym count)
        (left_between opened commands done more (found image) e stands.shows.valid same);
    completed = λ before last split complete. same ∙ ap rest (sym here);
  };
  unnoted = λ none. true_false marked none;
  stands = λ before last split complete. subst (λ (s : State). StandsFor image s) (sym here) stands;
  session = λ marked going. inside;
  refused = may;
  last = going;
}
  where
    same : found image ≡ rest (state_after opened done)
    same = stood-found image (state_after opened done) stands

    here : state_at opened commands (notes_in steps) ≡ state_after opened done
    here = ap (λ (n : ℕ). state_at opened commands n) count ∙ state_here opened commands done more e

-- after a step that completes nothing
pub stopped_within : (from : Image) (opened : State) (commands : List Stamped) (n : ℕ) (made : List TrailStep) (x : TrailStep) (image : Image)
    → has_opened made ≡ true → notes_in made ≡ n → HasNoNote (x ∷ []) → IsWellFormed image → IsLeftAt opened commands n (command_after commands n) (found image)
    → (has_closed (made ++ x ∷ []) ≡ false → IsInSessionOf from image) → MayFollow opened commands n (command_after commands n) x → has_closed made ≡ false
    → IsStopped from opened commands (made ++ x ∷ []) image
stopped_within from opened commands n made x image marked count quiet well_formed left inside may going = record {
  usable = inr well_formed;
  making = λ unfinished. absurd (finished image well_formed unfinished);
  left = record {
    opening = λ none. true_false (opened_more made (x ∷ []) marked) none;
    later = λ some. subst (λ (n : ℕ). IsLeftAt opened commands n (command_after commands n) (found image)) (sym (quiet_counts made (x ∷ []) n count quiet)) left;
    completed = λ before last split complete. absurd (never before last split complete);
  };
  unnoted = λ none. true_false (opened_more made (x ∷ []) marked) none;
  stands = λ before last split complete. absurd (never before last split complete);
  session = λ opens. inside;
  refused = λ before step split opens. follows opened commands n made x count may before step split;
  last = λ before step split opens. follows_going made x going before step split;
}
  where
    never : (before : List TrailStep) (last : TrailStep) → made ++ x ∷ [] ≡ before ++ last ∷ [] → Completes before last → ⊥
    never before last split complete =
        let same = snoc_step made before x last split in
        not_complete made x marked quiet (subst (λ (b : List TrailStep). Completes b x) (sym same.0) (subst (Completes before) (sym same.1) complete))

-- a step that a command may make is no note
one_no_note : (x : TrailStep) → is_quiet x ≡ true → HasNoNote (x ∷ [])
one_no_note x quiet = no-note (x ∷ []) (only_here (is_quiet x) quiet tt)

-- steps that a command may make once the opening has ended, which keep the words of the session, and may follow where there are any
pub quiet_along : (from : Image) (opened : State) (commands : List Stamped) (n : ℕ) (R : Image → Type 0)
    → ((image : Image) → R image → IsWellFormed image × IsLeftAt opened commands n (command_after commands n) (found image))
    → (start : Image) → IsInSessionOf from start
    → (made : List TrailStep) (image : Image) (steps : List TrailStep) → has_opened made ≡ true → has_closed made ≡ false → notes_in made ≡ n → IsQuiet steps
    → ((steps ≡ [] → ⊥) → (y : TrailStep) → marks_closed y ≡ false → MayFollow opened commands n (command_after commands n) y) → Along (KeepsSessionWords start) image steps
    → IsStopped from opened commands made image → Along R image steps → AlongFrom (IsStopped from opened commands) made image steps
quiet_along from opened commands n R gives start inside made image [] marked going count quiet may same here all = here
quiet_along from opened commands n R gives start inside made image (x ∷ steps) marked going count quiet may same here all =
    let q = only_there (is_quiet x) quiet in
    let goes_on = quiet_goes_on x q.0 in
    let some : x ∷ steps ≡ [] → ⊥ = λ e. nil_clash (sym e) in
    let kept = along_head (KeepsSessionWords start) (applied x image) steps same.1 in
    let next = gives (applied x image) (along_head R (applied x image) steps all.1) in
    let one = one_no_note x q.0 in (
      here,
      quiet_along from opened commands n R gives start inside (made ++ x ∷ []) (applied x image) steps
          (opened_more made (x ∷ []) marked) (closed-last made x ∙ goes_on) (quiet_counts made (x ∷ []) n count one) q.1 (λ more. may some) same.1
          (stopped_within from opened commands n made x (applied x image) marked count one next.0 next.1
          (λ still. in_session_kept from start (applied x image) inside kept) (may some x goes_on) going) all.1,
    )

-- Calls.

pub some_after : {a b : Told} {s : List TrailStep} (from : Image) → a.files ≡ Some from → Applies a b s → b.files ≡ Some (after s from)
some_after {s = s} from there applies = applies.files ∙ ap (option_map (after s)) there

-- a crash in a command, as one of the run
stopped_in_left : (opened : State) (commands done more : List Stamped) (c : Stamped) → commands ≡ done ++ c ∷ more → (image : Image) → MayStopFinished (state_after opened done) c.moment c.request image
    → IsWellFormed image × IsLeftAt opened commands (length done) (command_after commands (length done)) (found image)
stopped_in_left opened commands done more c e image stopped = (stopped.well_formed, left_in opened commands done more c (found image) e stopped.left)

-- a command that was noted, without a step but its note where it is refused
noted_alone : (mid new : Told) (c : Stamped) (number : ℕ) (state : State) → NotesCommand mid new c number state
    → (noted : IsNoted mid new c.moment c.request number state) × (is_refused (outcome_in state c) ≡ true → noted.steps ≡ [])
noted_alone mid new c number state made = by_test (is_refused (outcome_in state c)) refl
  where
    alone : is_refused (outcome_in state c) ≡ true → IsNoted mid new c.moment c.request number state
    alone is = record {
      steps = [];
      quiet = tt;
      applies = made.alone is;
      stops = λ image here. along_head (MayStop state c.moment c.request) image made.noted.steps (made.noted.stops image here);
      stands = made.noted.stands;
    }

    by_test : (b : Bool) → is_refused (outcome_in state c) ≡ b
        → (noted : IsNoted mid new c.moment c.request number state) × (is_refused (outcome_in state c) ≡ true → noted.steps ≡ [])
    by_test true is = (alone is, λ again. refl)
    by_test false is = (made.noted, λ again. true_false again is)

-- one that was made in part, without a step where it is refused
part_alone : (mid new : Told) (c : Stamped) (state : State) → BreaksOffIn mid new c state
    → (passes : Passes mid new (MayStop state c.moment c.request)) × (is_refused (outcome_in state c) ≡ true → passes.steps ≡ [])
part_alone mid new c state made = by_test (is_refused (outcome_in state c)) refl
  where
    none : is_refused (outcome_in state c) ≡ true → Passes mid new (MayStop state c.moment c.request)
    none is = record {
      steps = [];
      applies = grows_none (made.untouched is);
      quiet = tt;
      along = λ image here. along_head (MayStop state c.moment c.request) image made.passes.steps (made.passes.along image here);
    }

    by_test : (b : Bool) → is_refused (outcome_in state c) ≡ b
        → (passes : Passes mid new (MayStop state c.moment c.request)) × (is_refused (outcome_in state c) ≡ true → passes.steps ≡ [])
    by_test true is = (none is, λ again. refl)
    by_test false is = (made.passes, λ again. true_false again is)

-- a command that was done
pub one_more : RunsGoOn
one_more from opened done old mid new c there before makes =
    let lone = noted_alone mid new c (length done + 1) (state_after opened done) makes in
    let made = lone.0 in
    let s = before.steps in
    let t = made.steps in
    let note : TrailStep = Note (length done + 1) in
    let middle : Image = after s from in
    let at_middle = some_after from there before.applies in
    let same_image : after (t ++ note ∷ []) middle ≡ after t middle = after-append t (note ∷ []) middle in
    let at_end = some_after middle at_middle made.applies ∙ ap Some same_image in
    let last = state_after-one opened done c in
    let rests : StandsFor (after t middle) (state_after opened (done ++ c ∷ [])) = subst (λ (x : State). StandsFor (after t middle) x) (sym last) (made.stands (after t middle) at_end) in
    let marked = opened_more s t before.opens in
    let none = no-note t made.quiet in
    let count = quiet_counts s t (length done) before.noted none in
    let inside = before.session middle at_middle in
    let words = quiet-words-kept t middle made.quiet in
    let inside_then : IsInSessionOf from (after t middle) =
    in_session_kept from middle (after t middle) inside (until_last (KeepsSessionWords middle) (KeepsSessionWords middle) t middle words) in
    let grown : length (done ++ c ∷ []) ≡ length done + 1 = length-append done (c ∷ []) in
    let noted : notes_in (s ++ t ++ note ∷ []) ≡ length (done ++ c ∷ []) = notes_in-append (s ++ t) (note ∷ []) ∙ ap (λ (n : ℕ). n + 1) count ∙ sym grown in
    let joined : s ++ (t ++ note ∷ []) ≡ s ++ t ++ note ∷ [] = sym (append_assoc s t (note ∷ [])) in
    record {
      steps = s ++ t ++ note ∷ [];
      applies = subst (Applies old new) joined (grows_then before.applies made.applies);
      opens = opened_more (s ++ t) (note ∷ []) marked;
      goes_on = closed-last (s ++ t) note;
      noted = noted;
      notes = are_true-append 0 (s ++ t) (note ∷ [])
          (are_true-append 0 s t before.notes (quiet_true (0 + notes_in s) t none))
          (let zero_in : 0 + notes_in (s ++ t) ≡ length done = omega (arith, count) in (ap (λ (n : ℕ). n + 1) (sym zero_in), tt));
      stands = λ image is. subst (λ (i : Image). StandsFor i (state_after opened (done ++ c ∷ []))) (some_same (sym at_end ∙ is)) rests;
      session = λ image is. subst (IsInSessionOf from) (some_same (sym at_end ∙ is)) inside_then;
      along = λ commands more e.
          let more_after : commands ≡ done ++ c ∷ more = e ∙ append_assoc done (c ∷ []) more in
          let first = before.along commands (c ∷ more) more_after in
          let P : List TrailStep → Image → Type 0 = IsStopped from opened commands in
          let second = quiet_along from opened commands (length done) (MayStopFinished (state_after opened done) c.moment c.request) (stopped_in_left opened commands done more c more_after)
          middle inside s middle t before.opens before.goes_on before.noted made.quiet (may_any opened commands done more c t more_after lone.1) words
          (along_from-last P [] from s first)
          (finished-along (state_after opened done) c.moment c.request middle t made.quiet (magic-of middle (before.stands middle at_middle).well_formed) (made.stops middle at_middle)) in
          let both = along_from-append P [] from s t first second in
          let final_image : after (s ++ t) from ≡ after t middle = after-append s t from in
          along_from-one P [] from (s ++ t) note both
          (subst (P (s ++ t ++ note ∷ [])) (sym final_image)
          (stopped_at_rest from opened commands (done ++ c ∷ []) more (s ++ t ++ note ∷ []) (after t middle) e
          (opened_more (s ++ t) (note ∷ []) marked) noted rests inside_then
          (λ before_last step split opens.
          follows opened commands (length done) (s ++ t) note count (may_note opened commands done more c more_after) before_last step split)
          (λ before_last step split opens. follows_going (s ++ t) note (still_going s t before.goes_on made.quiet) before_last step split)));
    }
  where
    some_same : {x y : Image} → Some x ≡ Some y → x ≡ y
    some_same e = cc

-- a run that was ended in the midst of a command
pub stops_with : {from : Image} {opened : State} {commands done : List Stamped} {old mid new : Told} (more : List Stamped) (R : Image → Type 0) → old.files ≡ Some from
    → Progress from opened done old mid → (made : Passes mid new R) → commands ≡ done ++ more
    → ((image : Image) → R image → IsWellFormed image × IsLeftAt opened commands (length done) (command_after commands (length done)) (found image))
    → ((made.steps ≡ [] → ⊥) → (y : TrailStep) → marks_closed y ≡ false → MayFollow opened commands (length done) (command_after commands (length done)) y)
    → Stops from opened commands old new
stops_with {from} {opened} {commands} {done} {old} {mid} {new} more R there before made e gives may =
    let s = before.steps in
    let t = made.steps in
    let middle : Image = after s from in
    let at_middle = some_after from there before.applies in
    let P : List TrailStep → Image → Type 0 = IsStopped from opened commands in
    let first = before.along commands more e in
    let none = no-note t made.quiet in
    let second = quiet_along from opened commands (length done) R gives middle (before.session middle at_middle) s middle t before.opens before.goes_on before.noted made.quiet may
    (quiet-words-kept t middle made.quiet) (along_from-last P [] from s first) (made.along middle at_middle) in
    let count = quiet_counts s t (length done) before.noted none in
    let all = ap (λ (l : List Stamped). length l) e ∙ length-append done more in
    record {
      steps = s ++ t;
      applies = grows_then before.applies made.applies;
      stops = at_each_prefix P from (s ++ t) (along_from-append P [] from s t first second);
      notes = are_true-append 0 s t before.notes (quiet_true (0 + notes_in s) t none);
      few = omega (arith, count, all);
    }

-- a run that stays where it is
pub stays : RunsMayStopBetween
stays from opened done more old new before =
    let count = before.noted in
    let all = length-append done more in
    record {
      steps = before.steps;
      applies = before.applies;
      stops = at_each_prefix (IsStopped from opened (done ++ more)) from before.steps (before.along (done ++ more) more refl);
      notes = before.notes;
      few = omega (arith, count, all);
    }

-- a command that was done in part, at each of whose words the index is initialized
finished_part : (from : Image) (opened : State) (done : List Stamped) (old mid new : Told) (c : Stamped) → old.files ≡ Some from → Progress from opened done old mid
    → Passes mid new (MayStop (state_after opened done) c.moment c.request) → Passes mid new (MayStopFinished (state_after opened done) c.moment c.request)
finished_part from opened done old mid new c there before made = record {
  steps = made.steps;
  applies = made.applies;
  quiet = made.quiet;
  along = λ image is. finished-along (state_after opened done) c.moment c.request image made.steps made.quiet (magic-of image (before.stands image is).well_formed) (made.along image is);
}

-- a command that was done in part isn't noted
pub stopped_part : (from : Image) (opened : State) (done more : List Stamped) (old mid new : Told) (c : Stamped) → old.files ≡ Some from → Progress from opened done old mid
    → BreaksOffIn mid new c (state_after opened done) → StopsAfter from opened (done ++ c ∷ more) (length done) old new
unfolding stops_with finished_part
stopped_part from opened done more old mid new c there before makes =
    let lone = part_alone mid new c (state_after opened done) makes in
    let made = lone.0 in
    record {
      stops = stops_with (c ∷ more) (MayStopFinished (state_after opened done) c.moment c.request) there before
          (finished_part from opened done old mid new c there before made) refl
          (stopped_in_left opened (done ++ c ∷ more) done more c refl) (may_any opened (done ++ c ∷ more) done more c made.steps refl lone.1);
      count = quiet_counts before.steps made.steps (length done) before.noted (no-note made.steps made.quiet);
    }

-- a command that was noted is counted
pub stopped_noted : (from : Image) (opened : State) (done more : List Stamped) (old mid new : Told) (c : Stamped) → old.files ≡ Some from → Progress from opened done old mid
    → NotesCommand mid new c (length done + 1) (state_after opened done) → StopsAfter from opened (done ++ c ∷ more) (length done + 1) old new
unfolding stays
stopped_noted from opened done more old mid new c there before made =
    let next = one_more from opened done old mid new c there before made in
    subst (λ (l : List Stamped). StopsAfter from opened l (length done + 1) old new) (append_assoc done (c ∷ []) more)
    (record { stops = stays from opened (done ++ c ∷ []) more old new next; count = next.noted ∙ length-append done (c ∷ []) })

-- a command that was done in part, or noted
pub stopped : RunsMayStopInACommand
stopped from opened done more old mid new c there before (inl made) = (stopped_part from opened done more old mid new c there before made).stops
stopped from opened done more old mid new c there before (inr made) = (stopped_noted from opened done more old mid new c there before made).stops

-- at least those before it are noted
pub stopped_past : (from : Image) (opened : State) (done more : List Stamped) (old mid new : Told) (c : Stamped) → old.files ≡ Some from → Progress from opened done old mid
    → MakesCommand mid new c (length done + 1) (state_after opened done) → StopsPast from opened (done ++ c ∷ more) (length done) old new
stopped_past from opened done more old mid new c there before (inl made) =
    let stops = stopped_part from opened done more old mid new c there before made in
    record { stops = stops.stops; count = let n = stops.count in omega (arith, n) }
stopped_past from opened done more old mid new c there before (inr made) =
    let stops = stopped_noted from opened done more old mid new c there before made in
    record { stops = stops.stops; count = let n = stops.count in omega (arith, n) }

-- the end of a run, of whose commands none is left: the step that ends the session is made, or none
pub ended : RunsEnd
ended from opened commands old mid new there before part still = by_steps part.made part.left part.split part.applies
  where
    middle : Image
    middle = after before.steps from

    at_middle : mid.files ≡ Some middle
    at_middle = some_after from there before.applies

    P : List TrailStep → Image → Type 0
    P = IsStopped from opened commands

    all : commands ≡ commands ++ []
    all = sym (append-nil commands)

    first : AlongFrom P [] from before.steps
    first = before.along commands [] all

    here : P before.steps middle
    here = along_from-last P [] from before.steps first

    same : found middle ≡ rest (state_after opened commands)
    same = stood-found middle (state_after opened commands) (before.stands middle at_middle)

    -- with these steps
    with_steps : (t : List TrailStep) → Applies mid new t → HasNoNote t → AlongFrom P before.steps middle t → IsWholeRun from opened commands old new
    with_steps t applies none second =
        let count = quiet_counts before.steps t (length commands) before.noted none in
        record {
          stops = record {
            steps = before.steps ++ t;
            applies = grows_then before.applies applies;
            stops = at_each_prefix P from (before.steps ++ t) (along_from-append P [] from before.steps t first second);
            notes = are_true-append 0 before.steps t before.notes (quiet_true (0 + notes_in before.steps) t none);
            few = omega (arith, count);
          };
          opens = opened_more before.steps t before.opens;
          noted = count;
          holds = λ image is. (still middle at_middle image is).found_same ∙ same;
        }

    -- after the step that ends the session
    closed : Applies mid new (close_mark ∷ []) → P (before.steps ++ close_mark ∷ []) (applied close_mark middle)
    closed applies =
        let held : HoldsStill middle (applied close_mark middle) = still middle at_middle (applied close_mark middle) (some_after middle at_middle applies) in
        let stands = before.stands middle at_middle in
        stopped_within from opened commands (length commands) before.steps close_mark (applied close_mark middle) before.opens before.noted tt
        (held.formed stands.well_formed)
        (left_between opened commands commands [] (found (applied close_mark middle)) all stands.shows.valid (held.found_same ∙ same))
        (λ going. true_false (closed-last before.steps close_mark) going)
        (subst (λ (o : Option Stamped). MayFollow opened commands (length commands) o close_mark) (sym (next_here commands commands [] all)) refl)
        before.goes_on

    none_left : (t left : List TrailStep) → [] ≡ t ++ left → t ≡ []
    none_left [] left e = refl
    none_left (x ∷ t) left e = nil_clash e

    by_steps : (made left : List TrailStep) → close_mark ∷ [] ≡ made ++ left → Applies mid new made → IsWholeRun from opened commands old new
    by_steps [] left split applies = with_steps [] applies tt here
    by_steps (x ∷ t) left split applies =
        let is : x ∷ t ≡ close_mark ∷ [] =
        ap (λ (y : TrailStep). y ∷ t) (sym (head_same split)) ∙ ap (λ (l : List TrailStep). close_mark ∷ l) (none_left t left (tail_same split)) in
        let applied_mark : Applies mid new (close_mark ∷ []) = subst (Applies mid new) is applies in
        with_steps (close_mark ∷ []) applied_mark tt (here, closed applied_mark)
