-- How the calls of a command follow each other, and how it ends.
use Rattle.std.proofs.Common.{◌≡◌, Some, ℕ, ap, sym, ◌∙◌, subst, inr}
use Rattle.std.specs.Option.{ForSome, option_map}
use Rattle.spec_image.specs.Image.{Image}
use Rattle.spec_image.specs.Steps.{after}
use Rattle.spec_image.specs.Told.{Passes, Told}
use Rattle.spec_image.proofs.Runs.{grows_then, passes_then, passes_weaker, told_whole, until_weaker2}
use Rattle.blk_model.specs.Holding.{rest}
use Rattle.blk_model.specs.Reply.{answer_of}
use Rattle.blk_model.specs.Request.{Request}
use Rattle.blk_model.specs.State.{IsValidState, State}
use Rattle.blk_model.specs.Step.{step}
use Rattle.blk_model.proofs.Steps.{step_valid}
use Rattle.spec_folder.specs.StandsFor.{StandsFor}
use Rattle.law_state.specs.Changes.{StillFinds}
use Rattle.law_state.specs.Commands.{ForKept, MayStop}
use Rattle.law_state.specs.Keeping.{Keeps}
use Rattle.law_state.specs.StageLaws.{CallsFollow, EffectsAreDone, EndsAreKept, FindsLeft, MayStopBetween, IsAtStage, NotesEndSteps, StagesGoOn, StagesMayStop, WhatIsFoundMayStop}
use Rattle.law_state.proofs.CommandEnding.{passed}
use Rattle.law_state.proofs.Objects.{handles-uncounted}
use Rattle.law_state.proofs.Orders.{left-stops}

-- ---- stages

pub stages-go-on : StagesGoOn
stages-go-on before after state moment request from image keeps at = record { inner = at.inner; layout = at.layout; unlinked = at.unlinked; kept = keeps at.inner at.layout at.unlinked at.kept; left = at.left }

found-stops : (state : State) (moment : ℕ) (request : Request) (image : Image) → FindsLeft state moment request image → MayStop state moment request image
found-stops state moment request image f = left-stops state moment request f.held image f.left f.finds

pub what-is-found-stops : (keeps : State → Image → Type 0) → WhatIsFoundMayStop keeps
what-is-found-stops keeps told now later moment request passes image there state k = passes_weaker (passes image there state k) (found-stops state moment request) (found-stops state moment request)

pub stages-stop : (keeps : State → Image → Type 0) → StagesMayStop keeps
stages-stop keeps told now later moment request words stage passes image there state k = record {
  steps = passes.steps;
  applies = passes.applies;
  quiet = passes.quiet;
  along = λ from is.
      let at : IsAtStage words state moment request from = stage image there state k from is in
      let stops : (i : Image) → ForSome now.files (λ old. StillFinds words old i) → MayStop state moment request i = λ i finds. left-stops state moment request (rest at.inner) i at.left (finds from is at.inner at.layout at.unlinked at.kept) in
      until_weaker2 (λ i. ForSome now.files (λ old. StillFinds words old i)) (MayStop state moment request) (λ i. ForSome now.files (λ old. StillFinds words old i)) (MayStop state moment request) passes.steps from stops stops (passes.along from is);
}

pub calls-follow : (keeps : State → Image → Type 0) → CallsFollow keeps
calls-follow keeps told now later last moment request first second image there state k = passes_then (first image there state k) (second image there state k)

-- a request that came to an observable folder goes on by a call whose clause is of the folder's files, if it may crash before and after each step of that call
pub call-then : (keeps : State → Image → Type 0) (told now later : Told) (moment : ℕ) (request : Request) (P : Image → Image → Type 0) → MayStopBetween keeps told told now moment request → ForSome now.files (λ from. Passes now later (P from))
    → ForKept keeps told (λ state. ForSome now.files (λ from. (image : Image) → P from image → MayStop state moment request image)) → MayStopBetween keeps told told later moment request
call-then keeps told now later moment request P first call stops image there state k =
    let begun = first image there state k in
    let from = after begun.steps image in
    let is : now.files ≡ Some from = begun.applies.files ∙ ap (option_map (after begun.steps)) there in
    passes_then begun (passes_weaker (call from is) (stops image there state k from is) (stops image there state k from is))

-- ---- ends

pub ends-kept : EndsAreKept
ends-kept state inner moment request names layout unlinked image valid can ends k =
    subst (λ (m : State). Keeps m layout unlinked image) (sym ends) (handles-uncounted inner layout unlinked image names k (subst IsValidState ends (step_valid state moment request valid can)))

pub effects-done : (keeps : State → Image → Type 0) → EffectsAreDone keeps
effects-done keeps told now moment request answer has image there state k =
    let h = has image there state k in
    let p = passed state moment request h.passes in
    record { answered = h.answered ∙ sym (ap answer_of p.1); kept = λ other is. subst (λ (m : State). keeps m other) (sym p.0) (h.kept other is) }

pub notes-end : NotesEndSteps
notes-end told done now moment request number state passes stands noted = inr (record {
  steps = passes.steps;
  quiet = passes.quiet;
  applies = grows_then passes.applies noted;
  stops = passes.along;
  stands = told_whole (λ image. StandsFor image (step state moment request).state) noted (λ image is. stands image is);
})
