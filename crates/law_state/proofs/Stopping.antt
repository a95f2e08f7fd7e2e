-- Where a request may crash, and when it is done.
use Rattle.std.proofs.Common.{◌≡◌, ℕ, List, [], Option, None, Some, refl, ap, sym, ◌∙◌, subst}
use Rattle.std.specs.Option.{ForSome}
use Rattle.spec_image.specs.Image.{Image}
use Rattle.spec_image.specs.Told.{Told}
use Rattle.spec_image.proofs.Runs.{passes_none, passes_weaker, until_both, until_weaker2}
use Rattle.blk_model.specs.declared.Refusal.{Refusal}
use Rattle.blk_model.specs.Items.{Row}
use Rattle.blk_model.specs.Reply.{answer_of}
use Rattle.blk_model.specs.Refusals.{evicted, refused}
use Rattle.blk_model.specs.Request.{Request, to_list, to_size, to_total}
use Rattle.blk_model.specs.Room.{without}
use Rattle.blk_model.specs.State.{State}
use Rattle.blk_model.specs.Step.{outcome, step}
use Rattle.blk_model.specs.Effects.{effect}
use Rattle.blk_model.specs.Stops.{StopOutcome}
use Rattle.blk_model.proofs.EvictedFirst.{evictions-stop}
use Rattle.blk_model.proofs.Refused.{refusal_from, refused_nothing}
use Rattle.blk_model.proofs.StopRests.{rest_after, rest_before}
use Rattle.law_state.specs.Commands.{FinishedFoldersMayStop, FinishedFoldersMayStopAlong, MayStop, MayStopFinished}
use Rattle.spec_format.specs.Session.{KeepsSessionWords}
use Rattle.spec_format.proofs.Session.{quiet-words-kept}
use Rattle.law_state.specs.Changes.{Finds, FindsFinished, HeldIsFound, HeldIsFoundAlong}
use Rattle.spec_folder.specs.Found.{found}
use Rattle.law_state.specs.CommandLaws.{CallsMayStop, KeptStatesMayStop, NothingIsDone, NothingMayStop, QuietRequestsKeepTheState, RefusalsAreDone, RequestsMayStopAfter, RequestsMayStopBefore, RequestsMayStopOnceEvicted, SaysKept}
use Rattle.law_state.specs.Keeping.{KeepsSome}
use Rattle.law_state.proofs.Keeping.{kept-held}
use Rattle.spec_format.proofs.Finished.{formed-of, well_formed-finished}

pub stop-before : RequestsMayStopBefore
stop-before state moment request image valid finds = record {
  sound = finds.0;
  left = subst (λ (rows : List Row). StopOutcome state moment request (step state moment request).state rows) (sym finds.1) (rest_before state moment request valid);
}

pub stop-after : RequestsMayStopAfter
stop-after state moment request image valid can finds = record {
  sound = finds.0;
  left = subst (λ (rows : List Row). StopOutcome state moment request (step state moment request).state rows) (sym finds.1) (rest_after state moment request valid can);
}

pub stop-evicted : RequestsMayStopOnceEvicted
stop-evicted state moment request first others image valid evicts finds = record {
  sound = finds.0;
  left = subst (λ (rows : List Row). StopOutcome state moment request (step state moment request).state rows) (sym finds.1) (evictions-stop state moment request first others valid evicts);
}

pub kept-stop : KeptStatesMayStop
kept-stop state layout unlinked image k moment request = stop-before state moment request image k.valid (k.sound, kept-held state layout unlinked image k)

-- where the index is initialized, what is held is recovered
pub held-found : HeldIsFound
unfolding found
held-found rows image finds magic = let well = formed-of image finds.0 magic in (well, rw (well_formed-finished image well) finds.1)

pub held-found-along : HeldIsFoundAlong
held-found-along rows image steps quiet magic finds =
    let P : Image → Type 0 = Finds rows in
    let W : Image → Type 0 = KeepsSessionWords image in
    let B : Image → Type 0 = λ i. P i × W i in
    let R : Image → Type 0 = FindsFinished rows in
    let now : (i : Image) → B i → R i = λ i both. held-found rows i both.0 (both.1.magic ∙ magic) in
    until_weaker2 B R B R steps image now now (until_both P W P W steps image finds (quiet-words-kept steps image quiet))

pub finished-stop : FinishedFoldersMayStop
unfolding found
finished-stop state moment request image stops magic =
    let well = formed-of image stops.sound magic in
    record { well_formed = well; left = rw (well_formed-finished image well) stops.left }

pub finished-along : FinishedFoldersMayStopAlong
finished-along state moment request image steps quiet magic stops =
    let P : Image → Type 0 = MayStop state moment request in
    let W : Image → Type 0 = KeepsSessionWords image in
    let B : Image → Type 0 = λ i. P i × W i in
    let R : Image → Type 0 = MayStopFinished state moment request in
    let now : (i : Image) → B i → R i = λ i both. finished-stop state moment request i both.0 (both.1.magic ∙ magic) in
    until_weaker2 B R B R steps image now now (until_both P W P W steps image stops (quiet-words-kept steps image quiet))

-- ---- exits

same-image : (a b : Option Image) (image other : Image) → a ≡ b → a ≡ Some image → b ≡ Some other → image ≡ other
same-image a b image other same there is = let e : Some image ≡ Some other = sym there ∙ same ∙ is in inj e where
  inj : {x y : Image} → Some x ≡ Some y → x ≡ y
  inj {x} {y} e = ap (λ (o : Option Image). get o) e where
    get : Option Image → Image
    get None = image
    get (Some z) = z

pub nothing-stops : (keeps : State → Image → Type 0) → NothingMayStop keeps
nothing-stops keeps says told now moment request stays image there state k =
    let s = says state image k in
    passes_none (MayStop state moment request) stays (λ other is. subst (MayStop state moment request) (same-image told.files told.files image other refl there is) (kept-stop state s.0 s.1 image s.2 moment request))

pub nothing-done : (keeps : State → Image → Type 0) → NothingIsDone keeps
nothing-done keeps told now moment request answer stays holds image there state k =
    let p = holds image there state k in
    record {
      answered = p.1;
      kept = λ other is. subst (λ (s : State). keeps s other) (sym p.0) (subst (keeps state) (same-image told.files now.files image other (ap (λ (t : Told). t.files) (sym stays)) there is) k);
    }

pub refusals-done : (keeps : State → Image → Type 0) → RefusalsAreDone keeps
refusals-done keeps told now moment request why stays refuses =
    nothing-done keeps told now moment request _ stays (λ image there state k.
    let reply = refusal_from state moment request why (refuses image there state k) in
    ((refused_nothing state moment request why reply).state_stays, sym (ap answer_of reply)))

pub calls-stop : (keeps : State → Image → Type 0) → CallsMayStop keeps
calls-stop keeps says told now moment request passes image there state k =
    let s = says state image k in
    let weaker : (at : Image) → ForSome told.files (λ from. _) → MayStop state moment request at = λ at finds. stop-before state moment request at s.2.valid (finds image there state s.0 s.1 s.2) in
    passes_weaker passes weaker weaker

-- ---- requests that make the state no other

same-state : (moment : ℕ) (request : Request) (state : State) → evicted moment request state ≡ [] → ((s : State) → effect moment request s ≡ s) → (o : Option Refusal) → (outcome moment request state o).state ≡ state
unfolding outcome without
same-state moment request state none stays (Some why) = refl
same-state moment request state none stays None = rw none (stays state)

pub quiet-keep : QuietRequestsKeepTheState
unfolding step evicted effect
quiet-keep state moment handle stream = (
  same-state moment to_list state refl (λ s. refl) (refused moment to_list state),
  (same-state moment to_total state refl (λ s. refl) (refused moment to_total state), same-state moment (to_size handle stream) state refl (λ s. refl) (refused moment (to_size handle stream) state)),
)

-- the condition of a folder by itself, between two commands
pub some-says : SaysKept KeepsSome
some-says state image k = (k.0, [], k.1.entries)
