-- How the calls of a command follow each other, and how it ends; the cache's own condition is a parameter.
use Rattle.std.specs.Prelude.{◌≡◌, ℕ, List, [], ◌∷◌, ◌++◌, None, Option}
use Rattle.std.specs.Option.{ForSome}
use Rattle.spec_image.specs.Image.{Image}
use Rattle.spec_image.specs.Steps.{Note}
use Rattle.spec_image.specs.Told.{Applies, Passes, Told}
use Rattle.blk_model.specs.Effects.{effect}
use Rattle.blk_model.specs.Holding.{rest}
use Rattle.blk_model.specs.Items.{Row}
use Rattle.blk_model.specs.Refusals.{evicted, refused}
use Rattle.blk_model.specs.Reply.{answer_of}
use Rattle.blk_model.specs.Request.{IsRequest, Request}
use Rattle.blk_model.specs.State.{State, IsValidState}
use Rattle.blk_model.specs.Step.{reply, step}
use Rattle.blk_model.specs.declared.Answer.{Answer}
use Rattle.spec_folder.specs.Layout.{Layout}
use Rattle.spec_folder.specs.StandsFor.{StandsFor}
use Rattle.law_state.specs.Changes.{Finds, KeepsWith, StillFinds}
use Rattle.law_state.specs.Commands.{Does, ForKept, IsStepped, MayStop}
use Rattle.law_state.specs.CommandStates.{MayLeave, with_names, with_room}
use Rattle.law_state.specs.Keeping.{Keeps, KeepsUncounted}

-- Stages.

-- between two calls of a request, with these words unlinked and maybe more: the folder keeps a state, and the durable contents in it are a crash outcome of the
-- request
pub record IsAtStage (words : List ℕ) (state : State) (moment : ℕ) (request : Request) (image : Image) : Type 0 where
  pub inner : State
  pub layout : Layout
  pub unlinked : List ℕ
  pub kept : KeepsUncounted inner layout (words ++ unlinked) image
  pub left : MayLeave state moment request (rest inner)

-- the headers are valid, and what is held is a crash outcome of the request
pub record FindsLeft (state : State) (moment : ℕ) (request : Request) (image : Image) : Type 0 where
  pub held : List Row
  pub left : MayLeave state moment request held
  pub finds : Finds held image

-- from now to later the request may crash at each word, whatever state was kept before it began; with `told` as `now` this is `MayStopAtEach`
abbrev pub MayStopBetween : (State → Image → Type 0) → (told now later : Told) → ℕ → Request → Type 0
MayStopBetween keeps told now later moment request = ForKept keeps told (λ state. Passes now later (MayStop state moment request))

-- a call that keeps states leads from one stage to the next
abbrev pub StagesGoOn : Type 0
StagesGoOn = (before after : List ℕ) (state : State) (moment : ℕ) (request : Request) (from image : Image) → KeepsWith before after from image → IsAtStage before state moment request from → IsAtStage after state moment request image

-- at a stage, a call after each of whose words the old durable contents are held may crash at each
abbrev pub StagesMayStop : (keeps : State → Image → Type 0) → Type 0
StagesMayStop keeps = (told now later : Told) (moment : ℕ) (request : Request) (words : List ℕ) → ForKept keeps told (λ state. ForSome now.files (IsAtStage words state moment request))
    → Passes now later (λ image. ForSome now.files (λ from. StillFinds words from image)) → MayStopBetween keeps told now later moment request

-- a call at each of whose words a crash outcome of the request is held may crash at each
abbrev pub WhatIsFoundMayStop : (keeps : State → Image → Type 0) → Type 0
WhatIsFoundMayStop keeps = (told now later : Told) (moment : ℕ) (request : Request) → ForKept keeps told (λ state. Passes now later (FindsLeft state moment request)) → MayStopBetween keeps told now later moment request

-- a request may crash at each word of two calls, one after the other, if it may at each word of either; the second may have failed
abbrev pub CallsFollow : (keeps : State → Image → Type 0) → Type 0
CallsFollow keeps = (told now later last : Told) (moment : ℕ) (request : Request) → MayStopBetween keeps told now later moment request → MayStopBetween keeps told later last moment request → MayStopBetween keeps told now last moment request

-- Ends.

-- the state after a request is kept where it is that of a kept state with other handle names
abbrev pub EndsAreKept : Type 0
EndsAreKept = (state inner : State) (moment : ℕ) (request : Request) (names : List (Option ℕ)) (layout : Layout) (unlinked : List ℕ) (image : Image) → IsValidState state → IsRequest request → (step state moment request).state ≡ with_names names inner
    → Keeps inner layout unlinked image → Keeps (step state moment request).state layout unlinked image

-- a request isn't refused, its answer is the model's, and its effect is kept
pub record HasEffect (keeps : State → Image → Type 0) (now : Told) (moment : ℕ) (request : Request) (answer : Answer) (state : State) : Type 0 where
  pub passes : refused moment request state ≡ None
  pub answered : answer ≡ answer_of (reply request (evicted moment request state) state)
  pub kept : ForSome now.files (keeps (effect moment request (with_room state moment request)))

-- a request whose answer is the model's, and whose effect is kept, is done
abbrev pub EffectsAreDone : (keeps : State → Image → Type 0) → Type 0
EffectsAreDone keeps = (told now : Told) (moment : ℕ) (request : Request) (answer : Answer) → ForKept keeps told (HasEffect keeps now moment request answer) → Does keeps keeps told now moment request answer

-- a request that may crash at each word, and after which the folder represents the state after it, is made whole once its note is made
abbrev pub NotesEndSteps : Type 0
NotesEndSteps = (told done now : Told) (moment : ℕ) (request : Request) (number : ℕ) (state : State) → Passes told done (MayStop state moment request) → ForSome done.files (λ image. StandsFor image (step state moment request).state)
    → Applies done now (Note number ∷ []) → IsStepped told now moment request number state
