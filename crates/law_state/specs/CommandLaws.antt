-- The laws of commands, for every request.
use Rattle.std.specs.Prelude.{◌≡◌, ℕ, List, [], Some}
use Rattle.std.specs.Option.{ForSome}
use Rattle.spec_image.specs.Image.{Image}
use Rattle.spec_image.specs.Told.{Passes, Stays, Told}
use Rattle.blk_model.specs.EvictionLaws.{EvictsFirst}
use Rattle.blk_model.specs.declared.Answer.{Answer}
use Rattle.blk_model.specs.declared.Answer.TheVariants as answer
use Rattle.blk_model.specs.declared.Refusal.{Refusal}
use Rattle.blk_model.specs.Holding.{rest}
use Rattle.blk_model.specs.Refusals.{refused}
use Rattle.blk_model.specs.Reply.{answer_of}
use Rattle.blk_model.specs.Request.{IsRequest, Request, to_list, to_size, to_total}
use Rattle.blk_model.specs.Room.{Group, without}
use Rattle.blk_model.specs.State.{State, IsValidState}
use Rattle.blk_model.specs.Step.{step}
use Rattle.spec_folder.specs.Layout.{Layout}
use Rattle.law_state.specs.Keeping.{KeepsUncounted}
use Rattle.law_state.specs.Changes.{Finds, StillFinds}
use Rattle.law_state.specs.Commands.{Does, ForKept, MayStop, MayStopAtEach}

-- Crashes.

-- a request may crash where the durable contents before it are held
abbrev pub RequestsMayStopBefore : Type 0
RequestsMayStopBefore = (state : State) (moment : ℕ) (request : Request) (image : Image) → IsValidState state → Finds (rest state) image → MayStop state moment request image

-- a request may crash where the durable contents after it are held
abbrev pub RequestsMayStopAfter : Type 0
RequestsMayStopAfter = (state : State) (moment : ℕ) (request : Request) (image : Image) → IsValidState state → IsRequest request → Finds (rest (step state moment request).state) image → MayStop state moment request image

-- a request may crash once its first eviction units are evicted, where the durable contents without them are held
abbrev pub RequestsMayStopOnceEvicted : Type 0
RequestsMayStopOnceEvicted = (state : State) (moment : ℕ) (request : Request) (first others : List Group) (image : Image) → IsValidState state → EvictsFirst state moment request first others → Finds (rest (without first state)) image → MayStop state moment request image

-- a request may crash before its first word, where its state is kept
abbrev pub KeptStatesMayStop : Type 0
KeptStatesMayStop = (state : State) (layout : Layout) (unlinked : List ℕ) (image : Image) → KeepsUncounted state layout unlinked image → (moment : ℕ) (request : Request) → MayStop state moment request image

-- Exits.

-- the cache's condition says at least that a state is kept by some layout, with some words unlinked
abbrev pub SaysKept : (State → Image → Type 0) → Type 0
SaysKept keeps = (state : State) (image : Image) → keeps state image → (layout : Layout) × (unlinked : List ℕ) × KeepsUncounted state layout unlinked image

-- a request of which no step was made may crash
abbrev pub NothingMayStop : (keeps : State → Image → Type 0) → Type 0
NothingMayStop keeps = SaysKept keeps → (told now : Told) (moment : ℕ) (request : Request) → Stays told now → MayStopAtEach keeps told now moment request

-- a request that leaves the state as it is, and whose answer is the model's, is done without a step
abbrev pub NothingIsDone : (keeps : State → Image → Type 0) → Type 0
NothingIsDone keeps = (told now : Told) (moment : ℕ) (request : Request) (answer : Answer) → Stays told now
    → ForKept keeps told (λ state. ((step state moment request).state ≡ state) × (answer ≡ answer_of (step state moment request).reply)) → Does keeps keeps told now moment request answer

-- a refusal is done without a step
abbrev pub RefusalsAreDone : (keeps : State → Image → Type 0) → Type 0
RefusalsAreDone keeps = (told now : Told) (moment : ℕ) (request : Request) (why : Refusal) → Stays told now → ForKept keeps told (λ state. refused moment request state ≡ Some why) → Does keeps keeps told now moment request (answer.Refused why)

-- List, Total and Size leave the state as it is
abbrev pub QuietRequestsKeepTheState : Type 0
QuietRequestsKeepTheState = (state : State) (moment handle stream : ℕ) → ((step state moment to_list).state ≡ state) × (((step state moment to_total).state ≡ state) × ((step state moment (to_size handle stream)).state ≡ state))

-- a call after each of whose words the old durable contents are still held may crash at each
abbrev pub CallsMayStop : (keeps : State → Image → Type 0) → Type 0
CallsMayStop keeps = SaysKept keeps → (told now : Told) (moment : ℕ) (request : Request) → Passes told now (λ image. ForSome told.files (λ from. StillFinds [] from image)) → MayStopAtEach keeps told now moment request
