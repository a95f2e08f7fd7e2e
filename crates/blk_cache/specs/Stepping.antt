-- The contract of one step of a cache: a command, what it prints, and its completion marker.
use Rattle.std.specs.Prelude.{ℕ, Bool, List, OnOk, Result, Ok, Err, ◌≡◌, ◌+◌, ◌++◌, ◌∷◌, ◌⊎◌, [], IfOk, IfSome, is_some, position, true}
use Rattle.std.specs.Option.{ForSome, option_map}
use Rattle.std.specs.declared.option.Option.{Option}
use Rattle.spec_image.specs.Image.{Image}
use Rattle.spec_image.specs.Steps.{Note}
use Rattle.spec_image.specs.Told.{Told, Applies}
use Rattle.blk_io.specs.Streams.{Appends}
use Rattle.blk_io.specs.declared.fault.Damage.{Damage}
use Rattle.blk_io.specs.declared.fault.Fault.{Fault}
use Rattle.blk_io.specs.declared.fault.Fault.TheVariants as fault
use Rattle.blk_model.specs.declared.Answer.{Answer}
use Rattle.blk_model.specs.Reply.{answer_of}
use Rattle.blk_model.specs.Request.{Request, to_close}
use Rattle.blk_model.specs.State.{State}
use Rattle.blk_model.specs.Step.{Outcome, step}
use Rattle.law_state.specs.Commands.{ForKept, IsNoted, IsStepped, note_number}
use Rattle.blk_script.specs.Reply.{evicted_text, outcome_text}
use Rattle.spec_run.specs.Progress.{NotesCommand}
use Rattle.spec_run.specs.Run.{at_moment}
use Rattle.spec_run.specs.Script.{is_refused}
use Rattle.blk_cache.specs.declared.cache.Cache.{Cache}
use Rattle.blk_cache.specs.declared.fault.StepFault.{StepFault}
use Rattle.blk_cache.specs.declared.fault.StepFault.TheVariants as step_fault
use Rattle.blk_cache.specs.CacheKeeping.{HoldsState, KeepsState}
use Rattle.blk_cache.specs.CommandClauses.{CommandClause, SparesRefused, FlushesClean}
use Rattle.blk_evict.specs.RoomPrinting.{PrintsInPart, PrintsUnlessFailed}

-- Printed texts.

-- an output printed a text, unless it failed
abbrev pub Puts : {S : Type 0} → (failed_before failed : Bool) → (written : S → Option (List ℕ)) → (old new : S) → List ℕ → Type 0
Puts failed_before failed written old new = PrintsUnlessFailed failed_before failed (written old) (written new)

-- an output printed a prefix of a text
abbrev pub PutsPart : {S : Type 0} → (failed_before : Bool) → (written : S → Option (List ℕ)) → (old new : S) → List ℕ → Type 0
PutsPart failed_before written old new = PrintsInPart failed_before (written old) (written new)

-- the printed lines of what a command evicts, one for each item
abbrev pub evicted_first : Outcome → List ℕ
evicted_first outcome = evicted_text outcome.groups

-- the lines of what the command evicts were printed, unless the output failed, for each state that the cache kept before
abbrev pub SaysEvicted : Cache → Told → (moment : ℕ) → Request → (failed_before failed : Bool) → (old new : Option (List ℕ)) → Type 0
SaysEvicted cache told moment request failed_before failed old new = ForKept (HoldsState cache) told (λ state. PrintsUnlessFailed failed_before failed old new (evicted_first (step state moment request)))

-- a prefix of the lines of what the command evicts was printed, for each state that was kept before
abbrev pub SaysPrefix : (State → Image → Type 0) → Told → (moment : ℕ) → Request → (old new : Option (List ℕ)) → Type 0
SaysPrefix keeps told moment request old new = ForKept keeps told (λ state. Appends old new (evicted_first (step state moment request)))

-- on an Ok the lines of what the command evicts were printed, unless the output failed
abbrev pub SaidBy : {S : Type 0} → (failed_before failed : Bool) → (written : S → Option (List ℕ)) → (old new : S) → Result Answer Fault → CommandClause
SaidBy failed_before failed written old new result cache told moment request = OnOk result (SaysEvicted cache told moment request failed_before failed (written old) (written new))

-- a prefix of the lines of what the command evicts was printed
abbrev pub FrontBy : {S : Type 0} → (written : S → Option (List ℕ)) → (old new : S) → CommandClause
FrontBy written old new cache told moment request = SaysPrefix (HoldsState cache) told moment request (written old) (written new)

-- in each state that the cache keeps the command evicts nothing: no lines for it are right, whether the output failed or not
abbrev pub EvictsNoLines : CommandClause
EvictsNoLines cache told moment request = (failed : Bool) (written : Option (List ℕ)) → SaysEvicted cache told moment request failed failed written written

-- no lines yet are right: they are a prefix of the lines of what the command evicts
abbrev pub NoLinesYet : CommandClause
NoLinesYet cache told moment request = (written : Option (List ℕ)) → SaysPrefix (HoldsState cache) told moment request written written

-- Where the folder failed.

-- nothing of the reply was printed, and where the model refuses the command no step was made
pub record FailsBefore (keeps : State → Image → Type 0) (told now : Told) (moment : ℕ) (request : Request) (old new : Option (List ℕ)) : Type 0 where
  pub says : SaysPrefix keeps told moment request old new
  pub spares : SparesRefused keeps told now moment request

-- Answers.

-- the fault of a step that a failed call on the folder causes
abbrev pub of_step_fault : Fault → StepFault
of_step_fault fault.Device = step_fault.Device
of_step_fault (fault.Damaged damage) = step_fault.Damaged damage

-- where the command is done, P holds: it was answered, or only the output failed
abbrev pub IfDone : {A : Type 0} → Result A StepFault → Type 0 → Type 0
IfDone (Ok a) P = P
IfDone (Err step_fault.Sink) P = P
IfDone (Err step_fault.Device) P = Unit {0}
IfDone (Err (step_fault.Damaged damage)) P = Unit {0}

-- where the answer is that the output failed, P holds; any other answer is fine
abbrev pub IfSink : {A : Type 0} → Result A StepFault → Type 0 → Type 0
IfSink (Err step_fault.Sink) P = P
IfSink (Err step_fault.Device) P = Unit {0}
IfSink (Err (step_fault.Damaged damage)) P = Unit {0}
IfSink (Ok a) P = Unit {0}

-- where the answer is that the folder failed (an I/O error), P holds; any other answer is fine
abbrev pub IfStepDevice : {A : Type 0} → Result A StepFault → Type 0 → Type 0
IfStepDevice (Err step_fault.Device) P = P
IfStepDevice (Err step_fault.Sink) P = Unit {0}
IfStepDevice (Err (step_fault.Damaged damage)) P = Unit {0}
IfStepDevice (Ok a) P = Unit {0}

-- where the answer is a failed check, it has the property P; any other answer is fine
abbrev pub IfStepDamaged : {A : Type 0} → Result A StepFault → (Damage → Type 0) → Type 0
IfStepDamaged (Err (step_fault.Damaged damage)) P = P damage
IfStepDamaged (Err step_fault.Device) P = Unit {0}
IfStepDamaged (Err step_fault.Sink) P = Unit {0}
IfStepDamaged (Ok a) P = Unit {0}

-- What a step does: each of these takes what it left, and is a clause on what it found, in whatever state the cache kept.

-- on an Ok the answer is the model's
abbrev pub AnsweredBy : Result Answer StepFault → CommandClause
AnsweredBy result cache told moment request = IfOk result (λ answer. ForKept (KeepsState cache) told (λ state. answer ≡ answer_of (step state moment request).reply))

-- the new cache keeps the state after the command
abbrev pub KeptBy : (new : Cache) → (now : Told) → CommandClause
KeptBy new now cache told moment request = ForKept (KeepsState cache) told (λ state. ForSome now.files (KeepsState new (step state moment request).state))

-- the command is made in part with no note, or it is done, and the next note is the last step
abbrev pub SteppedBy : (now : Told) → CommandClause
SteppedBy now cache told moment request = ForKept (KeepsState cache) told (IsStepped told now moment request (note_number (cache.notes + 1)))

-- the command is done, and the next note is the last step
abbrev pub NotedBy : (now : Told) → CommandClause
NotedBy now cache told moment request = ForKept (KeepsState cache) told (IsNoted told now moment request (note_number (cache.notes + 1)))

-- where the model refuses the command, the next note is the only step
abbrev pub RefusedBy : (now : Told) → CommandClause
RefusedBy now cache told moment request = ForKept (KeepsState cache) told (λ state. is_refused (step state moment request) ≡ true → Applies told now (Note (note_number (cache.notes + 1)) ∷ []))

-- where the command is a Flush of a clean object, the next note is the only step
abbrev pub IdleBy : (now : Told) → CommandClause
IdleBy now cache told moment request = ForKept (KeepsState cache) told (λ state. FlushesClean state request → Applies told now (Note (note_number (cache.notes + 1)) ∷ []))

-- what the command evicts and its reply were printed
abbrev pub WrittenBy : {S : Type 0} → (written : S → Option (List ℕ)) → (old new : S) → CommandClause
WrittenBy written old new cache told moment request = ForKept (KeepsState cache) told (λ state. written new ≡ option_map (λ w. w ++ outcome_text (step state moment request)) (written old))

-- a prefix of the lines of what the command evicts and of its reply was printed
abbrev pub WritingBy : {S : Type 0} → (written : S → Option (List ℕ)) → (old new : S) → CommandClause
WritingBy written old new cache told moment request = ForKept (KeepsState cache) told (λ state. Appends (written old) (written new) (outcome_text (step state moment request)))

-- where the folder failed: nothing of the reply was printed, and no step was made of a command that the model refuses; or the command is done and noted, and
-- the note is the only step of one that the model refuses
abbrev pub UnansweredBy : {S : Type 0} → (now : Told) → (written : S → Option (List ℕ)) → (old new : S) → Result Answer StepFault → CommandClause
UnansweredBy now written old new result cache told moment request =
    IfStepDevice result (FailsBefore (KeepsState cache) told now moment request (written old) (written new) ⊎ ForKept (KeepsState cache) told (NotesCommand told now (at_moment moment request) (note_number (cache.notes + 1))))

-- P holds of the Close of the least handle name that is bound, if any is
abbrev pub ForNextClose : Cache → Told → (moment : ℕ) → CommandClause → Type 0
ForNextClose cache told moment P = IfSome (position is_some cache.handles) (λ handle. P cache told moment (to_close handle))
