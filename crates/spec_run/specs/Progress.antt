-- How far a run has come, and that its steps so far leave what they may.
use Rattle.std.specs.Prelude.{ℕ, ◌≡◌, ◌≤◌, ◌+◌, ◌⊎◌, List, [], ◌∷◌, ◌++◌, length, true, false}
use Rattle.std.specs.Option.{ForSome}
use Rattle.spec_image.specs.Image.{Image}
use Rattle.spec_image.specs.Steps.{TrailStep, Note}
use Rattle.spec_image.specs.Told.{Told, Applies, Passes, Stays}
use Rattle.spec_image.specs.Notes.{AlongFrom, AtEachPrefix, AreTrue, notes_in}
use Rattle.blk_model.specs.Holding.{rest}
use Rattle.blk_model.specs.State.{State}
use Rattle.law_state.specs.Commands.{IsNoted, MayStop}
use Rattle.spec_folder.specs.Found.{found}
use Rattle.spec_folder.specs.StandsFor.{StandsFor}
use Rattle.spec_run.specs.Script.{is_refused}
use Rattle.spec_run.specs.Run.{Stamped, outcome_in, state_after, state_then}
use Rattle.spec_run.specs.Moments.{IsStopped}
use Rattle.spec_run.specs.Opening.{IsInSessionOf, has_closed, has_opened}

-- the steps of a call that began with an image, where commands are made in turn: after each prefix of them the folder is as a crash may leave it, and the notes
-- are true and no more than the commands
pub record Stops (from : Image) (opened : State) (commands : List Stamped) (old new : Told) : Type 0 where
  pub steps : List TrailStep
  pub applies : Applies old new steps
  pub stops : AtEachPrefix (IsStopped from opened commands) from steps
  pub notes : AreTrue 0 steps
  pub few : notes_in steps ≤ length commands

-- a run that broke off as in `Stops`, with exactly so many notes among its steps
pub record StopsAfter (from : Image) (opened : State) (commands : List Stamped) (noted : ℕ) (old new : Told) : Type 0 where
  pub stops : Stops from opened commands old new
  pub count : notes_in stops.steps ≡ noted

-- a run that broke off as in `Stops`, with at least so many notes among its steps
pub record StopsPast (from : Image) (opened : State) (commands : List Stamped) (noted : ℕ) (old new : Told) : Type 0 where
  pub stops : Stops from opened commands old new
  pub count : noted ≤ notes_in stops.steps

-- a whole run: the folder was opened, each command has its note, and in the end the durable contents after them are recovered
pub record IsWholeRun (from : Image) (opened : State) (commands : List Stamped) (old new : Told) : Type 0 where
  pub stops : Stops from opened commands old new
  pub opens : has_opened stops.steps ≡ true
  pub noted : notes_in stops.steps ≡ length commands
  pub holds : ForSome new.files (λ image. found image ≡ rest (state_after opened commands))

-- since a call began with an image the folder was opened and these commands are done: whatever commands follow, after each prefix of the steps the folder is as
-- a crash may leave it, and now it represents the state after the commands, in the session that was opened and has not ended
pub record Progress (from : Image) (opened : State) (done : List Stamped) (old new : Told) : Type 0 where
  pub steps : List TrailStep
  pub applies : Applies old new steps
  pub opens : has_opened steps ≡ true
  pub goes_on : has_closed steps ≡ false
  pub noted : notes_in steps ≡ length done
  pub notes : AreTrue 0 steps
  pub stands : ForSome new.files (λ image. StandsFor image (state_after opened done))
  pub session : ForSome new.files (IsInSessionOf from)
  pub along : (commands more : List Stamped) → commands ≡ done ++ more → AlongFrom (IsStopped from opened commands) [] from steps

-- a command is done and noted; where it is refused it makes its note alone
pub record NotesCommand (old new : Told) (command : Stamped) (number : ℕ) (state : State) : Type 0 where
  pub noted : IsNoted old new command.moment command.request number state
  pub alone : is_refused (outcome_in state command) ≡ true → Applies old new (Note number ∷ [])

-- a command is made in part, with no note; where it is refused it makes no step
pub record BreaksOffIn (old new : Told) (command : Stamped) (state : State) : Type 0 where
  pub passes : Passes old new (MayStop state command.moment command.request)
  pub untouched : is_refused (outcome_in state command) ≡ true → Stays old new

-- a command is made in part, with no note, or it is done and noted
abbrev pub MakesCommand : (old new : Told) → Stamped → (number : ℕ) → State → Type 0
MakesCommand old new command number state = BreaksOffIn old new command state ⊎ NotesCommand old new command number state

-- commands were done in turn from a state, each noted, the first with this number
abbrev pub AreNoted : Told → Told → State → ℕ → List Stamped → Type 0
AreNoted old new state number [] = Stays old new
AreNoted old new state number (command ∷ commands) =
    (mid : Told) × NotesCommand old mid command number state × AreNoted mid new (state_then state command) (number + 1) commands
