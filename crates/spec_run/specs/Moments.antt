-- What a crash leaves after some steps of a call that opens a folder and then makes commands in turn.
use Rattle.std.specs.Prelude.{ℕ, ◌≡◌, ◌+◌, Bool, true, false, List, [], ◌∷◌, ◌++◌}
use Rattle.std.specs.declared.option.Option.{Option}
use Rattle.std.specs.declared.option.Option.TheVariants.{None, Some}
use Rattle.spec_image.specs.Image.{Image}
use Rattle.spec_image.specs.Steps.{TrailStep, Word, SetLength, Delete, Note}
use Rattle.spec_image.specs.Notes.{notes_in}
use Rattle.spec_format.specs.BlockFiles.{IsUsable}
use Rattle.spec_format.specs.Headers.{IsUnfinished}
use Rattle.blk_model.specs.Items.{Row}
use Rattle.blk_model.specs.State.{State}
use Rattle.blk_model.specs.Holding.{rest}
use Rattle.blk_model.specs.Stops.{StopOutcome}
use Rattle.spec_folder.specs.Found.{found}
use Rattle.spec_folder.specs.StandsFor.{StandsFor}
use Rattle.spec_run.specs.Script.{is_refused}
use Rattle.spec_run.specs.Run.{Stamped, outcome_in, state_at, command_after}
use Rattle.spec_run.specs.Opening.{IsInSessionOf, close_mark, has_closed, has_opened, marks_closed, marks_open}

-- a step, after the steps before it, is a note, or the write that ends the opening: after it the folder represents a state
abbrev pub Completes : List TrailStep → TrailStep → Type 0
Completes before (Note number) = Unit {0}
Completes before (Word file place bytes) = (has_opened before ≡ false) × (marks_open (Word file place bytes) ≡ true)
Completes before (SetLength file length) = ⊥
Completes before (Delete file) = ⊥

-- what may be recovered after a crash where n commands are done: a crash outcome of the next one, or exactly the durable contents where there is none
abbrev pub IsLeftAt : State → List Stamped → ℕ → Option Stamped → List Row → Type 0
IsLeftAt opened commands n None rows = rows ≡ rest (state_at opened commands n)
IsLeftAt opened commands n (Some next) rows = StopOutcome (state_at opened commands n) next.moment next.request (state_at opened commands (n + 1)) rows

-- a step may be one of the command after n that are done: it doesn't end the session, and where the command is refused it is its note
pub record IsOfCommand (refused : Bool) (n : ℕ) (step : TrailStep) : Type 0 where
  pub goes_on : marks_closed step ≡ false
  pub note : refused ≡ true → step ≡ Note (n + 1)

-- which step may follow where n commands are done: one of the next command; and where there is none, the step that ends the session
abbrev pub MayFollow : State → List Stamped → ℕ → Option Stamped → TrailStep → Type 0
MayFollow opened commands n None step = step ≡ close_mark
MayFollow opened commands n (Some next) step = IsOfCommand (is_refused (outcome_in (state_at opened commands n) next)) n step

-- what may be recovered after a crash after these steps, where commands are made in turn from the state that was opened on what was found
pub record IsLeft (found : List Row) (opened : State) (commands : List Stamped) (steps : List TrailStep) (rows : List Row) : Type 0 where
  -- before the opening has ended the rows are those that were found
  pub opening : has_opened steps ≡ false → rows ≡ found
  -- later they are a crash outcome of the next command, and the durable contents where there is none
  pub later : has_opened steps ≡ true → IsLeftAt opened commands (notes_in steps) (command_after commands (notes_in steps)) rows
  -- directly after a note, and at the end of the opening, they are exactly the durable contents
  pub completed : (before : List TrailStep) (step : TrailStep) → steps ≡ before ++ step ∷ [] → Completes before step → rows ≡ rest (state_at opened commands (notes_in steps))

-- the folder as a crash after these steps may leave it, in a call that began with an image
pub record IsStopped (from : Image) (opened : State) (commands : List Stamped) (steps : List TrailStep) (image : Image) : Type 0 where
  -- the folder is uninitialized or well formed, and uninitialized only while it is being made
  pub usable : IsUsable image
  pub making : IsUnfinished image → IsUnfinished from × (has_opened steps ≡ false)
  -- its recovered contents are what a crash may leave
  pub left : IsLeft (found from) opened commands steps (found image)
  -- before the opening has ended no command is noted
  pub unnoted : has_opened steps ≡ false → notes_in steps ≡ 0
  -- at the end of the opening, and directly after each note, the folder represents the state
  pub stands : (before : List TrailStep) (step : TrailStep) → steps ≡ before ++ step ∷ [] → Completes before step → StandsFor image (state_at opened commands (notes_in steps))
  -- once the opening has ended, and until the step that ends the session, the crash word is 1 and the number of the session is that of the opening
  pub session : has_opened steps ≡ true → has_closed steps ≡ false → IsInSessionOf from image
  -- a step once the opening has ended is of the next command, and its note where that is refused; where there is none it ends the session: so a command that is
  -- refused makes no step but its note, and no command ends the session; a line that is no command is none of the commands, so what is made there is judged
  -- with the next one
  pub refused : (before : List TrailStep) (step : TrailStep) → steps ≡ before ++ step ∷ [] → has_opened before ≡ true
      → MayFollow opened commands (notes_in before) (command_after commands (notes_in before)) step
  -- the step that ends the session is the last
  pub last : (before : List TrailStep) (step : TrailStep) → steps ≡ before ++ step ∷ [] → has_opened before ≡ true → has_closed before ≡ false
