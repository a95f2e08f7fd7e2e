-- The closing of all handles in use at the end of a run.
use Rattle.std.specs.Prelude.{ℕ, ◌≡◌, List, ◌++◌, length, Result, Ok, Err}
use Rattle.std.specs.Option.{option_map, ForSome}
use Rattle.std.specs.declared.option.Option.{Option}
use Rattle.spec_image.specs.Image.{Image}
use Rattle.spec_image.specs.Told.{Told}
use Rattle.blk_io.specs.Streams.{Readings}
use Rattle.blk_io.specs.declared.fault.Fault.{Fault}
use Rattle.blk_io.specs.declared.fault.Fault.TheVariants as fault
use Rattle.blk_model.specs.State.{State}
use Rattle.spec_run.specs.Run.{Stamped, bound_names, clock_after, closings}
use Rattle.spec_run.specs.Progress.{StopsPast}
use Rattle.blk_run.specs.Playing.{SoFar, StandsAt, state_now, with_more}

-- the commands were done after those of the run, each at the next reading of the clock
pub record AreClosed (commands : List Stamped) (far : SoFar) (keeps : State → Image → Type 0) (notes left : ℕ) (now : Told) (clock_old clock_new : Option Readings) : Type 0 where
  pub stands : StandsAt (with_more far commands) keeps notes left now
  pub read : clock_new ≡ option_map (λ r. clock_after r (length commands)) clock_old

-- the outcome of closing: the commands were done; at an I/O error the folder is as a crash during them may leave it, with all commands before them noted; an
-- observable folder reports no failed check
abbrev pub Closes : Result (Unit {0}) Fault → List Stamped → SoFar → (State → Image → Type 0) → (notes left : ℕ) → Told → (clock_old clock_new : Option Readings) → Type 0
Closes (Ok done) commands far keeps notes left now clock_old clock_new = AreClosed commands far keeps notes left now clock_old clock_new
Closes (Err fault.Device) commands far keeps notes left now clock_old clock_new = StopsPast far.from far.opened (far.done ++ commands) (length far.done) far.start now
Closes (Err (fault.Damaged damage)) commands far keeps notes left now clock_old clock_new = ⊥

-- a Close of each handle in use, the least first, and its outcome
pub record ClosesAll (result : Result (Unit {0}) Fault) (far : SoFar) (keeps : State → Image → Type 0) (notes left : ℕ) (now : Told) (clock_old clock_new : Option Readings) : Type 0 where
  pub commands : List Stamped
  pub are : ForSome clock_old (λ r. commands ≡ closings (bound_names (state_now far)) r)
  pub closes : Closes result commands far keeps notes left now clock_old clock_new
