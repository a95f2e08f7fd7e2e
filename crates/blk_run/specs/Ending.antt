-- The end of a run: all handles in use are closed, and then the folder.
use Rattle.std.specs.Prelude.{◌≡◌, List, ◌++◌, length, Result, Ok, Err}
use Rattle.std.specs.Option.{option_map, ForSome}
use Rattle.std.specs.declared.option.Option.{Option}
use Rattle.spec_image.specs.Told.{Told}
use Rattle.blk_io.specs.Streams.{Readings}
use Rattle.blk_io.specs.declared.fault.Fault.{Fault}
use Rattle.blk_io.specs.declared.fault.Fault.TheVariants as fault
use Rattle.blk_model.specs.Holding.{rest}
use Rattle.spec_folder.specs.Found.{found}
use Rattle.spec_run.specs.Run.{Stamped, bound_names, clock_after, closings, state_after}
use Rattle.spec_run.specs.Progress.{IsWholeRun, StopsPast}
use Rattle.blk_cache.specs.Opening.{EndsSession}
use Rattle.blk_run.specs.Playing.{SoFar, state_now}

-- the commands were done after those of the run, and the folder was closed: recovery gives the durable contents after all commands, and the folder is
-- consistent with no open session
pub record HasClosedAll (commands : List Stamped) (far : SoFar) (new : Told) (clock_old clock_new : Option Readings) : Type 0 where
  pub whole : IsWholeRun far.from far.opened (far.done ++ commands) far.start new
  pub holds : ForSome new.files (λ image. found image ≡ rest (state_after far.opened (far.done ++ commands)))
  pub ends : ForSome new.files EndsSession
  pub read : clock_new ≡ option_map (λ r. clock_after r (length commands)) clock_old

-- the outcome of the end of a run: all was closed; at an I/O error the folder is as a crash during it may leave it, with all commands before the closings
-- noted; an observable folder reports no failed check
abbrev pub ClosesBy : Result (Unit {0}) Fault → List Stamped → SoFar → Told → (clock_old clock_new : Option Readings) → Type 0
ClosesBy (Ok done) commands far new clock_old clock_new = HasClosedAll commands far new clock_old clock_new
ClosesBy (Err fault.Device) commands far new clock_old clock_new = StopsPast far.from far.opened (far.done ++ commands) (length far.done) far.start new
ClosesBy (Err (fault.Damaged damage)) commands far new clock_old clock_new = ⊥

-- a Close of each handle in use, the least first, then the closing of the folder, and the outcome
pub record EndsRun (result : Result (Unit {0}) Fault) (far : SoFar) (new : Told) (clock_old clock_new : Option Readings) : Type 0 where
  pub commands : List Stamped
  pub are : ForSome clock_old (λ r. commands ≡ closings (bound_names (state_now far)) r)
  pub closes : ClosesBy result commands far new clock_old clock_new
