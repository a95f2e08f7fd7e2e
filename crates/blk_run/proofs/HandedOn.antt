-- Where all is done nothing waits.
use Rattle.std.proofs.Common.{Bool, true, false, Result, Ok, Err}
use Rattle.std.specs.Prelude.{OnOk}
use Rattle.blk_cache.specs.declared.fault.StepFault.{StepFault}
use Rattle.blk_cache.specs.declared.fault.StepFault.TheVariants as fault
use Rattle.blk_run.specs.declared.input.InputEnd.{InputEnd}
use Rattle.blk_run.specs.declared.input.InputEnd.TheVariants as end
use Rattle.blk_run.specs.Scripts.{script_status}
use Rattle.blk_run.specs.Statuses.{IfWhole, status_after}

-- what holds where an input was played holds where all was done
pub session_whole : (P : Type 0) (r : Result InputEnd StepFault) (refused : Bool) → OnOk r P → IfWhole (status_after r refused) P
session_whole P (Ok end.Whole) true holds = holds
session_whole P (Ok end.Whole) false holds = holds
session_whole P (Ok end.Failed) refused holds = tt
session_whole P (Ok end.TooLong) refused holds = tt
session_whole P (Err fault.Sink) refused holds = tt
session_whole P (Err fault.Device) refused holds = tt
session_whole P (Err (fault.Damaged damage)) refused holds = tt

-- and so of a script
pub script_whole : (P : Type 0) (r : Result (Unit {0}) StepFault) (refused : Bool) → OnOk r P → IfWhole (script_status r refused) P
script_whole P (Ok done) true holds = holds
script_whole P (Ok done) false holds = holds
script_whole P (Err fault.Sink) refused holds = tt
script_whole P (Err fault.Device) refused holds = tt
script_whole P (Err (fault.Damaged damage)) refused holds = tt
