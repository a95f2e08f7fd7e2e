-- A status that isn't that of out of memory.
use Rattle.std.proofs.Common.{◌≡◌, Bool, true, false, Result, Ok, Err, refl, sym, ap, ◌∙◌}
use Rattle.blk_cache.specs.declared.fault.StepFault.{StepFault}
use Rattle.blk_cache.specs.declared.fault.StepFault.TheVariants as fault
use Rattle.blk_run.specs.declared.ending.Status.{Status}
use Rattle.blk_run.specs.declared.ending.Status.TheVariants as status
use Rattle.blk_run.specs.declared.input.InputEnd.{InputEnd}
use Rattle.blk_run.specs.declared.input.InputEnd.TheVariants as end
use Rattle.blk_run.specs.Scripts.{script_status}
use Rattle.blk_run.specs.Statuses.{status_after}

abbrev is_memory : Status → Bool
is_memory status.Memory = true
is_memory _ = false

pub not_memory : (s : Status) → is_memory s ≡ false → s ≡ status.Memory → ⊥
not_memory s other is = clash (sym (ap is_memory is) ∙ other)
  where
    clash : true ≡ false → ⊥
    clash c = cc

-- one by which an input came to its end
pub session_memory : (r : Result InputEnd StepFault) (refused : Bool) → status_after r refused ≡ status.Memory → ⊥
session_memory (Ok end.Whole) true is = not_memory status.Refused refl is
session_memory (Ok end.Whole) false is = not_memory status.Ok refl is
session_memory (Ok end.Failed) refused is = not_memory status.Source refl is
session_memory (Ok end.TooLong) refused is = not_memory status.TooLong refl is
session_memory (Err fault.Sink) refused is = not_memory status.Sink refl is
session_memory (Err fault.Device) refused is = not_memory status.Device refl is
session_memory (Err (fault.Damaged damage)) refused is = not_memory status.Damaged refl is

-- one by which a script did
pub script_memory : (r : Result (Unit {0}) StepFault) (refused : Bool) → script_status r refused ≡ status.Memory → ⊥
script_memory (Ok done) true is = not_memory status.Refused refl is
script_memory (Ok done) false is = not_memory status.Ok refl is
script_memory (Err fault.Sink) refused is = not_memory status.Sink refl is
script_memory (Err fault.Device) refused is = not_memory status.Device refl is
script_memory (Err (fault.Damaged damage)) refused is = not_memory status.Damaged refl is
