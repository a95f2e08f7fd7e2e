-- Answers of what prints.
use Rattle.std.specs.Prelude.{◌≡◌, ◌⊎◌, IsOk, Result, Ok, Err}
use Rattle.blk_cache.specs.declared.fault.StepFault.{StepFault}
use Rattle.blk_cache.specs.declared.fault.StepFault.TheVariants as fault

-- the answer is no error but that the output failed
abbrev pub IsOnlySink : {A : Type 0} → Result A StepFault → Type 0
IsOnlySink (Ok a) = Unit {0}
IsOnlySink (Err fault.Sink) = Unit {0}
IsOnlySink (Err fault.Device) = ⊥
IsOnlySink (Err (fault.Damaged damage)) = ⊥

-- the answer before and after the output was flushed: it is the same, or it was no error and the flush failed
abbrev pub IsFlushed : {A E : Type 0} → (before after : Result A E) → (sink : E) → (failed : Type 0) → Type 0
IsFlushed before after sink failed = (after ≡ before) ⊎ (IsOk before × ((after ≡ Err sink) × failed))
