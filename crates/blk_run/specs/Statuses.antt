-- The status of a session, and the cause of each status.
use Rattle.std.specs.Prelude.{Bool, true, false, if◌then◌else◌, Result, Ok, Err}
use Rattle.blk_cache.specs.declared.fault.StepFault.{StepFault}
use Rattle.blk_cache.specs.declared.fault.StepFault.TheVariants as fault
use Rattle.blk_run.specs.declared.ending.Status.{Status}
use Rattle.blk_run.specs.declared.ending.Status.TheVariants as status
use Rattle.blk_run.specs.declared.input.InputEnd.{InputEnd}
use Rattle.blk_run.specs.declared.input.InputEnd.TheVariants as end

-- the status after an input with this end, where something was refused or not; the closing that follows may still change it to an I/O error
abbrev pub status_after : Result InputEnd StepFault → (refused : Bool) → Status
status_after (Ok end.Whole) refused = if refused then status.Refused else status.Ok
status_after (Ok end.Failed) refused = status.Source
status_after (Ok end.TooLong) refused = status.TooLong
status_after (Err fault.Sink) refused = status.Sink
status_after (Err fault.Device) refused = status.Device
status_after (Err (fault.Damaged damage)) refused = status.Damaged

-- after this end of an input the handles and the folder are closed: unless the folder failed, or a check of it
abbrev pub may_close : Result InputEnd StepFault → Bool
may_close (Ok ended) = true
may_close (Err fault.Sink) = true
may_close (Err fault.Device) = false
may_close (Err (fault.Damaged damage)) = false

-- P holds of a session, or of a script, that was played to its end: with status 0 or 1
abbrev pub IfWhole : Status → Type 0 → Type 0
IfWhole status.Ok P = P
IfWhole status.Refused P = P
IfWhole _ P = Unit {0}

-- the cause of each status: a failed check; a raised error counter of folder, input or output; an input longer than the input limit. Out of memory has none
abbrev pub CauseOf : Status → (damaged device source sink long : Type 0) → Type 0
CauseOf status.Ok damaged device source sink long = Unit {0}
CauseOf status.Refused damaged device source sink long = Unit {0}
CauseOf status.Words damaged device source sink long = ⊥
CauseOf status.Device damaged device source sink long = device
CauseOf status.Source damaged device source sink long = source
CauseOf status.Sink damaged device source sink long = sink
CauseOf status.Memory damaged device source sink long = Unit {0}
CauseOf status.Damaged damaged device source sink long = damaged
CauseOf status.TooLong damaged device source sink long = long
