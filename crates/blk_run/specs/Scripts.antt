-- Scripts that aren't read from the input, as the program has them.
use Rattle.std.specs.Prelude.{ℕ, ◌*◌, Bool, true, false, if◌then◌else◌, length, map, Result, Ok, Err}
use Rattle.blk_model.specs.Request.{request_of}
use Rattle.spec_run.specs.Script.{Script, put_script, until_refused}
use Rattle.blk_gen.specs.Generator.{gen_script}
use Rattle.blk_cache.specs.declared.fault.StepFault.{StepFault}
use Rattle.blk_cache.specs.declared.fault.StepFault.TheVariants as fault
use Rattle.blk_run.specs.declared.ending.Status.{Status}
use Rattle.blk_run.specs.declared.ending.Status.TheVariants as status
use Rattle.blk_run.specs.declared.scripts.Fixed.{Fixed}
use Rattle.blk_run.specs.declared.scripts.Fixed.TheVariants as fixed

-- the script of a fixed task: commands up to the first refusal, a put, or the generator
abbrev pub script_of : Fixed → Script
script_of (fixed.Commands commands) = until_refused (map request_of commands.now)
script_of (fixed.Put put) = put_script put.key.now put.stream put.bytes.now
script_of (fixed.Generated seed turns) = gen_script seed turns

-- how many commands a fixed script has at most
abbrev pub commands_in : Fixed → ℕ
commands_in (fixed.Commands commands) = length commands.now
commands_in (fixed.Put put) = 4
commands_in (fixed.Generated seed turns) = 5 * turns

-- the status after a fixed script with this answer, where something was refused or not; the closing that follows may still change it to an I/O error
abbrev pub script_status : Result (Unit {0}) StepFault → (refused : Bool) → Status
script_status (Ok done) refused = if refused then status.Refused else status.Ok
script_status (Err fault.Sink) refused = status.Sink
script_status (Err fault.Device) refused = status.Device
script_status (Err (fault.Damaged damage)) refused = status.Damaged

-- after this answer the handles and the folder are closed: unless the folder failed
abbrev pub closes_script : Result (Unit {0}) StepFault → Bool
closes_script (Ok done) = true
closes_script (Err fault.Sink) = true
closes_script (Err fault.Device) = false
closes_script (Err (fault.Damaged damage)) = false
