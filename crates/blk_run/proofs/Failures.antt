-- A check that fails is handed on.
use Rattle.std.proofs.Common.{ℕ, inr, List, Option, Result, Ok, Err}
use Rattle.std.specs.Option.{ForSome}
use Rattle.spec_image.specs.Told.{Told}
use Rattle.blk_io.proofs.Carried.{untold_where}
use Rattle.blk_disk.specs.declared.tables.BlockFiles.{BlockFiles}
use Rattle.blk_object.specs.FailedChecks.{IsFailedCheck}
use Rattle.blk_cache.specs.declared.fault.StepFault.{StepFault}
use Rattle.blk_cache.specs.declared.fault.StepFault.TheVariants as step_fault
use Rattle.blk_cache.specs.Stepping.{IfStepDamaged}
use Rattle.blk_run.specs.Failing.{IsDamagedRun, IsFailedSomewhere}

-- a check fails by the tables of a cache
pub fails_somewhere : {A : Type 0} (r : Result A StepFault) (files : BlockFiles) (told : Told) → IfStepDamaged r (IsFailedCheck files told) → IfStepDamaged r (λ _. IsFailedSomewhere told)
fails_somewhere (Ok a) files told fails = tt
fails_somewhere (Err step_fault.Sink) files told fails = tt
fails_somewhere (Err step_fault.Device) files told fails = tt
fails_somewhere (Err (step_fault.Damaged damage)) files told fails = (damage, record { files = files; fails = fails })

-- a check fails after an opening, which an observable folder never comes to
pub fails_behind : (start final : Told) (w_old w_new : Option (List ℕ)) (before now : ℕ) → ForSome start.files (λ from. ⊥) → IsFailedSomewhere final → IsDamagedRun start final w_old w_new before now
fails_behind start final w_old w_new before now never fails = inr (record { untold = untold_where start.files never; fails = fails })
