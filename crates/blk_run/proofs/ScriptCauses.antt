-- The cause of how a fixed script ended, and that an observable folder reports no corruption.
use Rattle.std.proofs.Common.{ℕ, ◌≤◌, ◌≡◌, ◌≢◌, ◌⊎◌, inl, inr, Bool, true, false, List, Result, Ok, Err, sym, ◌∙◌, subst, arith}
use Rattle.std.specs.Prelude.{if◌then◌else◌}
use Rattle.spec_image.specs.Image.{Image}
use Rattle.spec_image.specs.Told.{Rises}
use Rattle.blk_io.specs.Streams.{Readings}
use Rattle.blk_model.specs.State.{State}
use Rattle.spec_run.specs.Run.{Turn}
use Rattle.blk_cache.specs.declared.fault.StepFault.{StepFault}
use Rattle.blk_cache.specs.declared.fault.StepFault.TheVariants as step_fault
use Rattle.blk_cache.specs.Stepping.{IfDone, IfSink, IfStepDamaged, IfStepDevice}
use Rattle.blk_run.specs.declared.ending.Status.{Status}
use Rattle.blk_run.specs.declared.ending.Status.TheVariants as status
use Rattle.blk_run.specs.Playing.{Around, PlaysPart, SoFar, StandsAt}
use Rattle.blk_run.specs.Scripts.{closes_script, script_status}
use Rattle.blk_run.specs.Statuses.{CauseOf}

no_true : false ≡ true → ⊥
no_true e = cc

cause_of_result : (r : Result (Unit {0}) StepFault) (refused : Bool) (damaged device sink : Type 0) → IfStepDamaged r (λ _. damaged) → IfStepDevice r device → IfSink r sink → CauseOf (script_status r refused) damaged device ⊥ sink ⊥
cause_of_result (Ok done) true damaged device sink c d k = tt
cause_of_result (Ok done) false damaged device sink c d k = tt
cause_of_result (Err step_fault.Sink) refused damaged device sink c d k = k
cause_of_result (Err step_fault.Device) refused damaged device sink c d k = d
cause_of_result (Err (step_fault.Damaged damage)) refused damaged device sink c d k = c

-- of how a script came to an end
pub script_cause : (s : Status) (r : Result (Unit {0}) StepFault) (refused : Bool) (damaged device sink : Type 0) → s ≡ script_status r refused → IfStepDamaged r (λ _. damaged) → IfStepDevice r device → IfSink r sink → CauseOf s damaged device ⊥ sink ⊥
script_cause s r refused damaged device sink is c d k = subst (λ (x : Status). CauseOf x damaged device ⊥ sink ⊥) (sym is) (cause_of_result r refused damaged device sink c d k)

-- a count that rose before has risen since
pub rises_until : (a b c : ℕ) → b ≤ c → Rises a b → Rises a c
rises_until a b c less rises few = let r = rises (omega (arith, less, few)) in omega (arith, r, less)

-- what is played reports no corruption
pub script_undamaged_status : (r : Result (Unit {0}) StepFault) (refused : Bool) (s : Status) (part : State → Readings → List Turn) (far : SoFar) (keeps : State → Image → Type 0) (notes left : ℕ) (old new : Around) → s ≡ script_status r refused
    → PlaysPart r part far keeps notes left old new → s ≢ status.Damaged
script_undamaged_status r refused s part far keeps notes left old new is plays damaged = by_result r plays (sym is ∙ damaged)
  where
    ok_clash : status.Ok ≡ status.Damaged → ⊥
    ok_clash e = cc

    refused_clash : status.Refused ≡ status.Damaged → ⊥
    refused_clash e = cc

    sink_clash : status.Sink ≡ status.Damaged → ⊥
    sink_clash e = cc

    device_clash : status.Device ≡ status.Damaged → ⊥
    device_clash e = cc

    either : (b : Bool) → (if b then status.Refused else status.Ok) ≡ status.Damaged → ⊥
    either true e = refused_clash e
    either false e = ok_clash e

    by_result : (q : Result (Unit {0}) StepFault) → PlaysPart q part far keeps notes left old new → script_status q refused ≡ status.Damaged → ⊥
    by_result (Ok done) p e = either refused e
    by_result (Err step_fault.Sink) p e = sink_clash e
    by_result (Err step_fault.Device) p e = device_clash e
    by_result (Err (step_fault.Damaged damage)) p e = p.plays

-- where what is open may be closed, a run holds
pub script_kept : (r : Result (Unit {0}) StepFault) (part : State → Readings → List Turn) (far : SoFar) (keeps : State → Image → Type 0) (notes left : ℕ) (old new : Around) → closes_script r ≡ true → PlaysPart r part far keeps notes left old new
    → (next : SoFar) × StandsAt next keeps notes left new.folder
script_kept (Ok done) part far keeps notes left old new may plays = (_, plays.plays.stands)
script_kept (Err step_fault.Sink) part far keeps notes left old new may plays = (_, plays.plays.stands)
script_kept (Err step_fault.Device) part far keeps notes left old new may plays = absurd (no_true may)
script_kept (Err (step_fault.Damaged damage)) part far keeps notes left old new may plays = absurd (no_true may)

-- of how `count` ended: there are three ways
pub count_cause : (s : Status) (damaged device sink : Type 0) → (s ≡ status.Ok) ⊎ ((s ≡ status.Sink) ⊎ (s ≡ status.Device)) → (s ≡ status.Device → device) → (s ≡ status.Sink → sink) → CauseOf s damaged device ⊥ sink ⊥
count_cause s damaged device sink (inl is) on_device on_sink = subst (λ (x : Status). CauseOf x damaged device ⊥ sink ⊥) (sym is) tt
count_cause s damaged device sink (inr (inl is)) on_device on_sink = subst (λ (x : Status). CauseOf x damaged device ⊥ sink ⊥) (sym is) (on_sink is)
count_cause s damaged device sink (inr (inr is)) on_device on_sink = subst (λ (x : Status). CauseOf x damaged device ⊥ sink ⊥) (sym is) (on_device is)

-- where what is open may be closed, the script was done
pub done_open : (r : Result (Unit {0}) StepFault) (P : Type 0) → closes_script r ≡ true → IfDone r P → P
done_open (Ok done) P may p = p
done_open (Err step_fault.Sink) P may p = p
done_open (Err step_fault.Device) P may p = absurd (no_true may)
done_open (Err (step_fault.Damaged damage)) P may p = absurd (no_true may)
