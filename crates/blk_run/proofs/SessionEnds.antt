-- How a session ends, by how its input came to an end and how the folder was closed.
use Rattle.std.proofs.Common.{ℕ, ◌+◌, ◌*◌, ◌^◌, ◌<◌, ◌≤◌, ◌≡◌, ◌≢◌, inl, Bool, true, false, List, Option, None, Some, Result, Ok, Err, refl, sym, ◌∙◌, subst, arith}
use Rattle.std.specs.Prelude.{IsErrAnd, if◌then◌else◌}
use Rattle.std.specs.Option.{option_map, ForSome}
use Rattle.spec_image.specs.Image.{Image}
use Rattle.spec_image.specs.Told.{Rises, Told}
use Rattle.spec_format.specs.BlockFiles.{IsUsable}
use Rattle.blk_io.specs.declared.fault.Damage.{Damage}
use Rattle.blk_io.specs.declared.fault.Fault.{Fault}
use Rattle.blk_io.specs.declared.fault.Fault.TheVariants as fault
use Rattle.blk_io.specs.Streams.{Readings, later_of}
use Rattle.blk_model.specs.Holding.{open_state}
use Rattle.blk_model.specs.Sizes.{handle_names}
use Rattle.blk_model.specs.State.{Bounds, State}
use Rattle.spec_folder.specs.Found.{found}
use Rattle.spec_run.specs.Inputs.{by_lines}
use Rattle.blk_cache.specs.declared.fault.StepFault.{StepFault}
use Rattle.blk_cache.specs.declared.fault.StepFault.TheVariants as step_fault
use Rattle.blk_cache.specs.Opening as opening
use Rattle.blk_cache.specs.Stepping.{IfSink, IfStepDamaged, IfStepDevice}
use Rattle.blk_run.specs.declared.ending.Status.{Status}
use Rattle.blk_run.specs.declared.ending.Status.TheVariants as status
use Rattle.blk_run.specs.declared.input.InputEnd.{InputEnd}
use Rattle.blk_run.specs.declared.input.InputEnd.TheVariants as end
use Rattle.blk_run.specs.Ending.{EndsRun}
use Rattle.blk_run.specs.Inputs.{IfFailed, IfTooLong, IsTakenUpTo, PlaysInput}
use Rattle.blk_run.specs.Playing.{Around, SoFar, StandsAt}
use Rattle.blk_run.specs.Session.{Ending, MayEnd, Outside, Runs, Seen, Session, all_made, taken, unprinted}
use Rattle.blk_run.specs.Statuses.{CauseOf, may_close, status_after}
use Rattle.blk_run.proofs.Assembling.{begins, begun_far, exit_device, exit_long, exit_long_device, exit_ok, exit_refused, exit_sink, exit_sink_device, exit_source, exit_source_device, exit_whole_device}
use Rattle.blk_run.proofs.Parts.{handed_on}
use Rattle.blk_run.proofs.HeadlineBridge.{opened_by_start}

-- what is opened is the beginning of a run
pub begins_at : (from : Image) (limits : Bounds) (readings : Readings) (old : Outside) (there : old.folder.files ≡ Some from) (clock : old.clock ≡ Some readings) (keeps : State → Image → Type 0)
    (told : Told) (notes left : ℕ) → IsUsable from → opening.OpensFolder from old.folder told → ForSome told.files (keeps (open_state (found from) limits)) → notes ≡ 0 → left < 2 ^ 65
    → StandsAt (begun_far from limits readings old there clock) keeps notes left told
begins_at from limits readings old there clock keeps told notes left usable opens kept none few =
    begins from limits readings old there clock keeps told notes left usable (opened_by_start from limits old.folder told there opens) kept none few

no_true : false ≡ true → ⊥
no_true e = cc

no_false : true ≡ false → ⊥
no_false e = cc

module _ (from : Image) (limits : Bounds) (readings : Readings) (old : Outside) (there : old.folder.files ≡ Some from) (clock : old.clock ≡ Some readings) (clock_first : Option Readings) (first_read : clock_first ≡ option_map later_of old.clock)
    (budget : ℕ) (input : List ℕ) (source sink : Type 0) (keeps : State → Image → Type 0) (notes : ℕ) (told : Told) (new : Outside) (takes : IsTakenUpTo (budget + 1) new.left input) (mid : Around) (same_text : new.written ≡ mid.written) where
  abbrev first : Around
  first = record { folder = told; written = old.written; clock = clock_first; refused = false }

  abbrev far : SoFar
  far = begun_far from limits readings old there clock

  abbrev InputPlays : Result InputEnd StepFault → Type 0
  InputPlays r = PlaysInput r budget (Some input) new.left far keeps notes (2 * handle_names) first mid

  abbrev EndsBy : Result (Unit {0}) Fault → Type 0
  EndsBy r = (next : SoFar) → StandsAt next keeps notes (2 * handle_names) mid.folder → EndsRun r next new.folder mid.clock new.clock

  -- all was closed
  pub closed_runs : (r : Result InputEnd StepFault) → may_close r ≡ true → InputPlays r → EndsBy (Ok tt) → Runs by_lines (status_after r mid.refused) limits budget from readings input source sink old new
  closed_runs (Ok end.Whole) may plays ends = by_refused mid.refused refl
    where
      by_refused : (b : Bool) → mid.refused ≡ b → Runs by_lines (if b then status.Refused else status.Ok) limits budget from readings input source sink old new
      by_refused true is = exit_refused from limits readings old there clock clock_first first_read budget input source sink keeps notes (2 * handle_names) told new takes mid same_text plays (ends _ plays.part.plays.stands) is
      by_refused false is = exit_ok from limits readings old there clock clock_first first_read budget input source sink keeps notes (2 * handle_names) told new takes mid same_text plays (ends _ plays.part.plays.stands) is
  closed_runs (Ok end.Failed) may plays ends = exit_source from limits readings old there clock clock_first first_read budget input source sink keeps notes (2 * handle_names) told new takes mid same_text plays (ends _ plays.part.plays.stands)
  closed_runs (Ok end.TooLong) may plays ends = exit_long from limits readings old there clock clock_first first_read budget input source sink keeps notes (2 * handle_names) told new takes mid same_text plays (ends _ plays.part.plays.stands)
  closed_runs (Err step_fault.Sink) may plays ends = exit_sink from limits readings old there clock clock_first first_read budget input source sink keeps notes (2 * handle_names) told new takes mid same_text plays (ends _ plays.part.plays.stands)
  closed_runs (Err step_fault.Device) may plays ends = absurd (no_true may)
  closed_runs (Err (step_fault.Damaged damage)) may plays ends = absurd (no_true may)

  -- the folder failed in what is closed
  pub unclosed_runs : (r : Result InputEnd StepFault) → may_close r ≡ true → IfFailed r source → IfSink r sink → InputPlays r → EndsBy (Err fault.Device) → Runs by_lines status.Device limits budget from readings input source sink old new
  unclosed_runs (Ok end.Whole) may rose fell plays ends = exit_whole_device from limits readings old there clock clock_first first_read budget input source sink keeps notes (2 * handle_names) told new takes mid same_text plays (ends _ plays.part.plays.stands)
  unclosed_runs (Ok end.Failed) may rose fell plays ends = exit_source_device from limits readings old there clock clock_first first_read budget input source sink keeps notes (2 * handle_names) told new takes mid same_text rose plays (ends _ plays.part.plays.stands)
  unclosed_runs (Ok end.TooLong) may rose fell plays ends = exit_long_device from limits readings old there clock clock_first first_read budget input source sink keeps notes (2 * handle_names) told new takes mid same_text plays (ends _ plays.part.plays.stands)
  unclosed_runs (Err step_fault.Sink) may rose fell plays ends = exit_sink_device from limits readings old there clock clock_first first_read budget input source sink keeps notes (2 * handle_names) told new takes mid same_text plays fell (ends _ plays.part.plays.stands)
  unclosed_runs (Err step_fault.Device) may rose fell plays ends = absurd (no_true may)
  unclosed_runs (Err (step_fault.Damaged damage)) may rose fell plays ends = absurd (no_true may)

  -- nothing is closed
  pub stopped_runs : (r : Result InputEnd StepFault) → may_close r ≡ false → InputPlays r → mid.folder ≡ new.folder → Runs by_lines (status_after r mid.refused) limits budget from readings input source sink old new
  stopped_runs (Ok ended) may plays same = absurd (no_false may)
  stopped_runs (Err step_fault.Sink) may plays same = absurd (no_false may)
  stopped_runs (Err step_fault.Device) may plays same = exit_device from limits readings old there clock clock_first first_read budget input source sink keeps notes (2 * handle_names) told new takes mid same_text plays same
  stopped_runs (Err (step_fault.Damaged damage)) may plays same = absurd plays.part.plays

-- a run as a session
pub session_of_runs : (r : Status) (limits : Bounds) (budget : ℕ) (from : Image) (readings : Readings) (input : List ℕ) (seen : Seen) → Runs by_lines r limits budget from readings input seen.source (Rises seen.before seen.now) seen.old seen.new → Session by_lines r limits budget from readings input seen
session_of_runs status.Ok limits budget from readings input seen runs = runs
session_of_runs status.Refused limits budget from readings input seen runs = runs
session_of_runs status.Source limits budget from readings input seen runs = runs
session_of_runs status.Sink limits budget from readings input seen runs = runs
session_of_runs status.TooLong limits budget from readings input seen runs = runs
session_of_runs status.Device limits budget from readings input seen runs = inl runs
session_of_runs status.Words limits budget from readings input seen runs = none runs.ending runs.may_end
  where
    none : (ending : Ending) → MayEnd by_lines status.Words ending budget input runs.run seen.new.left seen.source (Rises seen.before seen.now) → ⊥
    none all_made end = end
    none (taken bytes) end = end
    none (unprinted count) end = end
session_of_runs status.Damaged limits budget from readings input seen runs = none runs.ending runs.may_end
  where
    none : (ending : Ending) → MayEnd by_lines status.Damaged ending budget input runs.run seen.new.left seen.source (Rises seen.before seen.now) → ⊥
    none all_made end = end
    none (taken bytes) end = end
    none (unprinted count) end = end
session_of_runs status.Memory limits budget from readings input seen runs = absurd (none runs.ending runs.may_end)
  where
    none : (ending : Ending) → MayEnd by_lines status.Memory ending budget input runs.run seen.new.left seen.source (Rises seen.before seen.now) → ⊥
    none all_made end = end
    none (taken bytes) end = end
    none (unprinted count) end = end

-- Causes.

-- of how an input came to an end
cause_after : (r : Result InputEnd StepFault) (refused : Bool) (damaged device source sink long : Type 0) → IfStepDamaged r (λ _. damaged) → IfStepDevice r device → IfFailed r source → IfSink r sink → IfTooLong r long → CauseOf (status_after r refused) damaged device source sink long
cause_after (Ok end.Whole) true damaged device source sink long c d s k l = tt
cause_after (Ok end.Whole) false damaged device source sink long c d s k l = tt
cause_after (Ok end.Failed) refused damaged device source sink long c d s k l = s
cause_after (Ok end.TooLong) refused damaged device source sink long c d s k l = l
cause_after (Err step_fault.Sink) refused damaged device source sink long c d s k l = k
cause_after (Err step_fault.Device) refused damaged device source sink long c d s k l = d
cause_after (Err (step_fault.Damaged damage)) refused damaged device source sink long c d s k l = c

-- the same of the status
pub input_cause : (s : Status) (r : Result InputEnd StepFault) (refused : Bool) (damaged device source sink long : Type 0) → s ≡ status_after r refused → IfStepDamaged r (λ _. damaged) → IfStepDevice r device → IfFailed r source → IfSink r sink → IfTooLong r long
    → CauseOf s damaged device source sink long
input_cause s r refused damaged device source sink long is c d f k l = subst (λ (x : Status). CauseOf x damaged device source sink long) (sym is) (cause_after r refused damaged device source sink long c d f k l)

-- the count of the folder may have risen before, and of a failed check more may be known
pub cause_since : (s : Status) (damaged damaged_all device device_all source sink long : Type 0) → (s ≡ status.Damaged → damaged → damaged_all) → (device → device_all) → CauseOf s damaged device source sink long → CauseOf s damaged_all device_all source sink long
cause_since status.Ok damaged damaged_all device device_all source sink long known more cause = tt
cause_since status.Refused damaged damaged_all device device_all source sink long known more cause = tt
cause_since status.Words damaged damaged_all device device_all source sink long known more cause = cause
cause_since status.Device damaged damaged_all device device_all source sink long known more cause = more cause
cause_since status.Source damaged damaged_all device device_all source sink long known more cause = cause
cause_since status.Sink damaged damaged_all device device_all source sink long known more cause = cause
cause_since status.Memory damaged damaged_all device device_all source sink long known more cause = tt
cause_since status.Damaged damaged damaged_all device device_all source sink long known more cause = known refl cause
cause_since status.TooLong damaged damaged_all device device_all source sink long known more cause = cause

-- a fault of a closing that is handed on
pub ends_handed : (q : Result (Unit {0}) Fault) (why : Fault) (far : SoFar) (new : Told) (clock_old clock_new : Option Readings) → IsErrAnd q (λ (x : Fault). x ≡ why) → EndsRun (Err why) far new clock_old clock_new → EndsRun q far new clock_old clock_new
ends_handed q why far new clock_old clock_new is ends = subst (λ (r : Result (Unit {0}) Fault). EndsRun r far new clock_old clock_new) (sym (handed_on q why is)) ends

-- Failed checks.

-- where what is open may be closed, a run holds
pub kept_after : (r : Result InputEnd StepFault) (budget : ℕ) (input left : Option (List ℕ)) (far : SoFar) (keeps : State → Image → Type 0) (notes spare : ℕ) (old new : Around) → may_close r ≡ true → PlaysInput r budget input left far keeps notes spare old new
    → (next : SoFar) × StandsAt next keeps notes spare new.folder
kept_after (Ok ended) budget input left far keeps notes spare old new may plays = (_, plays.part.plays.stands)
kept_after (Err step_fault.Sink) budget input left far keeps notes spare old new may plays = (_, plays.part.plays.stands)
kept_after (Err step_fault.Device) budget input left far keeps notes spare old new may plays = absurd (no_true may)
kept_after (Err (step_fault.Damaged damage)) budget input left far keeps notes spare old new may plays = absurd (no_true may)

-- an observable folder reports no corruption
pub input_undamaged : (r : Result InputEnd StepFault) (refused : Bool) (s : Status) (budget : ℕ) (input left : Option (List ℕ)) (far : SoFar) (keeps : State → Image → Type 0) (notes spare : ℕ) (old new : Around) → s ≡ status_after r refused
    → PlaysInput r budget input left far keeps notes spare old new → s ≢ status.Damaged
input_undamaged r refused s budget input left far keeps notes spare old new is plays damaged = by_result r plays (sym is ∙ damaged)
  where
    ok_clash : status.Ok ≡ status.Damaged → ⊥
    ok_clash e = cc

    refused_clash : status.Refused ≡ status.Damaged → ⊥
    refused_clash e = cc

    source_clash : status.Source ≡ status.Damaged → ⊥
    source_clash e = cc

    long_clash : status.TooLong ≡ status.Damaged → ⊥
    long_clash e = cc

    sink_clash : status.Sink ≡ status.Damaged → ⊥
    sink_clash e = cc

    device_clash : status.Device ≡ status.Damaged → ⊥
    device_clash e = cc

    either : (b : Bool) → (if b then status.Refused else status.Ok) ≡ status.Damaged → ⊥
    either true e = refused_clash e
    either false e = ok_clash e

    by_result : (q : Result InputEnd StepFault) → PlaysInput q budget input left far keeps notes spare old new → status_after q refused ≡ status.Damaged → ⊥
    by_result (Ok end.Whole) p e = either refused e
    by_result (Ok end.Failed) p e = source_clash e
    by_result (Ok end.TooLong) p e = long_clash e
    by_result (Err step_fault.Sink) p e = sink_clash e
    by_result (Err step_fault.Device) p e = device_clash e
    by_result (Err (step_fault.Damaged damage)) p e = p.part.plays

-- nor does its end
pub end_undamaged : (f : Fault) (damage : Damage) (far : SoFar) (new : Told) (clock_old clock_new : Option Readings) → f ≡ fault.Damaged damage → EndsRun (Err f) far new clock_old clock_new → ⊥
end_undamaged f damage far new clock_old clock_new is ends = let e : EndsRun (Err (fault.Damaged damage)) far new clock_old clock_new = subst (λ (x : Fault). EndsRun (Err x) far new clock_old clock_new) is ends in e.closes

pub end_failed : (f : Fault) (far : SoFar) (new : Told) (clock_old clock_new : Option Readings) → f ≡ fault.Device → EndsRun (Err f) far new clock_old clock_new → EndsRun (Err fault.Device) far new clock_old clock_new
end_failed f far new clock_old clock_new is ends = subst (λ (x : Fault). EndsRun (Err x) far new clock_old clock_new) is ends

pub runs_as : (s t : Status) (limits : Bounds) (budget : ℕ) (from : Image) (readings : Readings) (input : List ℕ) (source sink : Type 0) (old new : Outside) → s ≡ t → Runs by_lines t limits budget from readings input source sink old new → Runs by_lines s limits budget from readings input source sink old new
runs_as s t limits budget from readings input source sink old new is runs = subst (λ (x : Status). Runs by_lines x limits budget from readings input source sink old new) (sym is) runs

-- what was opened may be written
pub opened_at : (files : Option Image) (middle : Told) (is_open : Image → Type 0) → (files ≡ None → middle.files ≡ None) → ((from : Image) → files ≡ Some from → ForSome middle.files is_open) → ForSome middle.files is_open
opened_at None middle is_open silent opened image here = absurd (no_image (sym (silent refl) ∙ here))
  where
    no_image : ◌≡◌ {A = Option Image} None (Some image) → ⊥
    no_image e = cc
opened_at (Some from) middle is_open silent opened image here = opened from refl image here

-- the count rose since an earlier value
pub rises_since : (a b c : ℕ) → a ≤ b → Rises b c → Rises a c
rises_since a b c less rises few = let r = rises few in omega (arith, r, less)

-- the cause of a status that is this one
pub device_cause : (s : Status) (damaged device source sink long : Type 0) → CauseOf s damaged device source sink long → s ≡ status.Device → device
device_cause s damaged device source sink long cause is = subst (λ (x : Status). CauseOf x damaged device source sink long) is cause

pub source_cause : (s : Status) (damaged device source sink long : Type 0) → CauseOf s damaged device source sink long → s ≡ status.Source → source
source_cause s damaged device source sink long cause is = subst (λ (x : Status). CauseOf x damaged device source sink long) is cause

pub sink_cause : (s : Status) (damaged device source sink long : Type 0) → CauseOf s damaged device source sink long → s ≡ status.Sink → sink
sink_cause s damaged device source sink long cause is = subst (λ (x : Status). CauseOf x damaged device source sink long) is cause
