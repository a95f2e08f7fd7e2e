-- How a run of a fixed script ends, by how its script was played and how the folder was closed.
use Rattle.std.proofs.Common.{ℕ, ◌*◌, ◌≡◌, inl, Bool, true, false, Option, Some, Result, Ok, Err, refl}
use Rattle.std.specs.Prelude.{if◌then◌else◌}
use Rattle.std.specs.Option.{option_map}
use Rattle.spec_image.specs.Image.{Image}
use Rattle.spec_image.specs.Told.{Told}
use Rattle.blk_io.specs.declared.fault.Fault.{Fault}
use Rattle.blk_io.specs.declared.fault.Fault.TheVariants as fault
use Rattle.blk_io.specs.Streams.{Readings, later_of}
use Rattle.blk_model.specs.Sizes.{handle_names}
use Rattle.blk_model.specs.State.{Bounds, State}
use Rattle.spec_run.specs.Run.{turns}
use Rattle.spec_run.specs.Script.{Script}
use Rattle.blk_cache.specs.declared.fault.StepFault.{StepFault}
use Rattle.blk_cache.specs.declared.fault.StepFault.TheVariants as step_fault
use Rattle.blk_run.specs.declared.ending.Status.{Status}
use Rattle.blk_run.specs.declared.ending.Status.TheVariants as status
use Rattle.blk_run.specs.Ending.{EndsRun}
use Rattle.blk_cache.specs.Stepping.{IfSink}
use Rattle.blk_run.specs.Playing.{Around, PlaysPart, SoFar, StandsAt}
use Rattle.blk_run.specs.Scripts.{closes_script, script_status}
use Rattle.blk_run.specs.Session.{Ending, FixedMayEnd, FixedRuns, FixedScript, Outside, all_made, taken, unprinted}
use Rattle.blk_run.proofs.Assembling.{begun_far, fixed_device, fixed_end_device, fixed_ok, fixed_refused, fixed_sink, fixed_sink_device}

no_true : false ≡ true → ⊥
no_true e = cc

no_false : true ≡ false → ⊥
no_false e = cc

module _ (script : Script) (from : Image) (limits : Bounds) (readings : Readings) (old : Outside) (there : old.folder.files ≡ Some from) (clock : old.clock ≡ Some readings) (clock_first : Option Readings) (first_read : clock_first ≡ option_map later_of old.clock)
    (sink : Type 0) (keeps : State → Image → Type 0) (notes : ℕ) (told : Told) (new : Outside) (mid : Around) (same_text : new.written ≡ mid.written) where
  abbrev first : Around
  first = record { folder = told; written = old.written; clock = clock_first; refused = false }

  abbrev far : SoFar
  far = begun_far from limits readings old there clock

  abbrev ScriptPlays : Result (Unit {0}) StepFault → Type 0
  ScriptPlays r = PlaysPart r (turns script) far keeps notes (2 * handle_names) first mid

  abbrev EndsBy : Result (Unit {0}) Fault → Type 0
  EndsBy r = (next : SoFar) → StandsAt next keeps notes (2 * handle_names) mid.folder → EndsRun r next new.folder mid.clock new.clock

  -- all was closed
  pub script_closed : (r : Result (Unit {0}) StepFault) → closes_script r ≡ true → ScriptPlays r → EndsBy (Ok tt) → FixedRuns (script_status r mid.refused) script limits from readings sink old new
  script_closed (Ok done) may plays ends = by_refused mid.refused refl
    where
      by_refused : (b : Bool) → mid.refused ≡ b → FixedRuns (if b then status.Refused else status.Ok) script limits from readings sink old new
      by_refused true is = fixed_refused from limits readings old there clock clock_first first_read script sink keeps notes (2 * handle_names) told new mid same_text done plays (ends _ plays.plays.stands) is
      by_refused false is = fixed_ok from limits readings old there clock clock_first first_read script sink keeps notes (2 * handle_names) told new mid same_text done plays (ends _ plays.plays.stands) is
  script_closed (Err step_fault.Sink) may plays ends = fixed_sink from limits readings old there clock clock_first first_read script sink keeps notes (2 * handle_names) told new mid same_text plays (ends _ plays.plays.stands)
  script_closed (Err step_fault.Device) may plays ends = absurd (no_true may)
  script_closed (Err (step_fault.Damaged damage)) may plays ends = absurd (no_true may)

  -- the folder failed in what is closed
  pub script_unclosed : (r : Result (Unit {0}) StepFault) → closes_script r ≡ true → IfSink r sink → ScriptPlays r → EndsBy (Err fault.Device) → FixedRuns status.Device script limits from readings sink old new
  script_unclosed (Ok done) may fell plays ends = fixed_end_device from limits readings old there clock clock_first first_read script sink keeps notes (2 * handle_names) told new mid same_text done plays (ends _ plays.plays.stands)
  script_unclosed (Err step_fault.Sink) may fell plays ends = fixed_sink_device from limits readings old there clock clock_first first_read script sink keeps notes (2 * handle_names) told new mid same_text plays fell (ends _ plays.plays.stands)
  script_unclosed (Err step_fault.Device) may fell plays ends = absurd (no_true may)
  script_unclosed (Err (step_fault.Damaged damage)) may fell plays ends = absurd (no_true may)

  -- no failed check is met in it
  pub script_undamaged : (damage : _) → EndsBy (Err (fault.Damaged damage)) → (r : Result (Unit {0}) StepFault) → closes_script r ≡ true → ScriptPlays r → ⊥
  script_undamaged damage ends (Ok done) may plays = (ends _ plays.plays.stands).closes
  script_undamaged damage ends (Err step_fault.Sink) may plays = (ends _ plays.plays.stands).closes
  script_undamaged damage ends (Err step_fault.Device) may plays = no_true may
  script_undamaged damage ends (Err (step_fault.Damaged found_damage)) may plays = no_true may

  -- nothing is closed
  pub script_stopped : (r : Result (Unit {0}) StepFault) → closes_script r ≡ false → ScriptPlays r → mid.folder ≡ new.folder → FixedRuns (script_status r mid.refused) script limits from readings sink old new
  script_stopped (Ok done) may plays same = absurd (no_false may)
  script_stopped (Err step_fault.Sink) may plays same = absurd (no_false may)
  script_stopped (Err step_fault.Device) may plays same = fixed_device from limits readings old there clock clock_first first_read script sink keeps notes (2 * handle_names) told new mid same_text plays same
  script_stopped (Err (step_fault.Damaged damage)) may plays same = absurd plays.plays

-- a run by its status
pub script_of_runs : (r : Status) (script : Script) (limits : Bounds) (from : Image) (readings : Readings) (sink : Type 0) (old new : Outside) → FixedRuns r script limits from readings sink old new → FixedScript r script limits from readings sink old new
script_of_runs status.Ok script limits from readings sink old new runs = runs
script_of_runs status.Refused script limits from readings sink old new runs = runs
script_of_runs status.Source script limits from readings sink old new runs = runs
script_of_runs status.Sink script limits from readings sink old new runs = runs
script_of_runs status.TooLong script limits from readings sink old new runs = runs
script_of_runs status.Device script limits from readings sink old new runs = inl runs
script_of_runs status.Words script limits from readings sink old new runs = none runs.ending runs.may_end
  where
    none : (ending : Ending) → FixedMayEnd status.Words ending runs.run sink → ⊥
    none all_made end = end
    none (taken bytes) end = end
    none (unprinted count) end = end
script_of_runs status.Damaged script limits from readings sink old new runs = none runs.ending runs.may_end
  where
    none : (ending : Ending) → FixedMayEnd status.Damaged ending runs.run sink → ⊥
    none all_made end = end
    none (taken bytes) end = end
    none (unprinted count) end = end
script_of_runs status.Memory script limits from readings sink old new runs = absurd (none runs.ending runs.may_end)
  where
    none : (ending : Ending) → FixedMayEnd status.Memory ending runs.run sink → ⊥
    none all_made end = end
    none (taken bytes) end = end
    none (unprinted count) end = end
