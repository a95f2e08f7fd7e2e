use Rattle.blk_cache.specs.CacheKeeping.{KeepsState}
use Rattle.blk_cache.proofs.Ends.{kept-open}
use Rattle.std.proofs.Common.{◌+◌, ◌*◌, inr, [], None, Some, refl, arith, List, ℕ, Option, rules}
use Rattle.blk_model.specs.Bounds.{bounds_of}
use Rattle.blk_model.specs.Holding.{open_state}
use Rattle.blk_model.specs.Sizes.{handle_names}
use Rattle.spec_folder.specs.Found.{found}
use Rattle.blk_run.specs.Scripts.{commands_in, script_of}
use Rattle.blk_run.proofs.Assembling.{exit_unopened}
use Rattle.blk_run.proofs.Failures.{fails_behind}
use Rattle.blk_run.proofs.HeadlineBridge.{failed_by_start}
use Rattle.blk_run.proofs.ScriptEnds.{script_of_runs}
use Rattle.blk_run.proofs.Completeness.{complete_script}
use Rattle.blk_run.proofs.SessionEnds.{begins_at, cause_since, device_cause, opened_at, rises_since, sink_cause}
use Rattle.blk_run.proofs.Reading.{reads_first, reads_once, reads_told}
use Rattle.blk_io.specs.Streams.{Readings}
use Rattle.blk_run.specs.Session.{FixedScript}
use Rattle.spec_image.specs.Told.{Rises}
use Rattle.blk_run.proofs.scripts.run_script.Goals as goal

pub play_script-requires : goal.play_script-requires
play_script-requires g c = record {
  is_open = opened_at (g.F.Folder.told c.args.folder.now).files (g.F.Folder.told c.start.new.f) _ c.start.ensures.writes.silent
      (λ from there image here. kept-open c.in-Ok.cache (open_state (found from) (bounds_of c.args.limits)) image (c.in-Ok.ensures.keeps from there image here).holds);
}

pub returns-in-Ok-clause-script : goal.returns-in-Ok-clause-script
returns-in-Ok-clause-script g c from there usable =
    reads_first c.now.result c.now.ensures.reading c.now.ensures.later c.play_script.ensures.runs (λ readings between late reading later runs left.
    let few = c.requires.few in
    let stands = begins_at from (bounds_of c.args.limits) readings (record { folder = g.F.Folder.told c.args.folder.now; written = g.K.Sink.written c.args.out.now; left = left; clock = Some readings }) there refl
    (KeepsState c.in-Ok.cache) (g.F.Folder.told c.start.new.f) (c.in-Ok.cache.notes) (2 * handle_names + 2 * commands_in c.args.fixed) usable (c.in-Ok.ensures.last from there) (c.in-Ok.ensures.keeps from there) c.in-Ok.ensures.notes (omega (arith, few)) in
    script_of_runs c.play_script.result (script_of c.args.fixed) (bounds_of c.args.limits) from readings _ _ _
    (runs from (bounds_of c.args.limits) readings left (g.F.Folder.told c.args.folder.now) (Some readings) there refl later stands))

pub returns-in-Err-Device-clause-script : goal.returns-in-Err-Device-clause-script
returns-in-Err-Device-clause-script g c from there usable =
    reads_once c.now.result c.now.ensures.reading c.now.ensures.later (λ readings late reading later left.
    inr (exit_unopened from (bounds_of c.args.limits) readings (record { folder = g.F.Folder.told c.args.folder.now; written = g.K.Sink.written c.args.out.now; left = left; clock = Some readings }) there refl
    (record { folder = g.F.Folder.told c.start.new.f; written = g.K.Sink.written c.args.out.now; left = left; clock = Some late }) usable (failed_by_start from (bounds_of c.args.limits) (g.F.Folder.told c.args.folder.now) (g.F.Folder.told c.start.new.f) there (c.start.ensures.stops from there)) refl refl))

pub returns-in-Ok-clause-cause : goal.returns-in-Ok-clause-cause
returns-in-Ok-clause-cause g c =
    let few = c.requires.few in
    cause_since c.play_script.result _ _ _ _ ⊥ _ ⊥
    (λ damaged fails. fails_behind (g.F.Folder.told c.args.folder.now) (g.F.Folder.told c.play_script.new.folder) (g.K.Sink.written c.args.out.now) (g.K.Sink.written c.play_script.new.out) (g.K.Sink.faults c.args.out.now) (g.K.Sink.faults c.play_script.new.out)
    (λ from there. c.play_script.ensures.untold _
    (begins_at from (bounds_of c.args.limits) (record { ahead = []; last = 0 }) (record { folder = g.F.Folder.told c.args.folder.now; written = None; left = None; clock = Some (record { ahead = []; last = 0 }) }) there refl
    (KeepsState c.in-Ok.cache) (g.F.Folder.told c.start.new.f) c.in-Ok.cache.notes (2 * handle_names + 2 * commands_in c.args.fixed) (c.in-Ok.ensures.checked from there) (c.in-Ok.ensures.last from there) (c.in-Ok.ensures.keeps from there) c.in-Ok.ensures.notes (omega (arith, few)))
    damaged) fails)
    (rises_since (g.F.Folder.faults c.args.folder.now) (g.F.Folder.faults c.start.new.f) (g.F.Folder.faults c.play_script.new.folder) c.start.ensures.writes.later) c.play_script.ensures.cause

pub returns-in-Ok-clause-complete : goal.returns-in-Ok-clause-complete
returns-in-Ok-clause-complete g c from there usable readings clock left no_device no_sink =
    let cause = returns-in-Ok-clause-cause g c in
    complete_script (script_of c.args.fixed) (bounds_of c.args.limits) from readings _ _ _ _ no_device no_sink c.play_script.result
    (device_cause c.play_script.result _ _ ⊥ _ ⊥ cause) (sink_cause c.play_script.result _ _ ⊥ _ ⊥ cause)
    (reads_told
    (λ (r : Readings) (o n : Option Readings). (l : Option (List ℕ)) → FixedScript c.play_script.result (script_of c.args.fixed) (bounds_of c.args.limits) from r (Rises (g.K.Sink.faults c.args.out.now) (g.K.Sink.faults c.play_script.new.out))
    (record { folder = g.F.Folder.told c.args.folder.now; written = g.K.Sink.written c.args.out.now; left = l; clock = o }) (record { folder = g.F.Folder.told c.play_script.new.folder; written = g.K.Sink.written c.play_script.new.out; left = l; clock = n }))
    (returns-in-Ok-clause-script g c from there usable) readings clock left)

pub returns-in-Err-Memory-clause-script : goal.returns-in-Err-Memory-clause-script
returns-in-Err-Memory-clause-script g c from there usable = reads_once c.now.result c.now.ensures.reading c.now.ensures.later (λ readings late reading later left. search rules)

pub returns-in-Err-Damaged-clause-script : goal.returns-in-Err-Damaged-clause-script
returns-in-Err-Damaged-clause-script g c from there usable = reads_once c.now.result c.now.ensures.reading c.now.ensures.later (λ readings late reading later left. search rules)
