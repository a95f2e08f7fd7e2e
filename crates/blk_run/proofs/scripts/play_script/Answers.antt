use Rattle.blk_cache.specs.CacheKeeping.{KeepsState}
use Rattle.std.proofs.Common.{◌≡◌, ◌*◌, false, [], Err, refl, sym, ◌∙◌, subst, Some}
use Rattle.std.specs.Option.{ForSome}
use Rattle.spec_image.specs.Told.{Rises}
use Rattle.blk_disk.specs.Open.{IsOpen}
use Rattle.blk_model.specs.Holding.{open_state}
use Rattle.blk_model.specs.Sizes.{handle_names}
use Rattle.spec_folder.specs.Found.{found}
use Rattle.blk_run.specs.declared.ending.Status.{Status}
use Rattle.blk_io.specs.declared.fault.Fault.{Fault}
use Rattle.blk_run.specs.Ending.{EndsRun}
use Rattle.blk_run.specs.Scripts.{script_of}
use Rattle.blk_run.specs.Session.{FixedRuns}
use Rattle.blk_run.proofs.Failures.{fails_somewhere}
use Rattle.blk_run.proofs.ScriptCauses.{done_open, script_cause, script_kept, script_undamaged_status}
use Rattle.blk_run.proofs.ScriptEnds.{script_closed, script_stopped, script_unclosed, script_undamaged}
use Rattle.blk_run.proofs.SessionEnds.{end_undamaged}
use Rattle.blk_run.specs.Statuses.{IfWhole}
use Rattle.blk_run.proofs.HandedOn.{script_whole}
use Rattle.blk_run.proofs.OutOfMemory.{script_memory}
use Rattle.blk_run.proofs.Reading.{reads_map, reads_some, reads_then, some_readings}
use Rattle.blk_run.proofs.scripts.play_script.Goals as goal

pub returns-then-not-closes_script-clause-runs : goal.returns-then-not-closes_script-clause-runs
returns-then-not-closes_script-clause-runs g c =
    reads_map c.play_turns-played.ensures.played (λ early late does from limits readings left start first there is read at.
    subst (λ (s : Status). FixedRuns s (script_of c.args.fixed) limits from readings (Rises (g.K.Sink.faults c.args.out.now) (g.K.Sink.faults c.play_turns-played.new.out)) (record { folder = start; written = g.K.Sink.written c.args.out.now; left = left; clock = first }) (record { folder = g.F.Folder.told c.play_turns-played.new.folder; written = g.K.Sink.written c.play_turns-played.new.out; left = left; clock = Some late })) (sym c.script_status-status.ensures)
    (script_stopped (script_of c.args.fixed) from limits readings (record { folder = start; written = g.K.Sink.written c.args.out.now; left = left; clock = first }) there is (Some early) read (Rises (g.K.Sink.faults c.args.out.now) (g.K.Sink.faults c.play_turns-played.new.out)) (KeepsState c.play_turns-played.new.cache) (c.play_turns-played.new.cache.notes) (g.F.Folder.told c.args.folder.now) (record { folder = g.F.Folder.told c.play_turns-played.new.folder; written = g.K.Sink.written c.play_turns-played.new.out; left = left; clock = Some late }) (record { folder = g.F.Folder.told c.play_turns-played.new.folder; written = g.K.Sink.written c.play_turns-played.new.out; clock = Some late; refused = c.play_turns-played.new.refused }) refl c.play_turns-played.result (sym c.closes_script.ensures ∙ c.if-not-closes_script.true) (does (record { start = start; from = from; opened = open_state (found from) limits; done = [] }) (2 * handle_names) at) refl))

pub returns-in-Ok-clause-runs : goal.returns-in-Ok-clause-runs
returns-in-Ok-clause-runs g c =
    reads_then c.play_turns-played.ensures.played c.in-Ok.ensures.ends (λ early mid late does ends from limits readings left start first there is read at.
    subst (λ (s : Status). FixedRuns s (script_of c.args.fixed) limits from readings (Rises (g.K.Sink.faults c.args.out.now) (g.K.Sink.faults c.play_turns-played.new.out)) (record { folder = start; written = g.K.Sink.written c.args.out.now; left = left; clock = first }) (record { folder = g.F.Folder.told c.end.new.folder; written = g.K.Sink.written c.play_turns-played.new.out; left = left; clock = Some late })) (sym c.script_status-status.ensures)
    (script_closed (script_of c.args.fixed) from limits readings (record { folder = start; written = g.K.Sink.written c.args.out.now; left = left; clock = first }) there is (Some early) read (Rises (g.K.Sink.faults c.args.out.now) (g.K.Sink.faults c.play_turns-played.new.out)) (KeepsState c.play_turns-played.new.cache) (c.play_turns-played.new.cache.notes) (g.F.Folder.told c.args.folder.now) (record { folder = g.F.Folder.told c.end.new.folder; written = g.K.Sink.written c.play_turns-played.new.out; left = left; clock = Some late }) (record { folder = g.F.Folder.told c.play_turns-played.new.folder; written = g.K.Sink.written c.play_turns-played.new.out; clock = Some mid; refused = c.play_turns-played.new.refused }) refl c.play_turns-played.result (sym c.closes_script.ensures ∙ c.if-not-closes_script.false) (does (record { start = start; from = from; opened = open_state (found from) limits; done = [] }) (2 * handle_names) at) (λ next stands. ends next 0 stands)))

pub returns-in-Err-Device-clause-runs : goal.returns-in-Err-Device-clause-runs
returns-in-Err-Device-clause-runs g c =
    reads_then c.play_turns-played.ensures.played c.in-Err-Device.ensures.ends (λ early mid late does ends from limits readings left start first there is read at.
    script_unclosed (script_of c.args.fixed) from limits readings (record { folder = start; written = g.K.Sink.written c.args.out.now; left = left; clock = first }) there is (Some early) read (Rises (g.K.Sink.faults c.args.out.now) (g.K.Sink.faults c.play_turns-played.new.out)) (KeepsState c.play_turns-played.new.cache) (c.play_turns-played.new.cache.notes) (g.F.Folder.told c.args.folder.now) (record { folder = g.F.Folder.told c.end.new.folder; written = g.K.Sink.written c.play_turns-played.new.out; left = left; clock = Some late }) (record { folder = g.F.Folder.told c.play_turns-played.new.folder; written = g.K.Sink.written c.play_turns-played.new.out; clock = Some mid; refused = c.play_turns-played.new.refused }) refl c.play_turns-played.result (sym c.closes_script.ensures ∙ c.if-not-closes_script.false) c.play_turns-played.ensures.sink (does (record { start = start; from = from; opened = open_state (found from) limits; done = [] }) (2 * handle_names) at) (λ next stands. subst (λ (w : Fault). EndsRun (Err w) next (g.F.Folder.told c.end.new.folder) (Some mid) (Some late)) c.in-Err-Device.field-0-is (ends next 0 stands)))

pub returns-in-Err-Damaged-clause-runs : goal.returns-in-Err-Damaged-clause-runs
returns-in-Err-Damaged-clause-runs g c =
    reads_then c.play_turns-played.ensures.played c.in-Err-Damaged.ensures.ends (λ early mid late does ends from limits readings left start first there is read at.
    absurd (script_undamaged (script_of c.args.fixed) from limits readings (record { folder = start; written = g.K.Sink.written c.args.out.now; left = left; clock = first }) there is (Some early) read (Rises (g.K.Sink.faults c.args.out.now) (g.K.Sink.faults c.play_turns-played.new.out)) (KeepsState c.play_turns-played.new.cache) (c.play_turns-played.new.cache.notes) (g.F.Folder.told c.args.folder.now) (record { folder = g.F.Folder.told c.end.new.folder; written = g.K.Sink.written c.play_turns-played.new.out; left = left; clock = Some late }) (record { folder = g.F.Folder.told c.play_turns-played.new.folder; written = g.K.Sink.written c.play_turns-played.new.out; clock = Some mid; refused = c.play_turns-played.new.refused }) refl c.in-Err-Damaged.field-0-0 (λ next stands. subst (λ (w : Fault). EndsRun (Err w) next (g.F.Folder.told c.end.new.folder) (Some mid) (Some late)) c.in-Err-Damaged.field-0-is (ends next 0 stands)) c.play_turns-played.result (sym c.closes_script.ensures ∙ c.if-not-closes_script.false) (does (record { start = start; from = from; opened = open_state (found from) limits; done = [] }) (2 * handle_names) at)))

pub returns-then-not-closes_script-clause-cause : goal.returns-then-not-closes_script-clause-cause
returns-then-not-closes_script-clause-cause g c =
    script_cause c.script_status-status.result c.play_turns-played.result c.play_turns-played.new.refused _ _ _ c.script_status-status.ensures
    (fails_somewhere c.play_turns-played.result c.play_turns-played.new.cache.files (g.F.Folder.told c.play_turns-played.new.folder) c.play_turns-played.ensures.damaged) c.play_turns-played.ensures.device c.play_turns-played.ensures.sink

pub returns-then-not-closes_script-clause-untold : goal.returns-then-not-closes_script-clause-untold
returns-then-not-closes_script-clause-untold g c far at damaged =
    script_undamaged_status c.play_turns-played.result c.play_turns-played.new.refused c.script_status-status.result _ far (KeepsState c.play_turns-played.new.cache) (c.play_turns-played.new.cache.notes) (2 * handle_names) _ _ c.script_status-status.ensures ((reads_some c.play_turns-played.ensures.played some_readings).2 far (2 * handle_names) at) damaged

pub returns-in-Ok-clause-untold : goal.returns-in-Ok-clause-untold
returns-in-Ok-clause-untold g c far at damaged =
    script_undamaged_status c.play_turns-played.result c.play_turns-played.new.refused c.script_status-status.result _ far (KeepsState c.play_turns-played.new.cache) (c.play_turns-played.new.cache.notes) (2 * handle_names) _ _ c.script_status-status.ensures ((reads_some c.play_turns-played.ensures.played some_readings).2 far (2 * handle_names) at) damaged

pub returns-in-Err-Damaged-clause-untold : goal.returns-in-Err-Damaged-clause-untold
returns-in-Err-Damaged-clause-untold g c far at damaged =
    let kept = script_kept c.play_turns-played.result _ far (KeepsState c.play_turns-played.new.cache) (c.play_turns-played.new.cache.notes) (2 * handle_names) _ _ (sym c.closes_script.ensures ∙ c.if-not-closes_script.false) ((reads_some c.play_turns-played.ensures.played some_readings).2 far (2 * handle_names) at) in
    end_undamaged c.in-Err-Damaged.field-0 c.in-Err-Damaged.field-0-0 kept.0 _ _ _ c.in-Err-Damaged.field-0-is ((reads_some c.in-Err-Damaged.ensures.ends some_readings).2 kept.0 0 kept.1)

pub end-requires : goal.end-requires
end-requires g c = record {
  is_open = done_open c.play_turns-played.result (ForSome (g.F.Folder.told c.play_turns-played.new.folder).files (IsOpen c.play_turns-played.new.cache.files)) (sym c.closes_script.ensures ∙ c.if-not-closes_script.false) c.play_turns-played.ensures.is_open;
}

pub returns-then-not-closes_script-clause-memory : goal.returns-then-not-closes_script-clause-memory
returns-then-not-closes_script-clause-memory g c is = script_memory c.play_turns-played.result c.play_turns-played.new.refused (sym c.script_status-status.ensures ∙ is)

pub returns-in-Ok-clause-memory : goal.returns-in-Ok-clause-memory
returns-in-Ok-clause-memory g c is = script_memory c.play_turns-played.result c.play_turns-played.new.refused (sym c.script_status-status.ensures ∙ is)

pub returns-then-not-closes_script-clause-handed : goal.returns-then-not-closes_script-clause-handed
returns-then-not-closes_script-clause-handed g c = subst (λ (s : Status). IfWhole s (g.K.Sink.waiting c.args.out.now ≡ false → g.K.Sink.waiting c.play_turns-played.new.out ≡ false)) (sym c.script_status-status.ensures) (script_whole (g.K.Sink.waiting c.args.out.now ≡ false → g.K.Sink.waiting c.play_turns-played.new.out ≡ false) c.play_turns-played.result c.play_turns-played.new.refused c.play_turns-played.ensures.handed)

pub returns-in-Ok-clause-handed : goal.returns-in-Ok-clause-handed
returns-in-Ok-clause-handed g c = subst (λ (s : Status). IfWhole s (g.K.Sink.waiting c.args.out.now ≡ false → g.K.Sink.waiting c.play_turns-played.new.out ≡ false)) (sym c.script_status-status.ensures) (script_whole (g.K.Sink.waiting c.args.out.now ≡ false → g.K.Sink.waiting c.play_turns-played.new.out ≡ false) c.play_turns-played.result c.play_turns-played.new.refused c.play_turns-played.ensures.handed)
