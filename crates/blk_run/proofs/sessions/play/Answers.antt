use Rattle.std.proofs.Common.{◌≡◌, ◌*◌, true, false, Result, Ok, Err, refl, sym, subst, ◌∙◌, Some}
use Rattle.std.specs.Option.{ForSome}
use Rattle.blk_disk.specs.Open.{IsOpen}
use Rattle.blk_cache.specs.declared.fault.StepFault.{StepFault}
use Rattle.blk_cache.specs.declared.fault.StepFault.TheVariants as step_fault
use Rattle.blk_cache.specs.Stepping.{IfDone}
use Rattle.blk_run.specs.declared.ending.Status.{Status}
use Rattle.blk_run.specs.declared.input.InputEnd.{InputEnd}
use Rattle.blk_model.specs.Sizes.{handle_names}
use Rattle.blk_run.specs.Statuses.{IfWhole, may_close, status_after}
use Rattle.blk_cache.specs.CacheKeeping.{KeepsState}
use Rattle.blk_run.proofs.SessionEnds.{closed_runs, end_failed, end_undamaged, input_cause, input_undamaged, kept_after, runs_as, stopped_runs, unclosed_runs}
use Rattle.blk_run.proofs.Failures.{fails_somewhere}
use Rattle.blk_run.proofs.HandedOn.{session_whole}
use Rattle.blk_run.proofs.OutOfMemory.{session_memory}
use Rattle.blk_run.proofs.Reading.{reads_map, reads_some, reads_then, some_readings, takes_map}
use Rattle.blk_run.proofs.sessions.play.Goals as goal

-- where what is open may be closed, what was played was done
open_of_done : (r : Result InputEnd StepFault) (P : Type 0) → may_close r ≡ true → IfDone r P → P
open_of_done (Ok ended) P may p = p
open_of_done (Err step_fault.Sink) P may p = p
open_of_done (Err step_fault.Device) P may p = absurd (clash may)
  where
    clash : false ≡ true → ⊥
    clash e = cc
open_of_done (Err (step_fault.Damaged damage)) P may p = absurd (clash may)
  where
    clash : false ≡ true → ⊥
    clash e = cc

pub end-requires : goal.end-requires
end-requires g c = record {
  is_open = open_of_done c.play_input-ended.result (ForSome (g.F.Folder.told c.play_input-ended.new.folder).files (IsOpen c.play_input-ended.new.cache.files)) (sym c.closes_after.ensures ∙ c.if-not-closes_after.false) c.play_input-ended.ensures.is_open;
}

pub returns-then-not-closes_after-clause-runs : goal.returns-then-not-closes_after-clause-runs
returns-then-not-closes_after-clause-runs g c =
    reads_map c.play_input-ended.ensures.played (λ early late takes. takes_map takes (λ bytes rest both from limits readings start first there clock first_read at.
    runs_as c.status_of-status.result (status_after c.play_input-ended.result c.play_input-ended.new.lines.played.refused) limits c.args.lines.now.budget from readings bytes _ _ _ _ c.status_of-status.ensures
    (stopped_runs from limits readings (record { folder = start; written = g.K.Sink.written c.args.out.now; left = Some bytes; clock = first }) there clock (Some early) first_read c.args.lines.now.budget bytes _ _ (KeepsState c.play_input-ended.new.cache) c.play_input-ended.new.cache.notes (g.F.Folder.told c.args.folder.now) (record { folder = g.F.Folder.told c.play_input-ended.new.folder; written = g.K.Sink.written c.play_input-ended.new.out; left = Some rest; clock = Some late }) both.0 (record { folder = g.F.Folder.told c.play_input-ended.new.folder; written = g.K.Sink.written c.play_input-ended.new.out; clock = Some late; refused = c.play_input-ended.new.lines.played.refused }) refl
    c.play_input-ended.result (sym c.closes_after.ensures ∙ c.if-not-closes_after.true) (both.1 _ (2 * handle_names) at) refl)))

pub returns-then-not-closes_after-clause-untold : goal.returns-then-not-closes_after-clause-untold
returns-then-not-closes_after-clause-untold g c far at damaged =
    input_undamaged c.play_input-ended.result c.play_input-ended.new.lines.played.refused c.status_of-status.result c.args.lines.now.budget _ _ far (KeepsState c.play_input-ended.new.cache) c.play_input-ended.new.cache.notes (2 * handle_names) _ _ c.status_of-status.ensures ((reads_some c.play_input-ended.ensures.played some_readings).2.holds.1 far (2 * handle_names) at) damaged

pub returns-in-Ok-clause-runs : goal.returns-in-Ok-clause-runs
returns-in-Ok-clause-runs g c =
    reads_then c.play_input-ended.ensures.played c.in-Ok.ensures.ends (λ early between late takes ends. takes_map takes (λ bytes rest both from limits readings start first there clock first_read at.
    runs_as c.status_of-status.result (status_after c.play_input-ended.result c.play_input-ended.new.lines.played.refused) limits c.args.lines.now.budget from readings bytes _ _ _ _ c.status_of-status.ensures
    (closed_runs from limits readings (record { folder = start; written = g.K.Sink.written c.args.out.now; left = Some bytes; clock = first }) there clock (Some early) first_read c.args.lines.now.budget bytes _ _ (KeepsState c.play_input-ended.new.cache) c.play_input-ended.new.cache.notes (g.F.Folder.told c.args.folder.now) (record { folder = g.F.Folder.told c.end.new.folder; written = g.K.Sink.written c.play_input-ended.new.out; left = Some rest; clock = Some late }) both.0 (record { folder = g.F.Folder.told c.play_input-ended.new.folder; written = g.K.Sink.written c.play_input-ended.new.out; clock = Some between; refused = c.play_input-ended.new.lines.played.refused }) refl
    c.play_input-ended.result (sym c.closes_after.ensures ∙ c.if-not-closes_after.false) (both.1 _ (2 * handle_names) at) (λ next stands. ends next 0 stands))))

pub returns-in-Err-Device-clause-runs : goal.returns-in-Err-Device-clause-runs
returns-in-Err-Device-clause-runs g c =
    reads_then c.play_input-ended.ensures.played c.in-Err-Device.ensures.ends (λ early between late takes ends. takes_map takes (λ bytes rest both from limits readings start first there clock first_read at.
    unclosed_runs from limits readings (record { folder = start; written = g.K.Sink.written c.args.out.now; left = Some bytes; clock = first }) there clock (Some early) first_read c.args.lines.now.budget bytes _ _ (KeepsState c.play_input-ended.new.cache) c.play_input-ended.new.cache.notes (g.F.Folder.told c.args.folder.now) (record { folder = g.F.Folder.told c.end.new.folder; written = g.K.Sink.written c.play_input-ended.new.out; left = Some rest; clock = Some late }) both.0 (record { folder = g.F.Folder.told c.play_input-ended.new.folder; written = g.K.Sink.written c.play_input-ended.new.out; clock = Some between; refused = c.play_input-ended.new.lines.played.refused }) refl
    c.play_input-ended.result (sym c.closes_after.ensures ∙ c.if-not-closes_after.false) c.play_input-ended.ensures.source c.play_input-ended.ensures.sink (both.1 _ (2 * handle_names) at)
    (λ next stands. end_failed c.in-Err-Device.field-0 next _ _ _ c.in-Err-Device.field-0-is (ends next 0 stands))))

pub returns-in-Err-Damaged-clause-runs : goal.returns-in-Err-Damaged-clause-runs
returns-in-Err-Damaged-clause-runs g c =
    reads_then c.play_input-ended.ensures.played c.in-Err-Damaged.ensures.ends (λ early between late takes ends. takes_map takes (λ bytes rest both from limits readings start first there clock first_read at.
    let kept = kept_after c.play_input-ended.result c.args.lines.now.budget _ _ _ (KeepsState c.play_input-ended.new.cache) c.play_input-ended.new.cache.notes (2 * handle_names) _ _ (sym c.closes_after.ensures ∙ c.if-not-closes_after.false) (both.1 _ (2 * handle_names) at) in
    absurd (end_undamaged c.in-Err-Damaged.field-0 c.in-Err-Damaged.field-0-0 kept.0 _ _ _ c.in-Err-Damaged.field-0-is (ends kept.0 0 kept.1))))

pub returns-in-Err-Damaged-clause-untold : goal.returns-in-Err-Damaged-clause-untold
returns-in-Err-Damaged-clause-untold g c far at damaged =
    let kept = kept_after c.play_input-ended.result c.args.lines.now.budget _ _ far (KeepsState c.play_input-ended.new.cache) c.play_input-ended.new.cache.notes (2 * handle_names) _ _ (sym c.closes_after.ensures ∙ c.if-not-closes_after.false) ((reads_some c.play_input-ended.ensures.played some_readings).2.holds.1 far (2 * handle_names) at) in
    end_undamaged c.in-Err-Damaged.field-0 c.in-Err-Damaged.field-0-0 kept.0 _ _ _ c.in-Err-Damaged.field-0-is ((reads_some c.in-Err-Damaged.ensures.ends some_readings).2 kept.0 0 kept.1)

pub returns-then-not-closes_after-clause-cause : goal.returns-then-not-closes_after-clause-cause
returns-then-not-closes_after-clause-cause g c =
    input_cause c.status_of-status.result c.play_input-ended.result c.play_input-ended.new.lines.played.refused _ _ _ _ _ c.status_of-status.ensures
    (fails_somewhere c.play_input-ended.result c.play_input-ended.new.cache.files (g.F.Folder.told c.play_input-ended.new.folder) c.play_input-ended.ensures.damaged) c.play_input-ended.ensures.device c.play_input-ended.ensures.source c.play_input-ended.ensures.sink c.play_input-ended.ensures.too_long

pub returns-then-not-closes_after-clause-memory : goal.returns-then-not-closes_after-clause-memory
returns-then-not-closes_after-clause-memory g c is = session_memory c.play_input-ended.result c.play_input-ended.new.lines.played.refused (sym c.status_of-status.ensures ∙ is)

pub returns-in-Ok-clause-memory : goal.returns-in-Ok-clause-memory
returns-in-Ok-clause-memory g c is = session_memory c.play_input-ended.result c.play_input-ended.new.lines.played.refused (sym c.status_of-status.ensures ∙ is)

pub returns-then-not-closes_after-clause-handed : goal.returns-then-not-closes_after-clause-handed
returns-then-not-closes_after-clause-handed g c = subst (λ (s : Status). IfWhole s (g.K.Sink.waiting c.args.out.now ≡ false → g.K.Sink.waiting c.play_input-ended.new.out ≡ false)) (sym c.status_of-status.ensures) (session_whole (g.K.Sink.waiting c.args.out.now ≡ false → g.K.Sink.waiting c.play_input-ended.new.out ≡ false) c.play_input-ended.result c.play_input-ended.new.lines.played.refused c.play_input-ended.ensures.handed)

pub returns-in-Ok-clause-handed : goal.returns-in-Ok-clause-handed
returns-in-Ok-clause-handed g c = subst (λ (s : Status). IfWhole s (g.K.Sink.waiting c.args.out.now ≡ false → g.K.Sink.waiting c.play_input-ended.new.out ≡ false)) (sym c.status_of-status.ensures) (session_whole (g.K.Sink.waiting c.args.out.now ≡ false → g.K.Sink.waiting c.play_input-ended.new.out ≡ false) c.play_input-ended.result c.play_input-ended.new.lines.played.refused c.play_input-ended.ensures.handed)

pub returns-in-Ok-clause-untold : goal.returns-in-Ok-clause-untold
returns-in-Ok-clause-untold g c far at damaged =
    input_undamaged c.play_input-ended.result c.play_input-ended.new.lines.played.refused c.status_of-status.result c.args.lines.now.budget _ _ far (KeepsState c.play_input-ended.new.cache) c.play_input-ended.new.cache.notes (2 * handle_names) _ _ c.status_of-status.ensures ((reads_some c.play_input-ended.ensures.played some_readings).2.holds.1 far (2 * handle_names) at) damaged
