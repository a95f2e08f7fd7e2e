use Rattle.std.proofs.Common.{◌+◌, ◌*◌, inr, [], None, Some, refl, arith, rules, List, ℕ, Option}
use Rattle.blk_model.specs.Bounds.{bounds_of}
use Rattle.blk_model.specs.Holding.{open_state}
use Rattle.blk_model.specs.Sizes.{handle_names}
use Rattle.spec_folder.specs.Found.{found}
use Rattle.blk_cache.specs.CacheKeeping.{KeepsState}
use Rattle.blk_cache.proofs.Ends.{kept-open}
use Rattle.blk_run.proofs.Assembling.{exit_unopened}
use Rattle.blk_run.proofs.Failures.{fails_behind}
use Rattle.blk_run.proofs.HeadlineBridge.{failed_by_start}
use Rattle.blk_run.proofs.SessionEnds.{begins_at, cause_since, device_cause, opened_at, rises_since, session_of_runs, sink_cause, source_cause}
use Rattle.blk_run.proofs.Completeness.{complete}
use Rattle.blk_run.proofs.Reading.{reads_first, reads_once, reads_told, takes_map, takes_none, takes_told, reads_none}
use Rattle.blk_run.specs.Telling.{TakesAs}
use Rattle.blk_run.specs.Session.{Session, seen_as}
use Rattle.spec_run.specs.Inputs.{by_lines}
use Rattle.blk_io.specs.Streams.{Readings}
use Rattle.spec_image.specs.Told.{Rises}
use Rattle.blk_run.proofs.sessions.session.Goals as goal

pub play-requires-clause-is_open : goal.play-requires-clause-is_open
play-requires-clause-is_open g c =
    opened_at (g.F.Folder.told c.args.folder.now).files (g.F.Folder.told c.start.new.f) _ c.start.ensures.writes.silent
    (λ from there image here. kept-open c.in-Ok-start.cache (open_state (found from) (bounds_of c.args.limits)) image (c.in-Ok-start.ensures.keeps from there image here).holds)

pub returns-in-Ok-start-clause-session : goal.returns-in-Ok-start-clause-session
returns-in-Ok-start-clause-session g c from there usable =
    reads_first c.now.result c.now.ensures.reading c.now.ensures.later c.play.ensures.runs (λ readings between late reading later runs. takes_map runs (λ bytes rest plays.
    let budget = c.ranges.budget.fits in
    let stands = begins_at from (bounds_of c.args.limits) readings (record { folder = g.F.Folder.told c.args.folder.now; written = g.K.Sink.written c.args.out.now; left = Some bytes; clock = Some readings }) there refl
    (KeepsState c.in-Ok-start.cache) (g.F.Folder.told c.start.new.f) c.in-Ok-start.cache.notes (2 * handle_names + (c.args.budget + 1)) usable (c.in-Ok-start.ensures.last from there) (c.in-Ok-start.ensures.keeps from there) c.in-Ok-start.ensures.notes (omega (arith, budget)) in
    session_of_runs c.play.result (bounds_of c.args.limits) c.args.budget from readings bytes _
    (plays from (bounds_of c.args.limits) readings (g.F.Folder.told c.args.folder.now) (Some readings) there refl later stands)))

pub returns-in-Ok-start-clause-cause : goal.returns-in-Ok-start-clause-cause
returns-in-Ok-start-clause-cause g c =
    let budget = c.ranges.budget.fits in
    cause_since c.play.result _ _ _ _ _ _ _
    (λ damaged fails. fails_behind (g.F.Folder.told c.args.folder.now) (g.F.Folder.told c.play.new.folder) (g.K.Sink.written c.args.out.now) (g.K.Sink.written c.play.new.out) (g.K.Sink.faults c.args.out.now) (g.K.Sink.faults c.play.new.out)
    (λ from there. c.play.ensures.untold _
    (begins_at from (bounds_of c.args.limits) (record { ahead = []; last = 0 }) (record { folder = g.F.Folder.told c.args.folder.now; written = None; left = None; clock = Some (record { ahead = []; last = 0 }) }) there refl
    (KeepsState c.in-Ok-start.cache) (g.F.Folder.told c.start.new.f) c.in-Ok-start.cache.notes (2 * handle_names + (c.args.budget + 1)) (c.in-Ok-start.ensures.checked from there) (c.in-Ok-start.ensures.last from there) (c.in-Ok-start.ensures.keeps from there) c.in-Ok-start.ensures.notes (omega (arith, budget)))
    damaged) fails)
    (rises_since (g.F.Folder.faults c.args.folder.now) (g.F.Folder.faults c.start.new.f) (g.F.Folder.faults c.play.new.folder) c.start.ensures.writes.later) c.play.ensures.cause

pub returns-in-Err-Device-clause-session : goal.returns-in-Err-Device-clause-session
returns-in-Err-Device-clause-session g c from there usable =
    reads_once c.now.result c.now.ensures.reading c.now.ensures.later (λ readings late reading later. takes_none [] (λ bytes.
    inr (exit_unopened from (bounds_of c.args.limits) readings (record { folder = g.F.Folder.told c.args.folder.now; written = g.K.Sink.written c.args.out.now; left = Some bytes; clock = Some readings }) there refl
    (record { folder = g.F.Folder.told c.start.new.f; written = g.K.Sink.written c.args.out.now; left = Some bytes; clock = Some late }) usable (failed_by_start from (bounds_of c.args.limits) (g.F.Folder.told c.args.folder.now) (g.F.Folder.told c.start.new.f) there (c.start.ensures.stops from there)) refl refl)))

pub returns-in-Ok-start-clause-complete : goal.returns-in-Ok-start-clause-complete
returns-in-Ok-start-clause-complete g c from there usable readings clock bytes left_is within no_device no_source no_sink =
    let cause = returns-in-Ok-start-clause-cause g c in
    complete (bounds_of c.args.limits) c.args.budget from readings bytes _ _ (g.K.Sink.faults c.args.out.now) (g.K.Sink.faults c.play.new.out) _ _ within no_device no_source no_sink c.play.result
    (device_cause c.play.result _ _ _ _ _ cause) (source_cause c.play.result _ _ _ _ _ cause) (sink_cause c.play.result _ _ _ _ _ cause)
    (takes_told (λ (b : List ℕ) (x y : Option (List ℕ)). Session by_lines c.play.result (bounds_of c.args.limits) c.args.budget from readings b (seen_as (record { folder = g.F.Folder.told c.args.folder.now; written = g.K.Sink.written c.args.out.now; left = x; clock = g.C.Clock.readings c.args.clock.now }) (record { folder = g.F.Folder.told c.play.new.folder; written = g.K.Sink.written c.play.new.out; left = y; clock = g.C.Clock.readings c.play.new.clock }) (Rises (g.F.Folder.faults c.args.folder.now) (g.F.Folder.faults c.play.new.folder)) (Rises (g.S.Source.faults c.args.input.now) (g.S.Source.faults c.play.new.input)) (g.K.Sink.faults c.args.out.now) (g.K.Sink.faults c.play.new.out)))
    (reads_told (λ (r : Readings) (o n : Option Readings). TakesAs (g.S.Source.left c.args.input.now) (g.S.Source.left c.play.new.input) (λ b a. Session by_lines c.play.result (bounds_of c.args.limits) c.args.budget from r b (seen_as (record { folder = g.F.Folder.told c.args.folder.now; written = g.K.Sink.written c.args.out.now; left = Some b; clock = o }) (record { folder = g.F.Folder.told c.play.new.folder; written = g.K.Sink.written c.play.new.out; left = Some a; clock = n }) (Rises (g.F.Folder.faults c.args.folder.now) (g.F.Folder.faults c.play.new.folder)) (Rises (g.S.Source.faults c.args.input.now) (g.S.Source.faults c.play.new.input)) (g.K.Sink.faults c.args.out.now) (g.K.Sink.faults c.play.new.out))))
    (returns-in-Ok-start-clause-session g c from there usable) readings clock) bytes left_is)

pub returns-in-Err-Memory-clause-session : goal.returns-in-Err-Memory-clause-session
returns-in-Err-Memory-clause-session g c from there usable = reads_once c.now.result c.now.ensures.reading c.now.ensures.later (λ readings late reading later. takes_none [] (λ bytes. search rules))

pub returns-in_default-clause-session : goal.returns-in_default-clause-session
returns-in_default-clause-session g c from there usable = reads_none (λ here. takes_none [] (λ bytes. record { unwritten = refl; unread = refl; unprinted = refl }))

pub returns-in_default-take_line_buffer-clause-session : goal.returns-in_default-take_line_buffer-clause-session
returns-in_default-take_line_buffer-clause-session g c from there usable = reads_none (λ here. takes_none [] (λ bytes. record { unwritten = refl; unread = refl; unprinted = refl }))
