use Rattle.std.proofs.Common.{subst}
use Rattle.spec_image.specs.Told.{Rises}
use Rattle.spec_run.specs.Script.{count_script}
use Rattle.blk_cache.proofs.CreationTimes.{crash-moment}
use Rattle.blk_run.specs.declared.ending.Status.{Status}
use Rattle.blk_run.specs.Session.{FixedRuns}
use Rattle.blk_run.proofs.CountRuns.{count_closed, count_unclosed, status_at_ok, status_at_sink}
use Rattle.blk_run.proofs.Counted.{number_stays}
use Rattle.blk_run.proofs.HeadlineBridge.{ends_by_mark}
use Rattle.blk_run.proofs.counting.count.Goals as goal

pub returns-in-Ok-Err-clause-session : goal.returns-in-Ok-Err-clause-session
returns-in-Ok-Err-clause-session g c sink = number_stays c.in-Ok-Err.ensures.steps

pub returns-in-Ok-Ok-clause-session : goal.returns-in-Ok-Ok-clause-session
returns-in-Ok-Ok-clause-session g c ok = number_stays c.in-Ok-Ok.ensures.steps

pub returns-in-Ok-Err-clause-made : goal.returns-in-Ok-Err-clause-made
returns-in-Ok-Err-clause-made g c sink = crash-moment 0 c.in-Ok-Err.ensures.steps

pub returns-in-Ok-Ok-clause-made : goal.returns-in-Ok-Ok-clause-made
returns-in-Ok-Ok-clause-made g c ok = crash-moment 0 c.in-Ok-Ok.ensures.steps

pub returns-in-Err-default-clause-runs : goal.returns-in-Err-default-clause-runs
returns-in-Err-default-clause-runs g c from limits readings left start first next there is read at =
    count_unclosed c.args.cache c.requires.free from limits readings left start first next there is read (g.F.Folder.told c.args.folder.now) (g.F.Folder.told c.finish.new.f) (g.K.Sink.written c.args.out.now) (g.K.Sink.written c.show_totals-printed.new.out) (Rises (g.K.Sink.faults c.args.out.now) (g.K.Sink.faults c.show_totals-printed.new.out))
    c.show_totals-printed.result c.show_totals-printed.ensures.printed c.show_totals-printed.ensures.front c.show_totals-printed.ensures.only at
    (ends_by_mark (g.F.Folder.told c.args.folder.now) (g.F.Folder.told c.finish.new.f) c.finish.ensures.prefix) c.finish.ensures.stops c.show_totals-printed.ensures.sink

pub returns-in-Ok-Err-clause-runs : goal.returns-in-Ok-Err-clause-runs
returns-in-Ok-Err-clause-runs g c from limits readings left start first next there is read at =
    subst (λ (s : Status). FixedRuns s count_script limits from readings (Rises (g.K.Sink.faults c.args.out.now) (g.K.Sink.faults c.show_totals-printed.new.out)) (record { folder = start; written = g.K.Sink.written c.args.out.now; left = left; clock = first }) (record { folder = g.F.Folder.told c.finish.new.f; written = g.K.Sink.written c.show_totals-printed.new.out; left = left; clock = next })) (status_at_sink c.show_totals-printed.result _ c.in-Ok-Err.is-1 c.show_totals-printed.ensures.only)
    (count_closed c.args.cache c.requires.free from limits readings left start first next there is read (g.F.Folder.told c.args.folder.now) (g.F.Folder.told c.finish.new.f) (g.K.Sink.written c.args.out.now) (g.K.Sink.written c.show_totals-printed.new.out) (Rises (g.K.Sink.faults c.args.out.now) (g.K.Sink.faults c.show_totals-printed.new.out))
    c.show_totals-printed.result c.show_totals-printed.ensures.printed c.show_totals-printed.ensures.front c.show_totals-printed.ensures.only at
    (ends_by_mark (g.F.Folder.told c.args.folder.now) (g.F.Folder.told c.finish.new.f) c.finish.ensures.prefix) c.finish.ensures.stops c.in-Ok-Err.ensures.ended)

pub returns-in-Ok-Ok-clause-runs : goal.returns-in-Ok-Ok-clause-runs
returns-in-Ok-Ok-clause-runs g c from limits readings left start first next there is read at =
    subst (λ (s : Status). FixedRuns s count_script limits from readings (Rises (g.K.Sink.faults c.args.out.now) (g.K.Sink.faults c.show_totals-printed.new.out)) (record { folder = start; written = g.K.Sink.written c.args.out.now; left = left; clock = first }) (record { folder = g.F.Folder.told c.finish.new.f; written = g.K.Sink.written c.show_totals-printed.new.out; left = left; clock = next })) (status_at_ok c.show_totals-printed.result _ c.in-Ok-Ok.is-1)
    (count_closed c.args.cache c.requires.free from limits readings left start first next there is read (g.F.Folder.told c.args.folder.now) (g.F.Folder.told c.finish.new.f) (g.K.Sink.written c.args.out.now) (g.K.Sink.written c.show_totals-printed.new.out) (Rises (g.K.Sink.faults c.args.out.now) (g.K.Sink.faults c.show_totals-printed.new.out))
    c.show_totals-printed.result c.show_totals-printed.ensures.printed c.show_totals-printed.ensures.front c.show_totals-printed.ensures.only at
    (ends_by_mark (g.F.Folder.told c.args.folder.now) (g.F.Folder.told c.finish.new.f) c.finish.ensures.prefix) c.finish.ensures.stops c.in-Ok-Ok.ensures.ended)
