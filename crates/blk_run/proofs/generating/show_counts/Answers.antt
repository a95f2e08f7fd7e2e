use Rattle.blk_gen.specs.Counting.{counts_line}
use Rattle.spec_run.specs.Script.{totals_line}
use Rattle.blk_run.proofs.Printed.{part_of, then_part}
use Rattle.blk_run.proofs.generating.show_counts.Goals as goal

pub returns-in-Ok-clause-front : goal.returns-in-Ok-clause-front
returns-in-Ok-clause-front g c =
    then_part (counts_line c.args.counts.now) (totals_line c.args.cache.now.items c.args.cache.now.bytes) (g.K.Sink.written c.args.out.now) (g.K.Sink.written c.print_counts.new.out) (g.K.Sink.written c.show_totals.new.out) c.in-Ok.ensures.steps c.show_totals.ensures.front

pub returns-in-Err-clause-front : goal.returns-in-Err-clause-front
returns-in-Err-clause-front g c =
    part_of (counts_line c.args.counts.now) (totals_line c.args.cache.now.items c.args.cache.now.bytes) (g.K.Sink.written c.args.out.now) (g.K.Sink.written c.print_counts.new.out) c.print_counts.ensures.prefix
