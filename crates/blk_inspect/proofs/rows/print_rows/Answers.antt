use Rattle.std.proofs.Common.{◌+◌, drop, length, refl}
use Rattle.std.specs.List.{flat_map}
use Rattle.std.proofs.lemmas.Option.{slice_get_read}
use Rattle.blk_script.proofs.Putting.{not_yet, put_more, put_partly, put_so_far}
use Rattle.blk_inspect.proofs.Lines.{all_put, lines_at, lines_end}
use Rattle.blk_io.proofs.GoingOn.{goes_on, stays_on}
use Rattle.blk_inspect.proofs.rows.print_rows.Goals as goal

pub returns-in_err-print-clause-prefix : goal.returns-in_err-print-clause-prefix
returns-in_err-print-clause-prefix g c =
    put_partly _ _ _ _ _ (g.R.Row.text c.row-item.result) (flat_map g.R.Row.text (drop (c.loop-row.row-index + 1) c.args.rows.now)) c.loop-row.invariant.put
    (lines_at g.R.Row.text c.args.rows.now c.loop-row.row-index c.row-item.result (slice_get_read c.args.rows.now (length c.args.rows.now) c.loop-row.row-index c.row-item.result refl c.loop-row-test.true c.row-item.is)) c.print.ensures.prefix

pub loop-row-init : goal.loop-row-init
loop-row-init g c = record { put = not_yet _ _; later = stays_on }

pub loop-row-preserved : goal.loop-row-preserved
loop-row-preserved g c = record {
  put = put_more _ _ _ _ _ (g.R.Row.text c.row-item.result) (flat_map g.R.Row.text (drop (c.loop-row.row-index + 1) c.args.rows.now)) c.loop-row.invariant.put
      (lines_at g.R.Row.text c.args.rows.now c.loop-row.row-index c.row-item.result (slice_get_read c.args.rows.now (length c.args.rows.now) c.loop-row.row-index c.row-item.result refl c.loop-row-test.true c.row-item.is)) c.in_ok-print.ensures.steps;
  later = goes_on c.loop-row.invariant.later c.print.ensures.later;
}

pub returns-clause-steps : goal.returns-clause-steps
returns-clause-steps g c = all_put _ _ _ _ (lines_end g.R.Row.text c.args.rows.now c.loop-row.row-index c.loop-row-test.false) c.loop-row.invariant.put

pub returns-clause-prefix : goal.returns-clause-prefix
returns-clause-prefix g c = put_so_far _ _ _ _ c.loop-row.invariant.put
