use Rattle.std.proofs.Common.{◌+◌, drop, sym, ◌∙◌, arith}
use Rattle.std.specs.List.{flat_map}
use Rattle.std.proofs.lemmas.Option.{slice_get_within}
use Rattle.blk_script.proofs.Putting.{put_more, put_partly}
use Rattle.blk_inspect.specs.Findings.{dropped_line_told}
use Rattle.blk_inspect.proofs.Lines.{all_put, lines_at, lines_none}
use Rattle.blk_io.proofs.GoingOn.{goes_on}
use Rattle.blk_inspect.proofs.verdict.print_all_dropped.Goals as goal

pub returns-in_err-print_dropped-clause-prefix : goal.returns-in_err-print_dropped-clause-prefix
returns-in_err-print_dropped-clause-prefix g c =
    put_partly _ _ _ _ _ (dropped_line_told c.in-Some.one) (flat_map dropped_line_told (drop (c.loop-one.next + 1) c.args.scan.now.dropped.items)) c.loop-one.invariant.put
    (lines_at dropped_line_told c.args.scan.now.dropped.items c.loop-one.next c.in-Some.one (sym c.dropped_at.ensures ∙ c.in-Some.is)) c.print_dropped.ensures.prefix

pub loop-one-smaller : goal.loop-one-smaller
loop-one-smaller g c = let within = slice_get_within c.args.scan.now.dropped.items c.loop-one.next c.in-Some.one (sym c.dropped_at.ensures ∙ c.in-Some.is) in omega (arith, within)

pub loop-one-preserved : goal.loop-one-preserved
loop-one-preserved g c = record {
  put = put_more _ _ _ _ _ (dropped_line_told c.in-Some.one) (flat_map dropped_line_told (drop (c.loop-one.next + 1) c.args.scan.now.dropped.items)) c.loop-one.invariant.put
      (lines_at dropped_line_told c.args.scan.now.dropped.items c.loop-one.next c.in-Some.one (sym c.dropped_at.ensures ∙ c.in-Some.is)) c.in_ok-print_dropped.ensures.steps;
  later = goes_on c.loop-one.invariant.later c.print_dropped.ensures.later;
  within = let within = slice_get_within c.args.scan.now.dropped.items c.loop-one.next c.in-Some.one (sym c.dropped_at.ensures ∙ c.in-Some.is) in omega (arith, within);
}

pub returns-clause-steps : goal.returns-clause-steps
returns-clause-steps g c = all_put _ _ _ _ (lines_none dropped_line_told c.args.scan.now.dropped.items c.loop-one.next (sym c.dropped_at.ensures ∙ c.in_default.is)) c.loop-one.invariant.put
