use Rattle.std.proofs.Common.{◌++◌, length, subst}
use Rattle.std.specs.List.{flat_map}
use Rattle.blk_io.specs.Streams.{Appends}
use Rattle.spec_run.specs.Script.{totals_line}
use Rattle.blk_inspect.specs.Findings.{dropped_line_told}
use Rattle.blk_inspect.specs.Texts.{kept_line}
use Rattle.blk_inspect.proofs.Lines.{first_prefix, said, then_prefix, then_said}
use Rattle.blk_inspect.proofs.verdict.print_verdict.Goals as goal

pub returns-in_err-print_kept-clause-prefix : goal.returns-in_err-print_kept-clause-prefix
returns-in_err-print_kept-clause-prefix g c =
    let s = c.args.scan.now in
    first_prefix _ _ (kept_line (length s.kept.items)) (flat_map dropped_line_told s.dropped.items ++ totals_line (length s.kept.items) s.bytes) c.print_kept.ensures.prefix

pub returns-in_err-print_all_dropped-clause-prefix : goal.returns-in_err-print_all_dropped-clause-prefix
returns-in_err-print_all_dropped-clause-prefix g c =
    let s = c.args.scan.now in
    then_prefix _ _ _ (kept_line (length s.kept.items)) (flat_map dropped_line_told s.dropped.items ++ totals_line (length s.kept.items) s.bytes)
    c.in_ok-print_kept.ensures.steps
    (first_prefix _ _ (flat_map dropped_line_told s.dropped.items) (totals_line (length s.kept.items) s.bytes) c.print_all_dropped.ensures.prefix)

pub returns-clause-steps : goal.returns-clause-steps
returns-clause-steps g c =
    let s = c.args.scan.now in
    then_said c.print_totals.result _ _ _ (kept_line (length s.kept.items)) (flat_map dropped_line_told s.dropped.items ++ totals_line (length s.kept.items) s.bytes)
    c.in_ok-print_kept.ensures.steps
    (then_said c.print_totals.result _ _ _ (flat_map dropped_line_told s.dropped.items) (totals_line (length s.kept.items) s.bytes) c.in_ok-print_all_dropped.ensures.steps
    (said c.print_totals.result _ _ _ _ (λ i. totals_line (c.items.ensures i) (c.bytes.ensures i)) c.print_totals.ensures.steps))

pub returns-clause-prefix : goal.returns-clause-prefix
returns-clause-prefix g c =
    let s = c.args.scan.now in
    then_prefix _ _ _ (kept_line (length s.kept.items)) (flat_map dropped_line_told s.dropped.items ++ totals_line (length s.kept.items) s.bytes)
    c.in_ok-print_kept.ensures.steps
    (then_prefix _ _ _ (flat_map dropped_line_told s.dropped.items) (totals_line (length s.kept.items) s.bytes) c.in_ok-print_all_dropped.ensures.steps
    (subst (Appends _ _) (λ i. totals_line (c.items.ensures i) (c.bytes.ensures i)) c.print_totals.ensures.prefix))
