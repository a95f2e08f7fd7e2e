use Rattle.std.proofs.Common.{length}
use Rattle.std.specs.List.{flat_map}
use Rattle.blk_script.specs.Reply.{reply_text}
use Rattle.blk_inspect.specs.Texts.{end_line}
use Rattle.blk_inspect.proofs.Lines.{first_prefix, then_prefix, then_said}
use Rattle.blk_inspect.proofs.rows.print_counted.Goals as goal

pub returns-in_err-print_rows-clause-prefix : goal.returns-in_err-print_rows-clause-prefix
returns-in_err-print_rows-clause-prefix g c = first_prefix _ _ (flat_map g.R.Row.text c.args.rows.now) (end_line (length c.args.rows.now)) c.print_rows.ensures.prefix

pub returns-clause-steps : goal.returns-clause-steps
unfolding reply_text
returns-clause-steps g c = then_said c.print_reply.result _ _ _ (flat_map g.R.Row.text c.args.rows.now) (end_line (length c.args.rows.now)) c.in_ok-print_rows.ensures.steps c.print_reply.ensures.steps

pub returns-clause-prefix : goal.returns-clause-prefix
unfolding reply_text
returns-clause-prefix g c = then_prefix _ _ _ (flat_map g.R.Row.text c.args.rows.now) (end_line (length c.args.rows.now)) c.in_ok-print_rows.ensures.steps c.print_reply.ensures.prefix
