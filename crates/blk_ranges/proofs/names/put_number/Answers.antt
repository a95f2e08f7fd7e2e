use Rattle.std.proofs.Common.{arith, ◌∙◌}
use Rattle.blk_ranges.proofs.Spelling.{same-behind}
use Rattle.blk_ranges.proofs.names.put_number.Goals as goal

pub returns-clause-behind : goal.returns-clause-behind
returns-clause-behind c = c.put.ensures.behind ∙ same-behind c.put-end.result c.put.result c.put-end.new.out c.args.out.now (omega arith) c.put-end.ensures.behind
