use Rattle.std.proofs.Common.{length, ◌+◌, ◌-◌, arith, ap, ◌∙◌}
use Rattle.std.proofs.lemmas.Slice.{drop-put_mid}
use Rattle.blk_ranges.proofs.names.put.Goals as goal

pub returns-clause-behind : goal.returns-clause-behind
returns-clause-behind c = drop-put_mid c.args.at (c.args.at + length c.args.bytes.now - c.args.at) c.args.out.now c.copy_from_slice.new.self (c.args.at + length c.args.bytes.now) (omega arith) (omega arith) (ap length c.copy_from_slice.ensures.after ∙ omega arith)
