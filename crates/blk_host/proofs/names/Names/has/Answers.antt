use Rattle.std.proofs.Common.{sym, ◌∙◌, ap}
use Rattle.blk_host.specs.Names.{has}
use Rattle.blk_host.proofs.HasNames.{has-index, has-block, has-external}
use Rattle.blk_host.proofs.names.Names.has.Goals as goal

pub returns-in-Index : goal.returns-in-Index
returns-in-Index c = sym (ap (has c.args.self.now) c.in-Index.is ∙ has-index c.args.self.now)

pub returns-in-Block : goal.returns-in-Block
returns-in-Block c = c.contains.ensures ∙ sym (ap (has c.args.self.now) c.in-Block.is ∙ has-block c.args.self.now c.in-Block.n)

pub returns-in-External : goal.returns-in-External
returns-in-External c = c.contains-in-External.ensures ∙ sym (ap (has c.args.self.now) c.in-External.is ∙ has-external c.args.self.now c.in-External.n)
