use Rattle.std.proofs.Common.{subst}
use Rattle.blk_host.specs.Numbers.{IsLeastNumber}
use Rattle.blk_host.proofs.LeastNames.{block-some, block-none}
use Rattle.blk_host.proofs.names.Names.least_block.Goals as goal

pub returns-in-Some : goal.returns-in-Some
returns-in-Some c =
    block-some _ _ c.in-Some.n (subst (IsLeastNumber c.args.self.now.blocks c.args.start) c.in-Some.is c.least_block_number.ensures)

pub returns-in-None : goal.returns-in-None
returns-in-None c =
    block-none _ _ _ (subst (IsLeastNumber c.args.self.now.blocks c.args.start) c.in-None.is c.least_block_number.ensures) c.least_external.ensures
