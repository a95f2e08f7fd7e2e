use Rattle.std.proofs.Common.{sym, subst, Option, Some}
use Rattle.blk_io.specs.declared.folder.FileId.{FileId}
use Rattle.blk_io.specs.declared.folder.FileId.TheVariants.{Index}
use Rattle.blk_host.specs.FileIds.{ComesAfter}
use Rattle.blk_host.specs.Names.{IsLeastName}
use Rattle.blk_host.proofs.LeastNames.{index-least, all-least}
use Rattle.blk_host.proofs.names.Names.next.Goals as goal

pub returns-in-None-clause-next : goal.returns-in-None-clause-next
returns-in-None-clause-next c =
    subst (λ (after : Option FileId). IsLeastName c.args.self.now (ComesAfter after) (Some Index)) (sym c.in-None.is) (index-least c.args.self.now c.if-self.true)

pub returns-in-None-2-clause-next : goal.returns-in-None-2-clause-next
returns-in-None-2-clause-next c =
    subst (λ (after : Option FileId). IsLeastName c.args.self.now (ComesAfter after) c.least_block.result) (sym c.in-None-2.is) (all-least c.args.self.now c.least_block.result c.if-self.false c.least_block.ensures)
