use Rattle.std.proofs.Common.{subst}
use Rattle.blk_host.specs.Numbers.{IsLeastNumber}
use Rattle.blk_host.proofs.LeastNames.{external-some, external-none}
use Rattle.blk_host.proofs.names.Names.least_external.Goals as goal

pub returns-in-Some : goal.returns-in-Some
returns-in-Some c =
    external-some _ _ c.in-Some.n (subst (IsLeastNumber c.args.self.now.externals c.args.start) c.in-Some.is c.least_external_number.ensures)

pub returns-in-None : goal.returns-in-None
returns-in-None c =
    external-none _ _ (subst (IsLeastNumber c.args.self.now.externals c.args.start) c.in-None.is c.least_external_number.ensures)
