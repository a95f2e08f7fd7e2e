use Rattle.std.proofs.Common.{refl}
use Rattle.blk_host.proofs.HasNames.{has-none}
use Rattle.blk_host.proofs.names.Names.new.Goals as goal

pub returns : goal.returns
returns c = has-none _ refl c.new.ensures.empty c.new-2.ensures.empty
