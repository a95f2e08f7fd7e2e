use Rattle.blk_audit.proofs.AllChains.{reached-chains, reached-chained, unlisted-reached}
use Rattle.blk_audit.proofs.laws.chains_are_reached_apart.Goals as goal

pub returns : goal.returns
returns c = record { chains = reached-chains; chained = reached-chained; unlisted = unlisted-reached }
