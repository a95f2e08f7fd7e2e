use Rattle.blk_chain.proofs.Examples.{some-chain}
use Rattle.blk_chain.proofs.laws.chains_with_entries_can_be_searched.Goals as goal

pub returns : goal.returns
returns c = record { searched = some-chain }
