use Rattle.law_folder.proofs.walks.Loads.{one-chain}
use Rattle.law_folder.proofs.one_key_is_in_one_chain.Goals as goal

pub returns : goal.returns
returns c = one-chain
