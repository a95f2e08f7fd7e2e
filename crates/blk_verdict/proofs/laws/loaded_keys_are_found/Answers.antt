use Rattle.blk_verdict.proofs.KeptKeysFound.{charged, indexes-found, keys-found}
use Rattle.blk_verdict.proofs.laws.loaded_keys_are_found.Goals as goal

pub returns : goal.returns
returns c = record { keys = keys-found; indexes = indexes-found; charges = charged }
