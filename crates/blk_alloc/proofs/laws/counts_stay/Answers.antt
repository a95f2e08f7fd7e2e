use Rattle.blk_alloc.proofs.Spared.{counted_stay, freed_still}
use Rattle.blk_alloc.proofs.laws.counts_stay.Goals as goal

pub returns-clause-counted : goal.returns-clause-counted
returns-clause-counted c = counted_stay

pub returns-clause-freed : goal.returns-clause-freed
returns-clause-freed c = freed_still
