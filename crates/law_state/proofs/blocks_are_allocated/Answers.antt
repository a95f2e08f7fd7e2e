use Rattle.law_state.proofs.Allocating.{allocated-unlinked}
use Rattle.law_state.proofs.Freeing.{freed-gone}
use Rattle.law_state.proofs.Writes.{growth-finds}
use Rattle.law_state.proofs.blocks_are_allocated.Goals as goal

pub returns : goal.returns
returns c = record { growth = growth-finds; unlinked = allocated-unlinked; freed = freed-gone }
