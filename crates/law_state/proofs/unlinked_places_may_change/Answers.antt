use Rattle.law_state.proofs.Free.{unlinked-change}
use Rattle.law_state.proofs.Writes.{block-writes, external-writes, index-words}
use Rattle.law_state.proofs.unlinked_places_may_change.Goals as goal

pub returns : goal.returns
returns c = record { kept = unlinked-change; blocks = block-writes; externals = external-writes; index = index-words }
