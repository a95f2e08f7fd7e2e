use Rattle.law_state.proofs.Freed.{allocated-added, freed-removed}
use Rattle.law_state.proofs.calls.allocations_come_and_go.Goals as goal

pub returns : goal.returns
returns c = record { added = allocated-added; removed = freed-removed }
