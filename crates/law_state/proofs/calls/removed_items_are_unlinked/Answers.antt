use Rattle.law_state.proofs.Removals.{removals-find, removed-unlinked, unlinking-finds}
use Rattle.law_state.proofs.calls.removed_items_are_unlinked.Goals as goal

pub returns : goal.returns
returns c = record { removing = removals-find; unlinking = unlinking-finds; kept = removed-unlinked }
