use Rattle.law_state.proofs.Links.{data-inside, updates-are-inside}
use Rattle.law_state.proofs.calls.changes_are_inside.Goals as goal

pub returns : goal.returns
returns c = record { stored = data-inside; fields = updates-are-inside }
