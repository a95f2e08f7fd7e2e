use Rattle.law_state.proofs.Links.{removed-less}
use Rattle.law_state.proofs.calls.removed_items_are_one_less.Goals as goal

pub returns : goal.returns
returns c = removed-less
