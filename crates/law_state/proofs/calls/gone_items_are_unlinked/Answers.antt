use Rattle.law_state.proofs.Groups.{gone-items}
use Rattle.law_state.proofs.calls.gone_items_are_unlinked.Goals as goal

pub returns : goal.returns
returns c = gone-items
