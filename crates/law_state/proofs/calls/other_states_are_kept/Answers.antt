use Rattle.law_state.proofs.Arranging.{rearranged}
use Rattle.law_state.proofs.UnlinkedOrder.{kept-in-any-order}
use Rattle.law_state.proofs.calls.other_states_are_kept.Goals as goal

pub returns : goal.returns
returns c = record { rearranged = rearranged; any_order = kept-in-any-order }
