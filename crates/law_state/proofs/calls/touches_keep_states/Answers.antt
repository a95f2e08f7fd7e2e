use Rattle.law_state.proofs.Touched.{touch-counts, touch-keeps}
use Rattle.law_state.proofs.calls.touches_keep_states.Goals as goal

pub returns : goal.returns
returns c = record { uncounted = touch-keeps; counted = touch-counts }
