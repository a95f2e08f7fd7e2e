use Rattle.law_state.proofs.Free.{same-counted, then-found}
use Rattle.law_state.proofs.Stopping.{held-found, held-found-along}
use Rattle.law_state.proofs.calls_keep_states.Goals as goal

pub returns : goal.returns
returns c = record { held = held-found; along = held-found-along; found = then-found; counters = same-counted }
