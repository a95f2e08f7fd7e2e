use Rattle.law_state.proofs.Stopping.{stop-before, stop-after, stop-evicted, kept-stop, finished-stop, finished-along}
use Rattle.law_state.proofs.requests_may_be_stopped.Goals as goal

pub returns : goal.returns
returns c = record { before = stop-before; after = stop-after; evicted = stop-evicted; kept = kept-stop; finished = finished-stop; along = finished-along }
