use Rattle.law_state.proofs.Charges.{charges-small}
use Rattle.law_state.proofs.Counters.{counter-keeps, counters-count}
use Rattle.law_state.proofs.calls.counters_are_written.Goals as goal

pub returns : goal.returns
returns c = record { each = counter-keeps; small = charges-small; counted = counters-count }
