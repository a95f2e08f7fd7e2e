use Rattle.law_state.proofs.Objects.{handles-change, handles-uncounted}
use Rattle.law_state.proofs.calls.handles_are_not_kept.Goals as goal

pub returns : goal.returns
returns c = record { uncounted = handles-change; counted = handles-uncounted }
