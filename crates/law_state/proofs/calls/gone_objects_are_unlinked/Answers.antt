use Rattle.law_state.proofs.Gone.{gone-uncounted, gone-unlinked}
use Rattle.law_state.proofs.calls.gone_objects_are_unlinked.Goals as goal

pub returns : goal.returns
returns c = record { uncounted = gone-unlinked; counted = gone-uncounted }
