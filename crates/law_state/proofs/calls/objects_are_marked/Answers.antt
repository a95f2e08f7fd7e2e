use Rattle.law_state.proofs.AtNodes.{updates-change, updates-leave}
use Rattle.law_state.proofs.Dirtying.{marking-counts, marking-finds, marking-keeps}
use Rattle.law_state.proofs.calls.objects_are_marked.Goals as goal

pub returns : goal.returns
returns c = record { blocks = updates-change; counters = updates-leave; find = marking-finds; uncounted = marking-keeps; counted = marking-counts }
