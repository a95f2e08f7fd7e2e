use Rattle.law_state.proofs.DoomedMarks.{doomed-marking-counts, doomed-marking-finds, doomed-marking-keeps}
use Rattle.law_state.proofs.calls.doomed_objects_are_marked.Goals as goal

pub returns : goal.returns
returns c = record { find = doomed-marking-finds; uncounted = doomed-marking-keeps; counted = doomed-marking-counts }
