use Rattle.law_state.proofs.CommandEnding.{doomed-writes-end, empty-sparse-writes-end, sparse-writes-end, sparse-writes-unsettle, writes-end, writes-unsettle}
use Rattle.law_state.proofs.commands.writes_end_once_written.Goals as goal

pub returns : goal.returns
returns c = record { unsettle = writes-unsettle; ends = writes-end; doomed = doomed-writes-end; sparse_unsettle = sparse-writes-unsettle; sparse_ends = sparse-writes-end; empty = empty-sparse-writes-end }
