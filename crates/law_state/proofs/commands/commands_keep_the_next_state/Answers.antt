use Rattle.law_state.proofs.NextStates.{closes-next, closes-of-many-next, creates-next, doomed-writes-next, dooms-next, empty-sparse-writes-next, flushes-next, opens-next, sparse-writes-next, trims-next, uses-next, writes-next}
use Rattle.law_state.proofs.commands.commands_keep_the_next_state.Goals as goal

pub returns : goal.returns
returns c = record { uses = uses-next; opens = opens-next; creates = creates-next; writes = writes-next; doomed_writes = doomed-writes-next; sparse_writes = sparse-writes-next; empty_sparse_writes = empty-sparse-writes-next; closes_of_many = closes-of-many-next; closes = closes-next; flushes = flushes-next; dooms = dooms-next; trims = trims-next }
