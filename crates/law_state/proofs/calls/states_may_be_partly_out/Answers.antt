use Rattle.law_state.proofs.OneMoreOut.{one-more-goes}
use Rattle.law_state.proofs.PartlyFreed.{blocks-freed, files-deleted, out-changes}
use Rattle.law_state.proofs.PartlyOut.{kept-begin, only-listed, partly-out-ends}
use Rattle.law_state.proofs.UnlinkedOrder.{out-in-any-order}
use Rattle.law_state.proofs.calls.states_may_be_partly_out.Goals as goal

pub returns : goal.returns
returns c = record { begins = kept-begin; one_more = one-more-goes; freed = blocks-freed; deleted = files-deleted; any_order = out-in-any-order; changed = out-changes; listed = only-listed; ends = partly-out-ends }
