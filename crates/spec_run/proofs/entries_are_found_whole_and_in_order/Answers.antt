use Rattle.spec_run.proofs.CrashedCommands.{rows_are_from_before, rows_go_by_one_list, unsaved_are_lost, unused_keep_their_order}
use Rattle.spec_run.proofs.ValidStates.{states_are_valid}
use Rattle.spec_run.proofs.WholeEntries.{entries_are_whole, new_are_lost}
use Rattle.spec_run.proofs.entries_are_found_whole_and_in_order.Goals as goal

pub returns : goal.returns
returns c = record {
  before = rows_are_from_before;
  lost = unsaved_are_lost;
  new = new_are_lost;
  list = rows_go_by_one_list;
  whole = entries_are_whole;
  order = unused_keep_their_order;
  valid = states_are_valid;
}
