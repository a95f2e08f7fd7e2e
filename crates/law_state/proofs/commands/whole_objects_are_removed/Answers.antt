use Rattle.law_state.proofs.DoomedWhole.{held-whole-dooms-end, whole-objects-doomed}
use Rattle.law_state.proofs.WholeRemovals.{groups-go, unheld-whole-dooms-end, whole-removed}
use Rattle.law_state.proofs.commands.whole_objects_are_removed.Goals as goal

pub returns : goal.returns
returns c = record { removed = whole-removed; unheld_dooms = unheld-whole-dooms-end; doomed = whole-objects-doomed; held_dooms = held-whole-dooms-end; groups = groups-go }
