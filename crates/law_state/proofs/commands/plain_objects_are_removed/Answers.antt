use Rattle.law_state.proofs.PlainRemovals.{doomed-removed, held-dooms-end, lone-parts-go, part-gone-without, part-removed, plain-groups-go, removing-doomed, removing-part, unheld-dooms-end}
use Rattle.law_state.proofs.commands.plain_objects_are_removed.Goals as goal

pub returns : goal.returns
returns c = record { part = part-gone-without; removing = removing-doomed; removed = doomed-removed; removing_part = removing-part; removed_part = part-removed; unheld_dooms = unheld-dooms-end; held_dooms = held-dooms-end; groups = plain-groups-go; parts = lone-parts-go }
