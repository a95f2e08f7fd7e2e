use Rattle.law_state.proofs.OutGroups.{out-groups-gone, unheld-out-dooms-end}
use Rattle.law_state.proofs.commands.objects_go_part_after_part.Goals as goal

pub returns : goal.returns
returns c = record { unheld_dooms = unheld-out-dooms-end; groups = out-groups-gone }
