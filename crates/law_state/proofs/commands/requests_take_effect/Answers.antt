use Rattle.law_state.proofs.CommandEnding.{groups-turn, passed, trims-end, trims-left}
use Rattle.law_state.proofs.GroupsGone.{parts-go-alone, whole-groups-go}
use Rattle.law_state.proofs.commands.requests_take_effect.Goals as goal

pub returns : goal.returns
returns c = record { effect = passed; in_turn = groups-turn; as_doomed = whole-groups-go; alone = parts-go-alone; trims = trims-end; trims_leave = trims-left }
