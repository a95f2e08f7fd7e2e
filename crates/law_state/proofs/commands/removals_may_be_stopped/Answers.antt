use Rattle.law_state.proofs.WordStops.{doomed-parts-find, dooms-find, dooms-stop, groups-stop, out-doomed, whole-groups-stop}
use Rattle.law_state.proofs.PartsOut.{part-out, parts-find}
use Rattle.law_state.proofs.commands.removals_may_be_stopped.Goals as goal

pub returns : goal.returns
returns c = record { either = dooms-find; out = out-doomed; parts = doomed-parts-find; dooms = dooms-stop; alone = parts-find; gone = part-out; groups = groups-stop; whole = whole-groups-stop }
