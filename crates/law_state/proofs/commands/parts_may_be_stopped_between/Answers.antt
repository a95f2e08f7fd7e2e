use Rattle.law_state.proofs.PartlyOutStops.{deleting-doomed, freeing-finds, next-parts-find, own-items-leave, partly-out-dooms-stop, partly-out-finds, partly-out-groups-stop, partly-out-is-out, unlinking-items-find}
use Rattle.law_state.proofs.commands.parts_may_be_stopped_between.Goals as goal

pub returns : goal.returns
returns c = record { leave = own-items-leave; out = partly-out-is-out; found = partly-out-finds; parts = next-parts-find; unlinking = unlinking-items-find; freeing = freeing-finds; deleting = deleting-doomed; dooms = partly-out-dooms-stop; groups = partly-out-groups-stop }
