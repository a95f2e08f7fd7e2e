use Rattle.law_state.proofs.Touching.{opens-stop, touches-find}
use Rattle.law_state.proofs.items_are_touched.Goals as goal

pub returns : goal.returns
returns c = record { find = touches-find; opens = opens-stop }
