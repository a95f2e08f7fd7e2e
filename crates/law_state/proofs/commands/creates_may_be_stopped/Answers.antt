use Rattle.law_state.proofs.CreateStops.{creates-counted, inserts-stop, links-stop}
use Rattle.law_state.proofs.commands.creates_may_be_stopped.Goals as goal

pub returns : goal.returns
returns c = record { inserts = inserts-stop; links = links-stop; ends = creates-counted }
