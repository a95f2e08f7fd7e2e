use Rattle.law_state.proofs.WordStops.{cleaning-stops, settling-stops, unsettled-uses-stop, unsettling-stops, uses-stop}
use Rattle.law_state.proofs.commands.uses_may_be_stopped.Goals as goal

pub returns : goal.returns
returns c = record { uses = uses-stop; unsettled_uses = unsettled-uses-stop; unsettles = unsettling-stops; settles = settling-stops; cleans = cleaning-stops }
