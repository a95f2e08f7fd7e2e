use Rattle.law_state.proofs.CountsOfParts.{doomed-less, gone-less, next-less, part-more}
use Rattle.law_state.proofs.commands.parts_are_counted.Goals as goal

pub returns : goal.returns
returns c = record { gone = gone-less; doomed = doomed-less; next = next-less; made = part-more }
