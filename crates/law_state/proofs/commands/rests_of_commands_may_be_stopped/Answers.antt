use Rattle.law_state.proofs.RestExamples.{only-in-rest}
use Rattle.law_state.proofs.RestsOfCommands.{rest-ends, rest-steps, rest-stops, rests-evict, rests-pass, trims-go-on}
use Rattle.law_state.proofs.commands.rests_of_commands_may_be_stopped.Goals as goal

pub returns : goal.returns
returns c = record { passes = rests-pass; evicts = rests-evict; trims = trims-go-on; steps = rest-steps; ends = rest-ends; stops = rest-stops; only_where = only-in-rest }
