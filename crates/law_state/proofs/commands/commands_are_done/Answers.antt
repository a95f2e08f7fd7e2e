use Rattle.law_state.specs.Keeping.{KeepsSome}
use Rattle.law_state.proofs.Stages.{effects-done, ends-kept, notes-end}
use Rattle.law_state.proofs.commands.commands_are_done.Goals as goal

pub returns : goal.returns
returns c = record { ends = ends-kept; done = effects-done KeepsSome; noted = notes-end }
