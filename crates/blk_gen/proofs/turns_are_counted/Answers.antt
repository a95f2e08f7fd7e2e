use Rattle.blk_gen.proofs.Said.{turns-say, few-commands}
use Rattle.blk_gen.proofs.turns_are_counted.Goals as goal

pub returns : goal.returns
returns c = record { says = turns-say; few = few-commands }
