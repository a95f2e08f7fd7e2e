use Rattle.law_folder.proofs.claims.Inside.{writes-inside, updates-inside}
use Rattle.law_folder.proofs.mid_updates.blocks_change_inside.Goals as goal

pub returns : goal.returns
returns c = record { writes = writes-inside; updates = updates-inside }
