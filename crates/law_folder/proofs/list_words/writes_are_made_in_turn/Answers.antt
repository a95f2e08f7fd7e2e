use Rattle.law_folder.proofs.updates.Sealing.{writes-seal, writes-keep, node-updates}
use Rattle.law_folder.proofs.lists.WriteSteps.{writes-in_turn, writes-made, writes-go_on}
use Rattle.law_folder.proofs.list_words.writes_are_made_in_turn.Goals as goal

pub returns : goal.returns
returns c = record { at_each_word = writes-in_turn; ends = writes-made; writable = writes-go_on; sealed = writes-seal; seals_stand = writes-keep; updated = node-updates }
