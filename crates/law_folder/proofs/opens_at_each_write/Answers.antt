use Rattle.law_folder.proofs.commands.Touches.{opens-each, opens-end}
use Rattle.law_folder.proofs.opens_at_each_write.Goals as goal

pub returns : goal.returns
returns c = record { at_each_word = opens-each; ends = opens-end }
