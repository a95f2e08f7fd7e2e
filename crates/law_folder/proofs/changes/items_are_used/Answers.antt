use Rattle.law_folder.proofs.commands.Touches.{same-represents, touched-items, touched-items-end}
use Rattle.law_folder.proofs.changes.items_are_used.Goals as goal

pub returns : goal.returns
returns c = record { stores = same-represents; at_each_word = touched-items; ends = touched-items-end }
