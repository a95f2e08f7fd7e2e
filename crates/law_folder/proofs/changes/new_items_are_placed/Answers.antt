use Rattle.law_folder.proofs.commands.NewItems.{new-items-placed}
use Rattle.law_folder.proofs.changes.new_items_are_placed.Goals as goal

pub returns : goal.returns
returns c = new-items-placed
