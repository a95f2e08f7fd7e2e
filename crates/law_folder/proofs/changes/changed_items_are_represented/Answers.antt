use Rattle.law_folder.proofs.states.Changing.{lies-changed}
use Rattle.law_folder.proofs.states.Replacing.{replaced}
use Rattle.law_folder.proofs.changes.changed_items_are_represented.Goals as goal

pub returns : goal.returns
returns c = record {
  laid = lies-changed;
  represented = λ touched old new state layout r objects item was now owner same one listed here change replaced_by. replaced touched old new state layout r objects item was now owner same one listed here change replaced_by;
}
