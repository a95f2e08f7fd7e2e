use Rattle.law_folder.proofs.commands.DoomedChanges.{changed-doomed-lies, changed-doomed, doomed-rest, gone-doomed, doomed-settles, written-doomed-settles}
use Rattle.law_folder.proofs.changes.doomed_objects_change.Goals as goal

pub returns : goal.returns
returns c = record {
  laid = changed-doomed-lies;
  represented = changed-doomed;
  at_each_word = doomed-rest;
  gone = gone-doomed;
  put = doomed-settles;
  written = written-doomed-settles;
}
