use Rattle.law_folder.proofs.states.DirtyWords.{dirty-settles, written-settles}
use Rattle.law_folder.proofs.changes.dirty_words_settle.Goals as goal

pub returns : goal.returns
returns c = record {
  put = dirty-settles;
  written = written-settles;
}
