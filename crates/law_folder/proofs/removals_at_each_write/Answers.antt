use Rattle.law_folder.proofs.lists.AtRest.{removals-turn, removals-end}
use Rattle.law_folder.proofs.removals_at_each_write.Goals as goal

pub returns : goal.returns
returns c = record {
  commits = removals-turn;
  ends = removals-end;
}
