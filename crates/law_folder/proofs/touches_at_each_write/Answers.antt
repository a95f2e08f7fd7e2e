use Rattle.law_folder.proofs.lists.AtRest.{touches-turn, touches-end}
use Rattle.law_folder.proofs.touches_at_each_write.Goals as goal

pub returns : goal.returns
returns c = record {
  commits = touches-turn;
  ends = touches-end;
}
