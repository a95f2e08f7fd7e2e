use Rattle.law_folder.proofs.lists.AtRest.{inserts-turn, inserts-end}
use Rattle.law_folder.proofs.inserts_at_each_write.Goals as goal

pub returns : goal.returns
returns c = record {
  commits = inserts-turn;
  ends = inserts-end;
}
