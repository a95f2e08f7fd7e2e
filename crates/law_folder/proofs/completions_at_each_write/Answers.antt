use Rattle.law_folder.proofs.lists.ListCompletions.{completing}
use Rattle.law_folder.proofs.lists.AtRest.{completions-end}
use Rattle.law_folder.proofs.completions_at_each_write.Goals as goal

pub returns : goal.returns
returns c = record {
  stops = completing;
  ends = completions-end;
}
