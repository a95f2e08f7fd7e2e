use Rattle.law_folder.proofs.commands.Removing.{removed-rows}
use Rattle.law_folder.proofs.commands.Unlinking.{lies-less, less-represented}
use Rattle.law_folder.proofs.changes.removals_keep_the_others.Goals as goal

pub returns : goal.returns
returns c = record {
  kept = removed-rows;
  laid = lies-less;
  represented = less-represented;
}
