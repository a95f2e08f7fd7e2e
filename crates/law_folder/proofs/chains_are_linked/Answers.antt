use Rattle.law_folder.proofs.chains.Chains.{chain-is}
use Rattle.law_folder.proofs.chains.ChainLinks.{linked-front, others-stay, first-leaves, later-leaves}
use Rattle.law_folder.proofs.chains.ChainLengths.{records-few, image-chains-short}
use Rattle.law_folder.proofs.chains.ChainSizes.{chains-short}
use Rattle.law_folder.proofs.commands.Unlinking.{unlink-first, unlink-behind}
use Rattle.law_folder.proofs.chains_are_linked.Goals as goal

pub returns : goal.returns
returns c = record {
  records = chain-is;
  short = chains-short;
  few = records-few;
  of_images = image-chains-short;
  prefix = linked-front;
  others = others-stay;
  first = unlink-first;
  later = unlink-behind;
  first_leaves = first-leaves;
  later_leaves = later-leaves;
}
