use Rattle.law_folder.proofs.lists.Walked.{walks-distinct}
use Rattle.law_folder.proofs.lists.Walks.{walk_list}
use Rattle.law_folder.proofs.whole_lists_are_walked.Goals as goal

pub returns : goal.returns
returns c = record { nodes = walk_list; distinct = walks-distinct }
