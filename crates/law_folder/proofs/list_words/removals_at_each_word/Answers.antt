use Rattle.law_folder.proofs.lists.WordTurns.{removals-can, removals-turn_words, removals-rest}
use Rattle.law_folder.proofs.list_words.removals_at_each_word.Goals as goal

pub returns : goal.returns
returns c = record { can = removals-can; commits = removals-turn_words; ends = removals-rest }
