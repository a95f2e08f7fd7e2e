use Rattle.law_folder.proofs.lists.WordTurns.{inserts-can, inserts-turn_words, inserts-rest}
use Rattle.law_folder.proofs.list_words.inserts_at_each_word.Goals as goal

pub returns : goal.returns
returns c = record { can = inserts-can; commits = inserts-turn_words; ends = inserts-rest }
