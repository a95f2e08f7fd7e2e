use Rattle.law_folder.proofs.updates.Sealing.{touches-seal, touches-keep}
use Rattle.law_folder.proofs.lists.WordTurns.{touches-can, touches-in_turn, touches-go_on, touches-turn_words, touches-rest, touches-times}
use Rattle.law_folder.proofs.list_words.touches_at_each_word.Goals as goal

pub returns : goal.returns
returns c = record { can = touches-can; at_each_word = touches-in_turn; writable = touches-go_on; commits = touches-turn_words; ends = touches-rest; times = touches-times; sealed = touches-seal; seals_stand = touches-keep }
