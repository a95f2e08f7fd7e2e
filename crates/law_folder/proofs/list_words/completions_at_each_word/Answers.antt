use Rattle.law_folder.proofs.lists.WordStops.{completions-can, completions-keep, completions-done, completions-stop}
use Rattle.law_folder.proofs.list_words.completions_at_each_word.Goals as goal

pub returns : goal.returns
returns c = record { can = completions-can; at_each_word = completions-keep; ends = completions-done; stops = completions-stop }
