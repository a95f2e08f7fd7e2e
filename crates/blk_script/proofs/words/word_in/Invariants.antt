use Rattle.std.proofs.Common.{◌≡◌, ℕ, List, map, drop}
use Rattle.blk_script.specs.Line.{by_word}
use Rattle.blk_script.specs.Words.{word_line}
use Rattle.blk_script.proofs.words.word_in.Given as goal

abbrev pub invariant-loop-text : goal.invariant-loop-text
invariant-loop-text l = (fields : List (List ℕ)) → by_word l.field fields (map word_line l.table) ≡ by_word l.field fields (map word_line (drop l.text-index l.table))
