use Rattle.blk_script.specs.Line.{command_words}
use Rattle.blk_script.proofs.words.word_of.Goals as goal

pub returns : goal.returns
unfolding command_words
returns c fields = c.word_in.ensures fields
