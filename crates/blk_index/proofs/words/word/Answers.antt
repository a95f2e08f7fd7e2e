use Rattle.std.proofs.Common.{arith}
use Rattle.blk_index.proofs.words.word.Goals as goal

pub returns-clause-untold : goal.returns-clause-untold
returns-clause-untold g c whole =
    c.read_word.ensures.untold
    (λ image there. let size = whole image there in omega (arith, size, c.requires.aligned, c.requires.inside))
