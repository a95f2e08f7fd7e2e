use Rattle.blk_inspect.proofs.Lines.{word_is}
use Rattle.blk_inspect.proofs.rows.bytes_of.Goals as goal

pub returns : goal.returns
returns c = word_is c.args.word _ c.ranges.word.fits c.to_be_bytes.ensures
