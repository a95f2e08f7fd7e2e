use Rattle.spec_image.proofs.Cuts.{after-words}
use Rattle.spec_image.proofs.words_write_the_bytes.Goals as goal

pub returns : goal.returns
returns c = after-words
