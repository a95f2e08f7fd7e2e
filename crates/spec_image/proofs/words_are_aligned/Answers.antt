use Rattle.spec_image.proofs.Cuts.{words_trail}
use Rattle.spec_image.proofs.words_are_aligned.Goals as goal

pub returns : goal.returns
returns c = words_trail
