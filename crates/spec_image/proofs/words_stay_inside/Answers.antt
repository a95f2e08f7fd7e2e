use Rattle.spec_image.proofs.Footprints.{words_inside}
use Rattle.spec_image.proofs.words_stay_inside.Goals as goal

pub returns : goal.returns
returns c = words_inside
