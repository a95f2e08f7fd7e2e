use Rattle.spec_image.proofs.Footprints.{steps_inside}
use Rattle.spec_image.proofs.steps_stay_inside.Goals as goal

pub returns : goal.returns
returns c = steps_inside
