use Rattle.spec_image.proofs.Runs.{same_steps}
use Rattle.spec_image.proofs.steps_of_one_call_are_one.Goals as goal

pub returns : goal.returns
returns c = same_steps
