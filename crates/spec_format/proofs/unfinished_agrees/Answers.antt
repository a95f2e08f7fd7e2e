use Rattle.spec_format.proofs.HeaderLemmas.{unfinished_agrees}
use Rattle.spec_format.proofs.unfinished_agrees.Goals as goal

pub returns : goal.returns
returns c = unfinished_agrees
