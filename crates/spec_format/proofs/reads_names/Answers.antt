use Rattle.spec_format.proofs.NameLemmas.{reads_names}
use Rattle.spec_format.proofs.reads_names.Goals as goal

pub returns : goal.returns
returns c = reads_names
