use Rattle.law_folder.proofs.claims.Outside.{represents-outside}
use Rattle.law_folder.proofs.free_footprints_keep_states.Goals as goal

pub returns : goal.returns
returns c = represents-outside
