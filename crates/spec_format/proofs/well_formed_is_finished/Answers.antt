use Rattle.spec_format.proofs.Finished.{finished_whole, whole_index}
use Rattle.spec_format.proofs.well_formed_is_finished.Goals as goal

pub returns : goal.returns
returns c = record { finished = finished_whole; whole = whole_index }
