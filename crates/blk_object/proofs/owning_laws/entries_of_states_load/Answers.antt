use Rattle.blk_object.proofs.OwnedPlaces.{kept-load, left-load}
use Rattle.blk_object.proofs.owning_laws.entries_of_states_load.Goals as goal

pub returns : goal.returns
returns c = record { kept = kept-load; left = left-load }
