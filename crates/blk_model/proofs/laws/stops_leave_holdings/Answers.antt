use Rattle.blk_model.proofs.Chosen.{rest_is_valid}
use Rattle.blk_model.proofs.Stopped.{stop_is_valid}
use Rattle.blk_model.proofs.laws.stops_leave_holdings.Goals as goal

pub returns : goal.returns
returns c = record { rests = rest_is_valid; stops = stop_is_valid }
