use Rattle.blk_model.proofs.StopRests.{rest_before, rest_after}
use Rattle.blk_model.proofs.laws.stops_may_leave_what_is_at_rest.Goals as goal

pub returns : goal.returns
returns c = record { before = rest_before; after = rest_after }
