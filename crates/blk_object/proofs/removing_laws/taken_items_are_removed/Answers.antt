use Rattle.blk_object.proofs.TakenItems.{counters-left, going-removing, may-go-out, taken-removed}
use Rattle.blk_object.proofs.Sessions.{taken-session}
use Rattle.blk_object.proofs.removing_laws.taken_items_are_removed.Goals as goal

pub returns : goal.returns
returns c = record { may = may-go-out; removed = taken-removed; counters = counters-left; session = taken-session; each = going-removing }
