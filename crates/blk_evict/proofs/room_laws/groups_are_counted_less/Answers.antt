use Rattle.blk_evict.proofs.RoomCounts.{counted-less}
use Rattle.blk_evict.proofs.room_laws.groups_are_counted_less.Goals as goal

pub returns : goal.returns
returns c = counted-less
