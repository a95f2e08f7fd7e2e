use Rattle.blk_evict.proofs.RoomTexts.{faults-on, none-printed, printed-on}
use Rattle.blk_evict.proofs.room_laws.prints_go_on.Goals as goal

pub returns : goal.returns
returns c = record { nothing = none-printed; on = printed-on; faults = faults-on }
