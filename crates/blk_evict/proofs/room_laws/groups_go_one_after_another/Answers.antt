use Rattle.blk_evict.proofs.RoomGroups.{last-goes, last-next, nothing-more, of-named-stay, others-next, pinned-before}
use Rattle.blk_evict.proofs.room_laws.groups_go_one_after_another.Goals as goal

pub returns : goal.returns
returns c = record { done = nothing-more; next = last-next; others = others-next; pinned = pinned-before; goes = last-goes; stay = of-named-stay }
