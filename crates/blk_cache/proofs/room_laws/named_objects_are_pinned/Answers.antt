use Rattle.blk_cache.proofs.RoomPins.{named-pinned, room-made, room-told}
use Rattle.blk_cache.proofs.room_laws.named_objects_are_pinned.Goals as goal

pub returns : goal.returns
returns c = record { pinned = named-pinned; told = room-told; made = room-made }
