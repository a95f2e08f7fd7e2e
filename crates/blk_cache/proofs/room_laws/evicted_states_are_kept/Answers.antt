use Rattle.blk_cache.proofs.RoomKept.{evicted-kept, lie-apart, whole-apart}
use Rattle.blk_cache.proofs.room_laws.evicted_states_are_kept.Goals as goal

pub returns : goal.returns
returns c = record { kept = evicted-kept; apart = lie-apart; whole = whole-apart }
