use Rattle.std.proofs.Common.{◌∙◌, sym}
use Rattle.blk_cache.proofs.RoomPins.{room-told}
use Rattle.blk_cache.proofs.cache.Cache.is_full.Goals as goal

pub returns : goal.returns
returns c = record { full = λ state image k covered are. c.asks_too_much.ensures ∙ sym (room-told c.args.self.now state image covered c.args.parts.now c.args.bytes c.args.items k are) }
