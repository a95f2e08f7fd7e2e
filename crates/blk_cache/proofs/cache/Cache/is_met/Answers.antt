use Rattle.std.proofs.Common.{◌∙◌, ap, sym}
use Rattle.blk_cache.specs.declared.goal.Goal.{Goal}
use Rattle.blk_cache.specs.Evicting.{is_met}
use Rattle.blk_cache.proofs.cache.Cache.is_met.Goals as goal

pub returns-in-Room : goal.returns-in-Room
returns-in-Room c = record { met = λ state image k. c.is_enough.ensures.enough state image k ∙ ap (λ (g : Goal). is_met g state) (sym c.in-Room.is) }
