use Rattle.std.proofs.Common.{subst, arith}
use Rattle.blk_handles.specs.KeyMap.{IsRising}
use Rattle.blk_handles.proofs.KeyMapLemmas.{key_of-gap, sets-only-remove}
use Rattle.blk_handles.proofs.key_map.KeyMap.remove.Goals as goal

pub unreachable-requires : goal.unreachable-requires
unreachable-requires c = let absent = key_of-gap _ _ _ c.in-Err.ensures.absent in grind (arith, c.requires)

pub returns-clause-sets : goal.returns-clause-sets
returns-clause-sets c = rw (c.remove.ensures.items, c.self.view_is) (sets-only-remove _ (subst IsRising c.self.view_is c.self.invariant.0) _ _ c.in-Ok.ensures.found)
