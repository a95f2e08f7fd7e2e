use Rattle.std.proofs.Common.{sym, subst, arith}
use Rattle.std.proofs.lemmas.List.{get_or_default}
use Rattle.blk_handles.specs.KeyMap.{nowhere, IsRising}
use Rattle.blk_handles.proofs.KeyMapLemmas.{key_of-at, key_of-gap}
use Rattle.blk_handles.proofs.key_map.KeyMap.key_of.Goals as goal

-- the record is at its index, and the item there is the one that was read
pub returns-in-Ok : goal.returns-in-Ok
returns-in-Ok c =
    let key = key_of-at _ (subst IsRising c.self.view_is c.self.invariant.0) _ _ c.in-Ok.ensures.found in
    let read = get_or_default _ _ c.index.result.now nowhere c.in-Ok.ensures.found.in_range in
    grind (arith, c.self.view_is)

-- the record is not there
pub returns-in-Err : goal.returns-in-Err
returns-in-Err c = sym (key_of-gap _ _ _ c.in-Err.ensures.absent)
