use Rattle.std.proofs.Common.{subst, sym, ◌∙◌, arith}
use Rattle.blk_handles.specs.KeyMap.{IsRising}
use Rattle.blk_handles.proofs.Basics.{none-is-some}
use Rattle.blk_handles.proofs.KeyMapLemmas.{key_of-at, rising-insert, sets-only-insert}
use Rattle.blk_handles.proofs.key_map.KeyMap.insert.Goals as goal

-- the record is not there yet
pub unreachable-requires : goal.unreachable-requires
unreachable-requires c = none-is-some _ c.requires.absent (key_of-at _ (subst IsRising c.self.view_is c.self.invariant.0) _ _ c.in-Ok.ensures.found)

-- there is capacity, so the item is put into the gap
pub invariant_of-self : goal.invariant_of-self
invariant_of-self c =
    let items = rw (sym c.is_ok.ensures.value ∙ c.if-prove.false) at c.insert-inserted.ensures.items in
    (rw items (rising-insert _ _ _ (rw c.self.view_is c.in-Err.ensures.absent) _ c.self.invariant.0), omega (arith, c.self.invariant.1, c.insert-inserted.ensures.capacity))

pub returns-clause-sets : goal.returns-clause-sets
returns-clause-sets c =
    let items = rw (sym c.is_ok.ensures.value ∙ c.if-prove.false) at c.insert-inserted.ensures.items in
    rw (items, c.self.view_is) (sets-only-insert _ _ _ c.in-Err.ensures.absent _)
