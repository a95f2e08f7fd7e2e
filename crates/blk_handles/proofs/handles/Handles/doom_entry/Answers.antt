use Rattle.std.proofs.Common.{refl, sym, subst}
use Rattle.blk_handles.specs.Bindings.{AreShared, with_doom}
use Rattle.blk_handles.proofs.StoredLemmas.{are-shared, is-opened, entry-is, closed-open, closed-change, shown-change, sound-marked}
use Rattle.blk_handles.proofs.handles.Handles.doom_entry.Goals as goal

-- the object is open
pub returns-clause-open : goal.returns-clause-open
returns-clause-open c = rw (← c.self.view_is) (sym (is-opened _ _ c.self.invariant _ _ c.in-Some.ensures.found _ c.at-object.ensures))

pub returns-clause-dooms : goal.returns-clause-dooms
returns-clause-dooms c =
    let doomed = shown-change _ _ c.self.invariant _ _ _ _ c.at-object.ensures c.set.ensures.updates with_doom refl in
    rw (← c.self.view_is) (rw (entry-is _ _ _ c.in-Some.ensures.found _ c.at-object.ensures) at doomed)

pub returns-clause-shared : goal.returns-clause-shared
returns-clause-shared c = are-shared _ _ (sound-marked _ _ c.self.invariant _ c.set.ensures.distinct _ _ _ c.at-object.ensures c.set.ensures.updates refl c.set.ensures.len)

-- the object isn't open
pub returns-in_default-clause-open : goal.returns-in_default-clause-open
returns-in_default-clause-open c = rw (← c.self.view_is) (sym (closed-open c.self.inside.objects _ c.in_default.ensures.absent c.self.inside.names.items))

pub returns-in_default-clause-dooms : goal.returns-in_default-clause-dooms
returns-in_default-clause-dooms c = rw (← c.self.view_is) (closed-change c.self.inside.objects _ c.in_default.ensures.absent with_doom c.self.inside.names.items)

pub returns-in_default-clause-shared : goal.returns-in_default-clause-shared
returns-in_default-clause-shared c = subst AreShared c.self.view_is (are-shared _ _ c.self.invariant)
