use Rattle.std.proofs.Common.{refl}
use Rattle.blk_handles.proofs.StoredLemmas.{free-slot, has-capacity, sound-join, sound-add, binds-open, binds-new, are-shared}
use Rattle.blk_handles.proofs.handles.Handles.bind.Goals as goal

-- the name joins the open object
pub invariant_of-self : goal.invariant_of-self
invariant_of-self c =
    rw c.from-slot.ensures (sound-join _ _ c.self.invariant _ _ c.requires.known (free-slot _ _ c.self.invariant _ (rw c.self.view_is c.requires.free)) _ _ c.set.ensures.updates c.set.ensures.distinct _ c.at-object.ensures refl c.set.ensures.len)

pub returns-in-Some-clause-binds : goal.returns-in-Some-clause-binds
returns-in-Some-clause-binds c =
    rw (c.from-slot.ensures, ← c.self.view_is) (binds-open _ _ c.self.invariant _ _ _ _ _ _ c.in-Some.ensures.found _ _ c.at-object.ensures c.set.ensures.updates refl)

pub returns-in-Some-clause-shared : goal.returns-in-Some-clause-shared
returns-in-Some-clause-shared c = are-shared _ _ (invariant_of-self c)

-- the name opens an object
pub insert-requires-clause-fits : goal.insert-requires-clause-fits
insert-requires-clause-fits c = has-capacity _ _ c.self.invariant _ c.requires.known (free-slot _ _ c.self.invariant _ (rw c.self.view_is c.requires.free))

pub invariant_of-self-in-None : goal.invariant_of-self-in-None
invariant_of-self-in-None c =
    rw c.from-slot.ensures (sound-add _ _ c.self.invariant _ _ c.requires.known (free-slot _ _ c.self.invariant _ (rw c.self.view_is c.requires.free)) _ _ c.insert.ensures.updates c.insert.ensures.distinct c.insert.ensures.vacant refl c.insert.ensures.len)

pub returns-in-None-clause-binds : goal.returns-in-None-clause-binds
returns-in-None-clause-binds c =
    rw (c.from-slot.ensures, ← c.self.view_is) (binds-new _ _ c.self.invariant _ _ _ c.in-None.ensures.absent _ _ _ _ c.insert.ensures.vacant c.insert.ensures.updates refl)

pub returns-in-None-clause-shared : goal.returns-in-None-clause-shared
returns-in-None-clause-shared c = are-shared _ _ (invariant_of-self-in-None c)
