use Rattle.std.proofs.Common.{refl, arith}
use Rattle.blk_handles.proofs.StoredLemmas.{are-shared, sound-leave, sound-last, shown-leave, shown-last, told-last, told-more}
use Rattle.blk_handles.proofs.handles.Handles.release.Goals as goal

-- the last name: the object is taken out
pub invariant_of-self : goal.invariant_of-self
invariant_of-self c =
    rw c.from.ensures (sound-last _ _ c.self.invariant _ _ (rw (← c.deref.ensures.value, ← c.key_at.ensures) c.in-Some.is) _ c.at-object.ensures _ c.remove.ensures.distinct c.if-is_last.true c.remove.ensures.updates c.remove.ensures.len)

pub returns-then-is_last-clause-frees : goal.returns-then-is_last-clause-frees
returns-then-is_last-clause-frees c =
    rw (c.from.ensures, ← c.self.view_is) (shown-last _ _ c.self.invariant _ _ (rw (← c.deref.ensures.value, ← c.key_at.ensures) c.in-Some.is) _ c.at-object.ensures _ c.remove.ensures.distinct c.if-is_last.true c.remove.ensures.updates)

pub returns-then-is_last-clause-answer : goal.returns-then-is_last-clause-answer
returns-then-is_last-clause-answer c =
    rw (c.from.ensures, ← c.self.view_is) (told-last _ _ c.self.invariant _ c.remove.ensures.distinct _ _ (rw (← c.deref.ensures.value, ← c.key_at.ensures) c.in-Some.is) _ c.at-object.ensures c.remove.ensures.updates _ c.remove.ensures.here)

pub returns-then-is_last-clause-shared : goal.returns-then-is_last-clause-shared
returns-then-is_last-clause-shared c = are-shared _ _ (invariant_of-self c)

-- one of several names: the object counts one less
pub invariant_of-self-2 : goal.invariant_of-self-2
invariant_of-self-2 c =
    let some = c.self.invariant.some_name _ _ c.at-object.ensures in
    rw c.from.ensures (sound-leave _ _ c.self.invariant _ _ (rw (← c.deref.ensures.value, ← c.key_at.ensures) c.in-Some.is) _ c.at-object.ensures _ c.set.ensures.distinct _ c.set.ensures.updates (omega (arith, some)) (omega (arith, some, c.if-is_last.false)) c.set.ensures.len)

pub returns-clause-frees : goal.returns-clause-frees
returns-clause-frees c =
    rw (c.from.ensures, ← c.self.view_is) (shown-leave _ _ c.self.invariant _ _ _ _ _ c.at-object.ensures c.set.ensures.updates refl)

pub returns-clause-answer : goal.returns-clause-answer
returns-clause-answer c =
    let some = c.self.invariant.some_name _ _ c.at-object.ensures in
    rw (c.from.ensures, ← c.self.view_is) (told-more _ _ c.self.invariant _ c.set.ensures.distinct _ _ (rw (← c.deref.ensures.value, ← c.key_at.ensures) c.in-Some.is) _ c.at-object.ensures _ c.set.ensures.updates refl (omega (arith, some)) (omega (arith, some, c.if-is_last.false)))

pub returns-clause-shared : goal.returns-clause-shared
returns-clause-shared c = are-shared _ _ (invariant_of-self-2 c)
