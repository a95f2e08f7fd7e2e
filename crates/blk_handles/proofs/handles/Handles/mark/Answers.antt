use Rattle.std.proofs.Common.{refl}
use Rattle.blk_handles.specs.Bindings.{with_status}
use Rattle.blk_handles.proofs.StoredLemmas.{are-shared, marks, sound-marked}
use Rattle.blk_handles.proofs.handles.Handles.mark.Goals as goal

pub returns-clause-marks : goal.returns-clause-marks
returns-clause-marks c = rw (← c.self.view_is) (marks _ _ c.self.invariant _ _ _ (rw (← c.deref.ensures.value, ← c.key_at.ensures) c.in-Some.is) _ _ c.at-object.ensures c.set.ensures.updates (with_status c.args.doomed c.args.dirty) refl)

pub returns-clause-shared : goal.returns-clause-shared
returns-clause-shared c = are-shared _ _ (sound-marked _ _ c.self.invariant _ c.set.ensures.distinct _ _ _ c.at-object.ensures c.set.ensures.updates refl c.set.ensures.len)
