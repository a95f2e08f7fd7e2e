use Rattle.std.proofs.Common.{subst}
use Rattle.blk_handles.specs.Bindings.{AreShared}
use Rattle.blk_handles.proofs.StoredLemmas.{are-shared, object-bound}
use Rattle.blk_handles.proofs.handles.Handles.object.Goals as goal

pub returns-in_err-key-clause-shared : goal.returns-in_err-key-clause-shared
returns-in_err-key-clause-shared c = subst AreShared c.self.view_is (are-shared _ _ c.self.invariant)

pub returns-clause-object : goal.returns-clause-object
returns-clause-object c = rw (c.get.ensures, ← c.self.view_is) (object-bound _ _ c.self.invariant _ _ (rw (← c.deref.ensures.value, ← c.key_at.ensures) c.in_ok-key.was))

pub returns-clause-shared : goal.returns-clause-shared
returns-clause-shared c = subst AreShared c.self.view_is (are-shared _ _ c.self.invariant)
