use Rattle.std.proofs.Common.{subst}
use Rattle.blk_handles.specs.Bindings.{AreShared}
use Rattle.blk_handles.proofs.StoredLemmas.{are-shared, object-closed, object-open}
use Rattle.blk_handles.proofs.handles.Handles.object_of.Goals as goal

pub returns-in_err-key-clause-object : goal.returns-in_err-key-clause-object
returns-in_err-key-clause-object c = rw (c.from_residual.ensures, ← c.self.view_is) (object-closed _ _ c.self.invariant _ c.in_err-key.ensures.absent)

pub returns-in_err-key-clause-shared : goal.returns-in_err-key-clause-shared
returns-in_err-key-clause-shared c = subst AreShared c.self.view_is (are-shared _ _ c.self.invariant)

pub returns-clause-object : goal.returns-clause-object
returns-clause-object c = rw (c.get.ensures, ← c.self.view_is) (object-open _ _ c.self.invariant _ _ c.in_ok-key.ensures.found)

pub returns-clause-shared : goal.returns-clause-shared
returns-clause-shared c = subst AreShared c.self.view_is (are-shared _ _ c.self.invariant)
