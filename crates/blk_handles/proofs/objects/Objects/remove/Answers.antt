use Rattle.std.proofs.Common.{arith}
use Rattle.blk_handles.proofs.ObjectsLemmas.{distinct, index-remove}
use Rattle.blk_handles.proofs.objects.Objects.remove.Goals as goal

pub invariant_of-self : goal.invariant_of-self
invariant_of-self c =
    let removed = c.remove-object.ensures in
    (index-remove _ _ c.self.invariant.0 _ _ _ _ removed.value removed.updates c.remove.ensures.sets c.remove.ensures.len removed.len, omega (arith, c.self.invariant.1, removed.capacity))

pub returns-clause-distinct : goal.returns-clause-distinct
returns-clause-distinct c = distinct _ _ (index-remove _ _ c.self.invariant.0 _ _ _ _ c.remove-object.ensures.value c.remove-object.ensures.updates c.remove.ensures.sets c.remove.ensures.len c.remove-object.ensures.len)
