use Rattle.std.proofs.Common.{arith}
use Rattle.blk_handles.proofs.ObjectsLemmas.{distinct, absent, index-insert}
use Rattle.blk_handles.proofs.objects.Objects.insert.Goals as goal

pub insert-requires-clause-absent : goal.insert-requires-clause-absent
insert-requires-clause-absent c = absent _ _ c.self.invariant.0 _ (rw c.self.view_is c.requires.closed)

pub invariant_of-self : goal.invariant_of-self
invariant_of-self c =
    let added = c.insert_reserved-key.ensures in
    (index-insert _ _ c.self.invariant.0 _ _ _ _ (rw c.self.view_is c.requires.closed) added.was_vacant added.updates c.insert.ensures.sets c.insert.ensures.len added.len, omega (arith, c.self.invariant.1, added.capacity))

pub returns-clause-distinct : goal.returns-clause-distinct
returns-clause-distinct c = distinct _ _ (index-insert _ _ c.self.invariant.0 _ _ _ _ (rw c.self.view_is c.requires.closed) c.insert_reserved-key.ensures.was_vacant c.insert_reserved-key.ensures.updates c.insert.ensures.sets c.insert.ensures.len c.insert_reserved-key.ensures.len)
