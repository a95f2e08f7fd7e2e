use Rattle.std.proofs.Common.{ℕ, [], subst, arith}
use Rattle.std.specs.Int.{w64}
use Rattle.std.proofs.lemmas.Int.{of_z-to_z}
use Rattle.blk_chain.proofs.Heads.{names-parts}
use Rattle.blk_sparse.specs.Measuring.{IsMeasured}
use Rattle.blk_sparse.specs.SparseObjects.{with_signature}
use Rattle.blk_sparse.specs.SparseWrites.{signature_to}
use Rattle.blk_cache.proofs.CreateWhole.{if_ok_weaker}
use Rattle.blk_cache.proofs.SparseNamed.{parent-kept, parent-measured, plain-kept}
use Rattle.blk_cache.proofs.cache.Cache.measure_parts.Goals as goal

-- Of a plain object.

pub measure_plain-requires-clause-kind : goal.measure_plain-requires-clause-kind
measure_plain-requires-clause-kind g c = (names-parts c.args.self.now.files c.args.target.now.parent.entry c.requires.names).1.0

pub measure_plain-requires-clause-stands : goal.measure_plain-requires-clause-stands
measure_plain-requires-clause-stands g c = (names-parts c.args.self.now.files c.args.target.now.parent.entry c.requires.names).1.1

pub returns-then-target-clause-measured : goal.returns-then-target-clause-measured
returns-then-target-clause-measured g c =
    if_ok_weaker c.measure_plain.result
    (λ found m image there state k moment handle t. subst (λ (s : ℕ). IsMeasured k.layout (with_signature t.its.object s) s c.args.offset c.args.count found) (of_z-to_z w64 (signature_to c.args.target.now) (let small = c.requires.signature in omega (arith, small))) (m image there state k.layout [] t.its.number t.its.object c.args.target.now.parent.node (plain-kept c.args.self.now state image k moment handle c.args.offset c.args.count c.args.target.now t c.if-target.true)))
    c.measure_plain.ensures.measured

pub returns-then-target-clause-untold : goal.returns-then-target-clause-untold
returns-then-target-clause-untold g c image there state k moment handle t =
    c.measure_plain.ensures.untold image there state k.layout [] t.its.number t.its.object c.args.target.now.parent.node (plain-kept c.args.self.now state image k moment handle c.args.offset c.args.count c.args.target.now t c.if-target.true)

-- Of a sparse one.

pub measure-requires-clause-kind : goal.measure-requires-clause-kind
measure-requires-clause-kind g c = (names-parts c.args.self.now.files c.args.target.now.parent.entry c.requires.names).1.0

pub measure-requires-clause-stands : goal.measure-requires-clause-stands
measure-requires-clause-stands g c = (names-parts c.args.self.now.files c.args.target.now.parent.entry c.requires.names).1.1

pub returns-clause-measured : goal.returns-clause-measured
returns-clause-measured g c =
    if_ok_weaker c.measure.result
    (λ found m image there state k moment handle t. parent-measured c.args.self.now state image k moment handle c.args.offset c.args.count c.args.target.now t c.if-target.false found
    (m image there state k.layout [] t.its.number t.its.object (parent-kept c.args.self.now state image k moment handle c.args.offset c.args.count c.args.target.now t c.if-target.false)))
    c.measure.ensures.measured

pub returns-clause-untold : goal.returns-clause-untold
returns-clause-untold g c image there state k moment handle t =
    c.measure.ensures.untold image there state k.layout [] t.its.number t.its.object (parent-kept c.args.self.now state image k moment handle c.args.offset c.args.count c.args.target.now t c.if-target.false)
