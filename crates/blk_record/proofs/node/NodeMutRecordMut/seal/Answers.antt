use Rattle.std.proofs.Common.{arith, refl}
use Rattle.spec_format.specs.Records.{node_size, node_seal_place, seal_of}
use Rattle.spec_format.proofs.Seals.{sealed-checks}
use Rattle.blk_record.proofs.Writes.{others-stay}
use Rattle.blk_record.proofs.node.NodeMutRecordMut.seal.Goals as goal

pub returns-clause-checks : goal.returns-clause-checks
returns-clause-checks c = sealed-checks node_seal_place c.args.self.now.window.now c.put_seal.new.window c.put_seal.ensures (omega (arith, c.args.self.now.enough))

pub returns-clause-others : goal.returns-clause-others
returns-clause-others c = others-stay node_size node_seal_place (seal_of node_seal_place c.args.self.now.window.now) c.args.self.now.window.now c.put_seal.new.window c.put_seal.ensures refl
