use Rattle.std.proofs.Common.{arith, refl}
use Rattle.spec_format.specs.Records.{node_size, node_seal_place}
use Rattle.spec_format.proofs.Seals.{unsealed-checks}
use Rattle.blk_record.proofs.Writes.{others-stay}
use Rattle.blk_record.proofs.node.NodeMutRecordMut.unseal.Goals as goal

pub returns-clause-checks : goal.returns-clause-checks
returns-clause-checks c = unsealed-checks node_seal_place c.args.self.now.window.now c.put_word.new.window c.put_word.ensures (omega (arith, c.args.self.now.enough))

pub returns-clause-others : goal.returns-clause-others
returns-clause-others c = others-stay node_size node_seal_place 0 c.args.self.now.window.now c.put_word.new.window c.put_word.ensures refl
