use Rattle.std.proofs.Common.{arith}
use Rattle.blk_record.proofs.Writes.{set-reads, others-stay}
use Rattle.blk_record.proofs.entry.EntryMutRecordMut.set_word.Goals as goal

pub returns-clause-set : goal.returns-clause-set
returns-clause-set c = set-reads c.args.at c.args.value c.args.self.now.window.now c.put_word.new.window c.put_word.ensures c.ranges.value.fits (omega (arith, c.requires.aligned, c.requires.inside, c.args.self.now.enough))

pub returns-clause-others : goal.returns-clause-others
returns-clause-others c = others-stay _ c.args.at c.args.value c.args.self.now.window.now c.put_word.new.window c.put_word.ensures c.requires.aligned
