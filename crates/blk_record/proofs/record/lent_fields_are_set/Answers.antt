use Rattle.blk_record.proofs.Writes.{written-read, written-others}
use Rattle.blk_record.proofs.record.lent_fields_are_set.Goals as goal

pub returns : goal.returns
returns c = record { set = written-read; others = written-others }
