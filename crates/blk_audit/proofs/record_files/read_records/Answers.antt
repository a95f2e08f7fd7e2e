use Rattle.std.proofs.Common.{◌∙◌, arith}
use Rattle.blk_lru.proofs.Conditions.{told_now}
use Rattle.blk_audit.proofs.record_files.read_records.Goals as goal

pub loop-n-preserved : goal.loop-n-preserved
loop-n-preserved g c = record {
  records = λ image there. c.in_ok-read_file.ensures.records image (told_now image c.loop-n.invariant.stays there) (c.loop-n.invariant.records image there);
  stays = c.in_ok-read_file.ensures.reads.stays ∙ c.loop-n.invariant.stays;
  later = omega (arith, c.in_ok-read_file.ensures.reads.later, c.loop-n.invariant.later);
}
