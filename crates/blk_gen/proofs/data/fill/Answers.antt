use Rattle.std.proofs.Common.{rules}
use Rattle.std.proofs.lemmas.List.{length-set}
use Rattle.blk_gen.proofs.Filling.{filled-one-more}
use Rattle.blk_gen.proofs.data.fill.Goals as goal

pub loop-place-preserved : goal.loop-place-preserved
loop-place-preserved c = record {
  same = search (rules, length-set);
  filled = filled-one-more c.loop-place.bytes c.args.number c.loop-place.place c.byte_at.result c.byte_at.ensures (search rules) c.loop-place.invariant.filled;
}
