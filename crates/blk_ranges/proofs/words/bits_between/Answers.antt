use Rattle.std.proofs.Common.{ℕ, ◌*◌, ◌∙◌, ap, arith}
use Rattle.blk_ranges.proofs.WordBits.{between}
use Rattle.std.specs.Prelude.{◌==◌}
use Rattle.std.specs.Int.{bit_at}
use Rattle.blk_ranges.proofs.words.bits_between.Goals as goal

pub returns : goal.returns
returns c k below =
    ap (λ (w : ℕ). bit_at w k == 1) c.ones.ensures
    ∙ between (32 * c.args.i) c.args.first c.args.last c.min-low.result c.min-high.result k below (omega arith) (omega arith)
