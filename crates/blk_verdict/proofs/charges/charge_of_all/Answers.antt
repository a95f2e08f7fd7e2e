use Rattle.std.proofs.Common.{◌+◌, ℕ, sym, ap, ap₂, ◌∙◌, arith}
use Rattle.std.specs.List.{sum_by}
use Rattle.std.proofs.lemmas.List.{take_all}
use Rattle.std.proofs.lemmas.List.Sums.{sum_by_more}
use Rattle.blk_verdict.specs.Charges.{charge_said}
use Rattle.blk_verdict.proofs.charges.charge_of_all.Goals as goal

pub loop-loaded-preserved : goal.loop-loaded-preserved
loop-loaded-preserved c = record {
  sum = ap₂ (λ (a b : ℕ). a + b) c.loop-loaded.invariant.sum (c.charge-sum.ensures.charge ∙ ap charge_said c.loaded-item.is)
      ∙ sym (sum_by_more charge_said c.args.kept.now c.loop-loaded.loaded-index c.loaded-item.result c.loop-loaded-test.true);
  few = omega (arith, c.loop-loaded.invariant.few, c.charge-sum.ensures.few);
}

pub returns : goal.returns
returns c = c.loop-loaded.invariant.sum ∙ ap (sum_by charge_said) (take_all c.loop-loaded.loaded-index c.args.kept.now c.loop-loaded-test.false)
