use Rattle.std.proofs.Common.{◌≡◌, ◌≤◌, ◌*◌, ◌^◌, take}
use Rattle.std.specs.List.{sum_by}
use Rattle.blk_verdict.specs.Charges.{charge_said}
use Rattle.blk_verdict.proofs.charges.charge_of_all.Given as goal

abbrev pub invariant-loop-loaded : goal.invariant-loop-loaded
invariant-loop-loaded l = record {
  sum : l.sum ≡ sum_by charge_said (take l.loaded-index l.kept);
  few : l.sum ≤ l.loaded-index * 2 ^ 34;
}
