use Rattle.std.proofs.Common.{◌≢◌, ◌≤◌, ◌<◌, ℕ}
use Rattle.spec_format.specs.Maps.{longest_run}
use Rattle.blk_addr.specs.Bits.{has_bit}
use Rattle.blk_alloc.proofs.searching.group_in.Given as goal

abbrev pub invariant-loop-i : goal.invariant-loop-i
invariant-loop-i l = (k : ℕ) → l.first ≤ k → k < l.i → longest_run (has_bit l.bytes) k ≢ l.run
