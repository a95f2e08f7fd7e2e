use Rattle.std.proofs.Common.{◌≡◌, ◌<◌, ◌+◌, ℕ}
use Rattle.std.specs.Prelude.{slice_index}
use Rattle.spec_format.specs.Maps.{groups_with}
use Rattle.blk_addr.specs.Bits.{has_bit}
use Rattle.blk_alloc.proofs.claimed.count_runs.Given as goal

abbrev pub invariant-loop-group : goal.invariant-loop-group
invariant-loop-group l = (i : ℕ) → i < 4 → slice_index l.empty i ≡ slice_index l.initial.empty i + groups_with (has_bit l.bytes) l.group (i + 1)
