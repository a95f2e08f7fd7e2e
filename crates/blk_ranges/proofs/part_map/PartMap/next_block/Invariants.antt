use Rattle.std.proofs.Common.{◌≡◌, ℕ, ◌*◌, ◌<◌, ◌≤◌}
use Rattle.std.specs.Prelude.{not}
use Rattle.blk_ranges.specs.PartMaps.{has_block}
use Rattle.blk_ranges.proofs.part_map.PartMap.next_block.Given as goal

abbrev pub invariant-loop-i : goal.invariant-loop-i
invariant-loop-i l = (b : ℕ) → l.from ≤ b → b < 32 * l.i → has_block l.self.blocks b ≡ not l.present
