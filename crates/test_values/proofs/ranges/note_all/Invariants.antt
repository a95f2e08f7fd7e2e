use Rattle.blk_ranges.specs.PartMaps.{IsPartMap}
use Rattle.test_values.proofs.ranges.note_all.Given as goal

abbrev pub invariant-loop-from : goal.invariant-loop-from
invariant-loop-from l = IsPartMap l.map
