use Rattle.std.proofs.Common.{◌≡◌, ◌-◌, ◌^◌, min, length, take}
use Rattle.blk_io.specs.Trail.{steps_of}
use Rattle.blk_io.proofs.mem_trail.steps_in.Given as goal

abbrev pub invariant-loop-change : goal.invariant-loop-change
invariant-loop-change l = l.steps ≡ min (length (steps_of (take l.change-index l.changes))) (2 ^ 64 - 1)
