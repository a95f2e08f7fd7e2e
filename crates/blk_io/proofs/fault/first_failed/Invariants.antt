use Rattle.std.proofs.Common.{◌≡◌, drop, map}
use Rattle.std.specs.Option.{option_map}
use Rattle.spec_image.specs.Checks.{first_of}
use Rattle.blk_io.specs.Faults.{damage_of}
use Rattle.blk_io.proofs.fault.first_failed.Given as goal

abbrev pub invariant-loop-check : goal.invariant-loop-check
invariant-loop-check l = first_of (map (option_map damage_of) (drop l.check-index l.checks)) ≡ first_of (map (option_map damage_of) l.checks)
