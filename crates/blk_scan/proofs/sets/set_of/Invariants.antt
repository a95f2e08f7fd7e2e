use Rattle.std.proofs.Common.{◌≡◌, ℕ, take}
use Rattle.std.specs.BTreeSet.{contains}
use Rattle.std.specs.Ordering.{nat_cmp}
use Rattle.spec_format.specs.BlockFiles.{is_among}
use Rattle.blk_scan.proofs.sets.set_of.Given as goal

abbrev pub invariant-loop-address : goal.invariant-loop-address
invariant-loop-address l = record { set : (w : ℕ) → contains nat_cmp l.set w ≡ is_among (take l.address-index l.addresses) w }
