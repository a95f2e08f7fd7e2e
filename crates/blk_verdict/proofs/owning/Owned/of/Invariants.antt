use Rattle.std.proofs.Common.{◌≡◌, ◌≤◌, take}
use Rattle.std.specs.List.{filter}
use Rattle.spec_format.specs.Address.{is_address}
use Rattle.blk_verdict.specs.Owning.{addresses_owned}
use Rattle.blk_verdict.proofs.owning.Owned.of.Given as goal

abbrev pub invariant-loop-i : goal.invariant-loop-i
invariant-loop-i l = record {
  count : l.owned.count ≤ l.i;
  addresses : addresses_owned l.owned ≡ filter is_address (take l.i l.words);
}
