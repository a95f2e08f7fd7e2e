use Rattle.std.proofs.Common.{arith}
use Rattle.spec_format.specs.Sealed.{seal_place}
use Rattle.spec_format.proofs.SealedRecords.{node_seal}
use Rattle.blk_disk.proofs.ThreeChanges.{are_three}
use Rattle.test_files.proofs.disk_sealed.update_broken.Goals as goal

pub update_sealed-requires-clause-changes : goal.update_sealed-requires-clause-changes
update_sealed-requires-clause-changes c = let seal = node_seal c.in-Some.addr c.in-Some.ensures.kind in are_three (seal_place c.in-Some.addr) _ _ _ (omega (arith, seal))
