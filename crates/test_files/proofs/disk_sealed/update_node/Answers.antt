use Rattle.std.proofs.Common.{inl, arith}
use Rattle.spec_format.specs.Sealed.{seal_place}
use Rattle.spec_format.proofs.SealedRecords.{node_seal}
use Rattle.blk_disk.proofs.ThreeChanges.{are_three}
use Rattle.blk_disk.proofs.Agreeing.{loaded_agrees}
use Rattle.test_files.proofs.disk_sealed.update_node.Goals as goal

pub update_sealed-requires-clause-begins : goal.update_sealed-requires-clause-begins
update_sealed-requires-clause-begins g c = inl c.in-Some.ensures.kind

pub update_sealed-requires-clause-changes : goal.update_sealed-requires-clause-changes
update_sealed-requires-clause-changes g c =
    let seal = node_seal c.in-Some.addr c.in-Some.ensures.kind in
    are_three (seal_place c.in-Some.addr) _ _ _ (omega (arith, seal))

pub update_sealed-requires-clause-agrees : goal.update_sealed-requires-clause-agrees
update_sealed-requires-clause-agrees g c = loaded_agrees c.in_ok-files.files (g.F.Folder.told c.args.f.now) (g.F.Folder.told c.load.new.f) c.in_ok-files.ensures.reads.stays c.in_ok-files.ensures.loaded
