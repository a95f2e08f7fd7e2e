use Rattle.std.proofs.Common.{inl, arith}
use Rattle.spec_format.proofs.SealedRecords.{node_bytes, record_inside}
use Rattle.test_files.proofs.disk.read_cut.Goals as goal

pub read_block-requires-clause-inside : goal.read_block-requires-clause-inside
read_block-requires-clause-inside c =
    let size = node_bytes c.in-Some.addr c.in-Some.ensures.kind in
    let inside = record_inside c.in-Some.addr (inl c.in-Some.ensures.kind) in
    omega (arith, size, inside)
