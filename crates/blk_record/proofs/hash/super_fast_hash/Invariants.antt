use Rattle.std.proofs.Common.{◌≡◌, ◌%◌, ◌^◌, length}
use Rattle.spec_format.specs.Hash.{of_bytes}
use Rattle.blk_record.proofs.hash.super_fast_hash.Given as goal

abbrev pub invariant-loop-rest : goal.invariant-loop-rest
invariant-loop-rest l = of_bytes l.hash l.rest ≡ of_bytes (length l.fn.bytes % 2 ^ 32) l.fn.bytes

abbrev pub decreases-loop-rest : goal.decreases-loop-rest
decreases-loop-rest l = length l.rest
