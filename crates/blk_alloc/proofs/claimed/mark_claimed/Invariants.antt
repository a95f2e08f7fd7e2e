use Rattle.std.proofs.Common.{◌≡◌, ◌<◌, ℕ, length}
use Rattle.blk_addr.specs.Bits.{has_bit}
use Rattle.blk_alloc.specs.Rebuilding.{is_block_claimed}
use Rattle.blk_alloc.proofs.claimed.mark_claimed.Given as goal

abbrev pub invariant-loop-m : goal.invariant-loop-m
invariant-loop-m l = record {
  marks : (k : ℕ) → k < l.m → has_bit l.bytes k ≡ is_block_claimed l.claims l.file k;
  room : length l.bytes ≡ length l.initial.bytes;
}
