use Rattle.std.proofs.Common.{◌≡◌, ℕ, length}
use Rattle.std.specs.Prelude.{if◌then◌else◌}
use Rattle.blk_addr.specs.Bits.{has_bit, is_between}
use Rattle.blk_alloc.proofs.map.set_marks.Given as goal

abbrev pub invariant-loop-m : goal.invariant-loop-m
invariant-loop-m l = record {
  marks : (k : ℕ) → has_bit l.bytes k ≡ (if is_between l.b l.m k then l.used else has_bit l.initial.bytes k);
  room : length l.bytes ≡ length l.initial.bytes;
}
