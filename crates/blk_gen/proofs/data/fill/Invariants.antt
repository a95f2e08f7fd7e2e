use Rattle.std.proofs.Common.{◌≡◌, length, take}
use Rattle.blk_gen.specs.Draws.{generated_bytes}
use Rattle.blk_gen.proofs.data.fill.Given as goal

abbrev pub invariant-loop-place : goal.invariant-loop-place
invariant-loop-place l = record {
  same : length l.bytes ≡ length l.initial.bytes;
  filled : take l.place l.bytes ≡ generated_bytes l.number l.place;
}
