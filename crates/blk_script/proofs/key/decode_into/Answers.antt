use Rattle.std.proofs.Common.{◌<◌, ap, arith, length, length-append, length-take, length-set}
use Rattle.percent_encoding.proofs.PercentLemmas.{length-percent_decode}
use Rattle.blk_script.proofs.Decoding.{prefix_more}
use Rattle.blk_script.proofs.key.decode_into.Goals as goal

pub bounds-buffer-length : goal.bounds-buffer-length
bounds-buffer-length c =
    let lengths = simp (length-append, length-take) at (ap length (rw c.in-Some.ensures.steps at c.loop-byte.invariant.bytes)) in
    let short = (length-percent_decode c.args.field.now).0 in
    omega (arith, lengths, short, c.loop-byte.invariant.within, c.loop-byte.auto.buffer)

pub loop-byte-preserved : goal.loop-byte-preserved
loop-byte-preserved c =
    let lengths = simp (length-append, length-take) at (ap length (rw c.in-Some.ensures.steps at c.loop-byte.invariant.bytes)) in
    let short = (length-percent_decode c.args.field.now).0 in
    let within : c.loop-byte.length < length c.loop-byte.buffer = omega (arith, lengths, short, c.loop-byte.invariant.within, c.loop-byte.auto.buffer) in
    record {
      within = simp length-set (omega arith);
      bytes = prefix_more c.loop-byte.buffer _ _ _ c.loop-byte.length c.in-Some.byte c.loop-byte.invariant.bytes c.in-Some.ensures.steps within;
    }
