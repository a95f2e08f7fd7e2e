use Rattle.std.proofs.Common.{◌*◌, ◌∙◌, arith}
use Rattle.hex.proofs.Pairs.{decode_start, decode_step, decode_done}
use Rattle.hex.proofs.HexLemmas.{decode_of-even}
use Rattle.blk_script.proofs.data.decode_digits.Goals as goal

pub loop-i-init : goal.loop-i-init
loop-i-init c = decode_start c.args.field.now c.args.bytes.now

pub loop-i-preserved : goal.loop-i-preserved
loop-i-preserved c =
    decode_step c.args.field.now c.loop-i.bytes c.loop-i.i c.in-Some.byte (omega (arith, c.loop-i-test.true, c.requires)) (omega (arith, c.loop-i-test.true, c.loop-i.auto.bytes))
    (c.in-Some.ensures (2 * c.loop-i.i)) c.loop-i.invariant

pub returns-clause-value : goal.returns-clause-value
returns-clause-value c _ =
    decode_of-even c.args.field.now c.if-field-ne0.false
    ∙ decode_done c.args.field.now c.loop-i.bytes c.loop-i.i (omega (arith, c.loop-i-test.false, c.loop-i.auto.bytes)) (omega (arith, c.loop-i-test.false, c.requires, c.if-field-ne0.false)) c.loop-i.invariant
