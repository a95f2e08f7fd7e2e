use Rattle.std.proofs.Common.{arith}
use Rattle.blk_script.proofs.Digits.{digits_say-large}
use Rattle.blk_script.proofs.number.digits_value.Goals as goal

pub returns-in_err-checked_mul : goal.returns-in_err-checked_mul
returns-in_err-checked_mul c =
    let large = digits_say-large c.args.field.now c.loop-byte.byte-index c.loop-byte.value c.loop-byte-test.true (omega (arith, c.in_err-checked_mul.ensures)) in
    rw c.from_residual.ensures (λ digits. omega (arith, large, c.loop-byte.invariant.says))

pub returns-in_err-value : goal.returns-in_err-value
returns-in_err-value c =
    let large = digits_say-large c.args.field.now c.loop-byte.byte-index c.loop-byte.value c.loop-byte-test.true (omega (arith, c.in_err-value.ensures, c.in_ok-checked_mul.ensures, c.from.ensures)) in
    rw c.from_residual-in_err-value.ensures (λ digits. omega (arith, large, c.loop-byte.invariant.says))
