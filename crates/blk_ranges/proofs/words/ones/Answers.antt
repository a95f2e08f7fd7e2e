use Rattle.std.proofs.Common.{◌^◌, ◌≤◌, arith}
use Rattle.std.proofs.Math.Pow.{pow_mono}
use Rattle.blk_ranges.proofs.words.ones.Goals as goal

pub overflow_sub-result : goal.overflow_sub-result
overflow_sub-result c =
    let order : 2 ^ c.args.low ≤ 2 ^ c.args.high = pow_mono c.requires.order in
    let most : 2 ^ c.args.high ≤ 2 ^ 32 = pow_mono c.requires.within in
    omega arith

pub overflow_cast-result : goal.overflow_cast-result
overflow_cast-result c =
    let most : 2 ^ c.args.high ≤ 2 ^ 32 = pow_mono c.requires.within in
    omega arith

pub returns : goal.returns
returns c =
    let order : 2 ^ c.args.low ≤ 2 ^ c.args.high = pow_mono c.requires.order in
    let most : 2 ^ c.args.high ≤ 2 ^ 32 = pow_mono c.requires.within in
    omega arith
