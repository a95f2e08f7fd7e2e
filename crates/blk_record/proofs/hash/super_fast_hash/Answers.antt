use Rattle.std.proofs.Common.{◌≡◌, ◌<◌, length, arith, sym, ap, ◌∙◌}
use Rattle.spec_format.specs.Hash.{mixed}
use Rattle.blk_record.proofs.Hashing.{hash-none, hash-some, of_bytes-rest}
use Rattle.blk_record.proofs.hash.super_fast_hash.Goals as goal

pub returns-then-is_empty : goal.returns-then-is_empty
returns-then-is_empty c =
    let none : length c.args.bytes.now ≡ 0 = grind arith in
    sym (hash-none c.args.bytes.now none)

pub loop-rest-preserved : goal.loop-rest-preserved
loop-rest-preserved c = of_bytes-rest _ _ _ _ c.in-len4-up.len_at_least c.mix_four-hash.ensures c.loop-rest.invariant

pub returns : goal.returns
returns c =
    let some : 0 < length c.args.bytes.now = grind arith in
    c.mix_last.ensures ∙ ap mixed (c.mix_rest.ensures ∙ c.loop-rest.invariant) ∙ sym (hash-some c.args.bytes.now some)
