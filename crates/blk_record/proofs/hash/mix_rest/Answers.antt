use Rattle.std.proofs.Common.{arith, sym, ◌∙◌}
use Rattle.blk_record.proofs.Hashing.{of_bytes-three, of_bytes-two, of_bytes-one, of_bytes-none}
use Rattle.blk_record.proofs.hash.mix_rest.Goals as goal

pub returns-in-len3 : goal.returns-in-len3
returns-in-len3 c = c.mix_three.ensures ∙ sym (of_bytes-three c.args.hash c.args.rest.now (omega arith))

pub returns-in-len2 : goal.returns-in-len2
returns-in-len2 c = c.mix_two.ensures ∙ sym (of_bytes-two c.args.hash c.args.rest.now (omega arith))

pub returns-in-len1 : goal.returns-in-len1
returns-in-len1 c = c.mix_one.ensures ∙ sym (of_bytes-one c.args.hash c.args.rest.now (omega arith))

pub returns-in_default : goal.returns-in_default
returns-in_default c = sym (of_bytes-none c.args.hash c.args.rest.now (omega arith))
