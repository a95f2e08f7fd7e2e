use Rattle.std.proofs.Common.{◌<◌, length, sym, ap, ◌∙◌, arith}
use Rattle.blk_io.specs.Trail.{words_touched}
use Rattle.blk_io.proofs.WordCounts.{length-words, count_is}
use Rattle.blk_io.proofs.mem_trail.word_count.Goals as goal

pub returns-then-length-eq0 : goal.returns-then-length-eq0
returns-then-length-eq0 c = λ file. sym (length-words file c.args.at c.args.bytes.now ∙ ap (words_touched c.args.at) c.if-length-eq0.true)

pub returns : goal.returns
returns c =
    let some : 0 < length c.args.bytes.now = omega arith in
    λ file. count_is c.args.at (length c.args.bytes.now) some ∙ sym (length-words file c.args.at c.args.bytes.now)
