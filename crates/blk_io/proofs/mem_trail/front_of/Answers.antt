use Rattle.std.proofs.Common.{ℕ, take, ap, ◌∙◌}
use Rattle.spec_image.specs.Steps.{words}
use Rattle.blk_io.proofs.WordCounts.{take-words}
use Rattle.blk_io.proofs.mem_trail.front_of.Goals as goal

pub returns-clause-words : goal.returns-clause-words
returns-clause-words c = λ file. ap (λ (n : ℕ). words file c.args.at (take n c.args.bytes.now)) c.front_len-n.ensures ∙ take-words file c.args.at c.args.steps c.args.bytes.now
