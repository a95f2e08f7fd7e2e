use Rattle.std.proofs.Common.{ℕ, ◌∙◌, ap}
use Rattle.spec_image.specs.Bytes.{zeros}
use Rattle.spec_image.specs.Steps.{with_words}
use Rattle.spec_format.specs.Sealed.{sealed}
use Rattle.blk_entry.specs.Writing.{new_node}
use Rattle.blk_entry.proofs.NewRecords.{filled_node, node_words, plain_node}
use Rattle.blk_entry.proofs.writing.node_of.Goals as goal

pub returns : goal.returns
unfolding new_node plain_node node_words
returns c =
    c.filled_node.ensures ∙ ap (λ (w : ℕ). sealed 32 (with_words (node_words c.args.moment w c.args.new.now.dirty) (zeros 36))) c.word.ensures.word ∙ filled_node c.args.moment c.args.new.now.entry c.args.new.now.dirty
