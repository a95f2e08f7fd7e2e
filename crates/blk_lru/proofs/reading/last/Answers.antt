use Rattle.std.proofs.Common.{◌∙◌, ap}
use Rattle.spec_folder.specs.View.{list_of}
use Rattle.blk_lru.specs.Plans.{word_or_zero}
use Rattle.blk_lru.proofs.Listed.{tail_names, tail_checks, word_back}
use Rattle.blk_lru.proofs.NodeWords.{names_or_zero}
use Rattle.blk_lru.proofs.Results.{if_ok_weaker}
use Rattle.blk_lru.proofs.reading.last.Goals as goal

pub returns-clause-node : goal.returns-clause-node
unfolding list_of
returns-clause-node g c = if_ok_weaker c.end_of_list.result (λ node h image there rest. h image there ∙ tail_names (list_of image) _ rest.whole) c.end_of_list.ensures.node

pub returns-clause-word : goal.returns-clause-word
unfolding list_of
returns-clause-word g c = if_ok_weaker c.end_of_list.result (λ node h image there. ap word_or_zero (h image there) ∙ word_back (list_of image).tail) c.end_of_list.ensures.node

pub returns-clause-untold : goal.returns-clause-untold
unfolding list_of
returns-clause-untold g c index agrees rest =
    c.end_of_list.ensures.untold index (λ image there. names_or_zero c.args.files.now image (agrees image there) _ (tail_checks (list_of image) _ (rest image there).whole))
