use Rattle.std.proofs.Common.{◌≡◌, ◌∙◌, ℕ, Option, sym, ap, subst, true}
use Rattle.std.specs.Option.{IfSome}
use Rattle.spec_folder.specs.ListPlans.{front_of}
use Rattle.spec_folder.specs.View.{list_of}
use Rattle.blk_disk.specs.Tables.{is_node_among}
use Rattle.blk_lru.proofs.NodeWords.{stands_as_node, next_link}
use Rattle.blk_lru.proofs.Results.{if_ok_weaker}
use Rattle.blk_lru.proofs.ending.front_word.Given as given
use Rattle.blk_lru.proofs.ending.front_word.Goals as goal

here : (g : given.Over) (c : goal.After-link_word g) → is_node_among c.args.files.now c.in-Some.node ≡ true
here g c = subst (λ (o : Option ℕ). IfSome o (λ node. is_node_among c.args.files.now node ≡ true)) c.in-Some.is c.requires.stands

pub returns-in-Some-clause-word : goal.returns-in-Some-clause-word
returns-in-Some-clause-word g c =
    if_ok_weaker c.link_word.result
    (λ front word image there agrees.
    word image there ∙ sym (next_link image c.in-Some.node (stands_as_node c.args.files.now image agrees c.in-Some.node (here g c))) ∙ sym (ap (front_of (list_of image)) c.in-Some.is))
    c.link_word.ensures.word

pub returns-in-Some-clause-untold : goal.returns-in-Some-clause-untold
returns-in-Some-clause-untold g c opened = c.link_word.ensures.untold (λ image there. (opened image there).agrees)

pub returns-in-None-clause-word : goal.returns-in-None-clause-word
unfolding list_of
returns-in-None-clause-word g c = if_ok_weaker c.word.result (λ front word image there agrees. word image there ∙ sym (ap (front_of (list_of image)) c.in-None.is)) c.word.ensures.word
