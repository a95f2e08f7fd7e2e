use Rattle.std.proofs.Common.{◌≡◌, ◌∙◌, sym, ap, ℕ, if◌then◌else◌, None, Some}
use Rattle.std.specs.Prelude.{◌==◌}
use Rattle.spec_folder.specs.View.{list_of}
use Rattle.blk_io.proofs.Carried.{carried}
use Rattle.blk_lru.proofs.Conditions.{next_names}
use Rattle.blk_lru.proofs.Listed.{linked}
use Rattle.blk_lru.proofs.NodeWords.{stands_as_node, next_link}
use Rattle.blk_lru.proofs.reading.after.Goals as goal

pub returns-clause-word : goal.returns-clause-word
returns-clause-word g c image there = c.unless_same.ensures ∙ ap (λ (w : ℕ). if w == c.args.node then None else Some w) (c.in_ok-other.ensures.word image there)

pub returns-clause-node : goal.returns-clause-node
returns-clause-node g c image there agrees prefix suffix rest =
    returns-clause-word g c image there
    ∙ ap (λ (w : ℕ). if w == c.args.node then None else Some w) (sym (next_link image c.args.node (stands_as_node c.args.files.now image agrees c.args.node c.requires.stands)))
    ∙ (linked (list_of image) prefix c.args.node suffix rest.whole).next_is

pub returns-in_err-other-clause-untold : goal.returns-in_err-other-clause-untold
returns-in_err-other-clause-untold g c agrees listed =
    carried c.link.result c.from_residual.result c.in_err-other.field-0.0 (λ _. (g.F.Folder.told c.args.f.now).files ≡ None) c.in_err-other.was c.from_residual.ensures.1
    (c.link.ensures.untold agrees (λ image there. next_names c.args.files.now image c.args.node (agrees image there) c.requires.stands (listed image there)))
