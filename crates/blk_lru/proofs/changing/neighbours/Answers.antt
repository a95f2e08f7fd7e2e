use Rattle.std.proofs.Common.{◌≡◌, None, subst, sym, ◌∙◌}
use Rattle.spec_image.specs.Told.{Told}
use Rattle.blk_io.proofs.Carried.{carried}
use Rattle.blk_io.specs.Faults.{IfDamaged}
use Rattle.spec_folder.specs.View.{list_of}
use Rattle.blk_disk.specs.Tables.{Agrees}
use Rattle.blk_lru.proofs.Conditions.{next_names, prev_names, told_before, told_now, told_stays}
use Rattle.blk_lru.proofs.NodeWords.{stands_as_node, next_link, prev_link}
use Rattle.blk_lru.proofs.PlanNodes.{node_apart}
use Rattle.blk_lru.proofs.changing.neighbours.Goals as goal

pub returns-in_err-next-clause-untold : goal.returns-in_err-next-clause-untold
returns-in_err-next-clause-untold g c listed =
    carried c.link.result c.from_residual.result c.in_err-next.field-0.0 (λ _. (g.F.Folder.told c.args.folder.now).files ≡ None) c.in_err-next.was c.from_residual.ensures.1
    (c.link.ensures.untold c.requires.agrees (λ image there. next_names c.args.files.now image c.args.node (c.requires.agrees image there) c.requires.stands (listed image there)))

pub returns-in_err-prev-clause-untold : goal.returns-in_err-prev-clause-untold
returns-in_err-prev-clause-untold g c listed =
    let still = c.in_ok-next.ensures.reads.stays in
    carried c.link-2.result c.from_residual-in_err-prev.result c.in_err-prev.field-0.0 (λ _. (g.F.Folder.told c.args.folder.now).files ≡ None) c.in_err-prev.was c.from_residual-in_err-prev.ensures.1
    (subst (λ (t : Told). IfDamaged c.link-2.result (λ _. t.files ≡ None)) still
    (c.link-2.ensures.untold (told_stays (Agrees c.args.files.now) still c.requires.agrees)
    (λ image there. let here = told_before image still there in prev_names c.args.files.now image c.args.node (c.requires.agrees image here) c.requires.stands (listed image here))))

pub returns-clause-words : goal.returns-clause-words
returns-clause-words g c from there =
    let node = stands_as_node c.args.files.now from (c.requires.agrees from there) c.args.node c.requires.stands in
    let next : c.in_ok-next.next ≡ (list_of from).next c.args.node = c.in_ok-next.ensures.word from there ∙ sym (next_link from c.args.node node) in
    let prev : c.in_ok-prev.prev ≡ (list_of from).prev c.args.node = c.in_ok-prev.ensures.word from (told_now from c.in_ok-next.ensures.reads.stays there) ∙ sym (prev_link from c.args.node node) in
    ((λ zero. node_apart c.args.files.now c.in_ok-next.next c.in_ok-next.ensures.stands (next ∙ zero)), (next, prev))
