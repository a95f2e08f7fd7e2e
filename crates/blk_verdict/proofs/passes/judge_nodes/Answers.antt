use Rattle.std.proofs.Common.{ℕ, List, [], false, sym, ap, subst, ◌∙◌}
use Rattle.spec_image.specs.Told.{Told}
use Rattle.blk_lru.proofs.Conditions.{told_now, told_stays}
use Rattle.spec_folder.specs.Audit as audit
use Rattle.spec_folder.specs.View.{store_of}
use Rattle.blk_audit.specs.Walking.{nodes_walked}
use Rattle.blk_audit.proofs.Carrying.{carried, weaker}
use Rattle.blk_verdict.specs.Passes.{AreTried, CanBeTried, of_pass}
use Rattle.blk_verdict.proofs.PassFacts.{no_keys, none_tried, walked_answered}
use Rattle.blk_verdict.proofs.passes.judge_nodes.Goals as goal

pub try_pass-requires-clause-order : goal.try_pass-requires-clause-order
try_pass-requires-clause-order g c = c.none.ensures.order c.args.files.now

pub returns-in_err-try_pass-clause-untold : goal.returns-in_err-try_pass-clause-untold
returns-in_err-try_pass-clause-untold g c agrees are =
    carried c.try_pass.result c.from_residual.result c.in_err-try_pass.field-0.0 _ c.in_err-try_pass.was c.from_residual.ensures.1
    (c.try_pass.ensures.untold (λ image there. record { agrees = agrees image there; are = are image there; has_keys = no_keys image c.none.result.kept.items c.none.ensures.none }))

pub returns-in_err-try_pass-2-clause-untold : goal.returns-in_err-try_pass-2-clause-untold
returns-in_err-try_pass-2-clause-untold g c agrees are =
    carried c.try_pass-2.result c.from_residual-in_err-try_pass-2.result c.in_err-try_pass-2.field-0.0 _ c.in_err-try_pass-2.was c.from_residual-in_err-try_pass-2.ensures.1
    (weaker c.try_pass-2.result _ _ (λ damage none. ap (λ (t : Told). t.files) (sym c.in_ok-try_pass.ensures.reads.stays) ∙ none)
    (c.try_pass-2.ensures.untold (told_stays (CanBeTried c.args.files.now c.args.lists.now c.try_pass.new.judged.kept.kept.items) c.in_ok-try_pass.ensures.reads.stays
    (λ image there. record {
      agrees = agrees image there;
      are = are image there;
      has_keys = c.in_ok-try_pass.ensures.keys image there
          (record { agrees = agrees image there; are = are image there; has_keys = no_keys image c.none.result.kept.items c.none.ensures.none });
    }))))

pub returns-clause-judged : goal.returns-clause-judged
returns-clause-judged g c image there agrees are =
    let nodes : List ℕ = nodes_walked c.args.lists.now.walked in
    let first = c.in_ok-try_pass.ensures.tried image there agrees are [] (none_tried image nodes c.none.result.kept.items c.new.result.items c.none.ensures.none c.new.ensures.items) in
    let second = c.in_ok-try_pass-2.ensures.tried image (told_now image c.in_ok-try_pass.ensures.reads.stays there) agrees are (of_pass (store_of image) false nodes) first in
    subst (λ (ns : List ℕ). AreTried image ns (audit.tried (store_of image) ns) c.try_pass-2.new.judged.kept.kept.items c.try_pass-2.new.judged.tried.items) are.walked second

pub returns-clause-answered : goal.returns-clause-answered
returns-clause-answered g c image there agrees are node among =
    walked_answered image c.try_pass-2.new.judged.kept.kept.items c.try_pass-2.new.judged.tried.items node (returns-clause-judged g c image there agrees are) among
