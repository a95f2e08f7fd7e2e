use Rattle.std.proofs.Common.{map, ap, refl, ◌∙◌}
use Rattle.spec_format.specs.Headers.{HasWholeIndex}
use Rattle.blk_disk.specs.Open.{IsOpen}
use Rattle.spec_folder.specs.View.{list_of}
use Rattle.blk_lru.specs.Writes.{meant}
use Rattle.blk_lru.proofs.Conditions.{told_now}
use Rattle.blk_audit.specs.Walking.{nodes_walked}
use Rattle.blk_audit.proofs.Carrying.{untold_converted}
use Rattle.blk_audit.proofs.StandingNodes.{walked_stand}
use Rattle.blk_audit.proofs.walking.walk_over.Goals as goal

pub returns-clause-walked : goal.returns-clause-walked
unfolding list_of
returns-clause-walked g c image there agrees =
    c.in_ok-walked.ensures.completed image
    (c.requires.nodes image there agrees)
    (c.in_ok-head.ensures.word image there)
    (ap (map meant) c.as_slice.ensures.value ∙ c.in_ok-plan.ensures.plan image (told_now image c.in_ok-head.ensures.reads.stays there) agrees)

pub returns-clause-checked : goal.returns-clause-checked
returns-clause-checked g c image there = record {
  head = c.in_ok-head.ensures.checked image there;
  flight = c.in_ok-plan.ensures.checked image (told_now image c.in_ok-head.ensures.reads.stays there);
}

pub returns-in_err-head-clause-untold : goal.returns-in_err-head-clause-untold
returns-in_err-head-clause-untold g c =
    untold_converted c.word.result c.from_residual.result c.in_err-head.field-0.0 {a = g.F.Folder.told c.args.folder.now} (IsOpen c.args.files.now) HasWholeIndex (λ image is. is.whole_index) refl c.word.ensures.untold c.in_err-head.was c.from_residual.ensures.1

pub returns-in_err-plan-clause-untold : goal.returns-in_err-plan-clause-untold
returns-in_err-plan-clause-untold g c =
    untold_converted c.pending.result c.from_residual-in_err-plan.result c.in_err-plan.field-0.0 {a = g.F.Folder.told c.args.folder.now} (IsOpen c.args.files.now) (IsOpen c.args.files.now) (λ image is. is) c.in_ok-head.ensures.reads.stays c.pending.ensures.untold c.in_err-plan.was c.from_residual-in_err-plan.ensures.1

pub returns-clause-stand : goal.returns-clause-stand
returns-clause-stand g c = walked_stand c.args.files.now c.args.nodes.now (map meant c.as_slice.result.now) c.in_ok-head.head (nodes_walked c.in_ok-walked.walked) c.requires.counted c.in_ok-walked.ensures.walked
