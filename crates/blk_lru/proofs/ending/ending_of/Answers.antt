use Rattle.std.proofs.Common.{◌∙◌, ap, ap₂}
use Rattle.spec_image.specs.Told.{Told}
use Rattle.spec_folder.specs.ListPlans.{ending_by}
use Rattle.spec_folder.specs.View.{list_of}
use Rattle.blk_lru.proofs.ending.ending_of.Goals as goal

pub returns-clause-plan : goal.returns-clause-plan
unfolding list_of
returns-clause-plan g c image there agrees =
    c.end_plan.ensures ∙ ap₂ (ending_by c.args.last) (c.in_ok-front.ensures.word image there agrees) (c.in_ok-tail.ensures.word image (ap (λ (t : Told). t.files) c.in_ok-front.ensures.reads.stays ∙ there))
