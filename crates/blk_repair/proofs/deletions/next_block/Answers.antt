use Rattle.std.proofs.Common.{◌<◌, subst}
use Rattle.spec_image.specs.Image.{Block}
use Rattle.spec_image.specs.Order.{IsBefore}
use Rattle.spec_image.proofs.Runs.{some_inj}
use Rattle.blk_io.specs.FileNames.{file_of}
use Rattle.blk_io.specs.declared.folder.FileId.{FileId}
use Rattle.blk_repair.proofs.DeletionRuns.{block-later}
use Rattle.blk_repair.proofs.deletions.next_block.Goals as goal

pub returns-in-Some-Block-clause-after : goal.returns-in-Some-Block-clause-after
returns-in-Some-Block-clause-after g c x is =
    subst (λ y. c.args.last < y) (some_inj is)
    (block-later c.args.last c.in-Some-Block.n (subst (λ (file : FileId). IsBefore (Block c.args.last) (file_of file)) c.in-Some-Block.field-0-is (c.in_ok-n.ensures.after c.in-Some-Block.field-0 c.in-Some-Block.is)))
