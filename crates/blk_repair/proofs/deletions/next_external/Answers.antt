use Rattle.std.proofs.Common.{subst}
use Rattle.spec_image.specs.Image.{External}
use Rattle.spec_image.specs.Order.{IsBefore}
use Rattle.spec_image.proofs.Runs.{some_inj}
use Rattle.blk_io.specs.FileNames.{file_of}
use Rattle.blk_io.specs.declared.folder.FileId.{FileId}
use Rattle.blk_repair.proofs.deletions.next_external.Goals as goal

pub returns-in-Some-External-clause-after : goal.returns-in-Some-External-clause-after
returns-in-Some-External-clause-after g c x is =
    subst (λ y. IsBefore (file_of c.args.last) (External y)) (some_inj is)
    (subst (λ (file : FileId). IsBefore (file_of c.args.last) (file_of file)) c.in-Some-External.field-0-is (c.in_ok-number.ensures.after c.in-Some-External.field-0 c.in-Some-External.is))
