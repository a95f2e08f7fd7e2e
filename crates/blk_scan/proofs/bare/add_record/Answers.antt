use Rattle.blk_disk.specs.Tables.{Agrees}
use Rattle.blk_audit.proofs.Carrying.{untold_converted}
use Rattle.blk_scan.proofs.bare.add_record.Goals as goal

pub returns-in_err-said-clause-untold : goal.returns-in_err-said-clause-untold
returns-in_err-said-clause-untold g c =
    untold_converted c.record_at.result c.from_residual.result c.in_err-said.field-0.0 {a = g.F.Folder.told c.args.folder.now} (Agrees c.args.files.now) (Agrees c.args.files.now) (λ image agrees. agrees)
    c.record_at.ensures.reads.stays c.record_at.ensures.untold c.in_err-said.was c.from_residual.ensures.1
