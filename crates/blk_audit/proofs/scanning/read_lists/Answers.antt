use Rattle.std.proofs.Common.{refl, ◌∙◌}
use Rattle.blk_disk.specs.Open.{IsOpen}
use Rattle.blk_disk.specs.Tables.{Agrees}
use Rattle.blk_lru.proofs.Conditions.{told_now, told_stays}
use Rattle.blk_audit.specs.Records.{AreRecordsOf}
use Rattle.blk_audit.proofs.Carrying.{untold_on}
use Rattle.blk_audit.proofs.scanning.read_lists.Goals as goal

pub returns-clause-checked : goal.returns-clause-checked
returns-clause-checked g c image there =
    let walked = told_now image c.in_ok-nodes.ensures.reads.stays there in
    let records = told_now image c.in_ok-walked.ensures.reads.stays walked in
    let reached = told_now image c.in_ok-records.ensures.reads.stays records in
    (record { nodes = c.in_ok-nodes.ensures.checked image there; ends = c.in_ok-walked.ensures.checked image walked }, c.in_ok-reached.ensures.checked image reached)

pub returns-clause-lists : goal.returns-clause-lists
returns-clause-lists g c image there agrees =
    let walked = told_now image c.in_ok-nodes.ensures.reads.stays there in
    let records = told_now image c.in_ok-walked.ensures.reads.stays walked in
    let reached = told_now image c.in_ok-records.ensures.reads.stays records in
    record {
      walked = c.in_ok-walked.ensures.walked image walked agrees;
      met = c.in_ok-walked.ensures.met;
      reached = c.in_ok-reached.ensures.reached image reached agrees;
      buckets = c.in_ok-reached.ensures.buckets image reached agrees;
      known = c.in_ok-reached.ensures.met;
      nodes = c.in_ok-nodes.ensures.nodes image there agrees;
      records = c.in_ok-records.ensures.records image records;
      named = c.in_ok-named.ensures;
    }

pub chains_over-requires : goal.chains_over-requires
chains_over-requires g c = record { records = told_stays (λ image. AreRecordsOf image c.in_ok-records.records) c.in_ok-records.ensures.reads.stays c.in_ok-records.ensures.records }

pub returns-in_err-records-clause-untold : goal.returns-in_err-records-clause-untold
returns-in_err-records-clause-untold g c =
    untold_on c.read_records.result c.from_residual-in_err-records.result c.in_err-records.field-0.0 {a = g.F.Folder.told c.args.folder.now} (IsOpen c.args.files.now) (Agrees c.args.files.now) (λ image is. is.agrees)
    (c.read_records.ensures.reads.stays ∙ c.in_ok-walked.ensures.reads.stays ∙ c.in_ok-nodes.ensures.reads.stays)
    (λ agrees. c.read_records.ensures.untold agrees) c.in_err-records.was c.from_residual-in_err-records.ensures.1

pub returns-in_err-nodes-clause-untold : goal.returns-in_err-nodes-clause-untold
returns-in_err-nodes-clause-untold g c =
    untold_on c.read_nodes.result c.from_residual.result c.in_err-nodes.field-0.0 {a = g.F.Folder.told c.args.folder.now} (IsOpen c.args.files.now) (Agrees c.args.files.now) (λ image is. is.agrees) refl c.read_nodes.ensures.untold c.in_err-nodes.was c.from_residual.ensures.1

pub returns-in_err-walked-clause-untold : goal.returns-in_err-walked-clause-untold
returns-in_err-walked-clause-untold g c =
    untold_on c.walk_over.result c.from_residual-in_err-walked.result c.in_err-walked.field-0.0 {a = g.F.Folder.told c.args.folder.now} (IsOpen c.args.files.now) (IsOpen c.args.files.now) (λ image is. is) c.in_ok-nodes.ensures.reads.stays c.walk_over.ensures.untold c.in_err-walked.was c.from_residual-in_err-walked.ensures.1

pub returns-in_err-reached-clause-untold : goal.returns-in_err-reached-clause-untold
returns-in_err-reached-clause-untold g c =
    untold_on c.chains_over.result c.from_residual-in_err-reached.result c.in_err-reached.field-0.0 {a = g.F.Folder.told c.args.folder.now} (IsOpen c.args.files.now) (IsOpen c.args.files.now) (λ image is. is) (c.in_ok-records.ensures.reads.stays ∙ c.in_ok-walked.ensures.reads.stays ∙ c.in_ok-nodes.ensures.reads.stays) c.chains_over.ensures.untold c.in_err-reached.was c.from_residual-in_err-reached.ensures.1

pub returns-clause-stand : goal.returns-clause-stand
returns-clause-stand g c = record { nodes = c.in_ok-walked.ensures.stand; records = c.in_ok-reached.ensures.stand; buckets = c.in_ok-reached.ensures.ends }
