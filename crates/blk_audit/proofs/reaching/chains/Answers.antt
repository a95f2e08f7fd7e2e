use Rattle.std.specs.Option.{ForSome}
use Rattle.blk_disk.specs.Open.{IsOpen}
use Rattle.blk_disk.specs.Tables.{Agrees}
use Rattle.blk_entry.proofs.KeyPlaces.{ok_weaker}
use Rattle.blk_lru.proofs.Conditions.{told_now, told_stays}
use Rattle.spec_folder.specs.View.{store_of}
use Rattle.blk_audit.specs.Chaining.{AreBucketsOf, AreChainsThere, words_reached}
use Rattle.blk_audit.specs.Records.{AreRecordsOf}
use Rattle.blk_audit.proofs.Carrying.{untold_last, untold_on}
use Rattle.blk_audit.proofs.reaching.chains.Goals as goal

pub chains_over-requires : goal.chains_over-requires
chains_over-requires g c = record { records = told_stays (λ image. AreRecordsOf image c.in_ok-records.records) c.in_ok-records.ensures.reads.stays c.in_ok-records.ensures.records }

pub returns-clause-checked : goal.returns-clause-checked
returns-clause-checked g c =
    ok_weaker c.chains_over.result _ (λ reached. ForSome (g.F.Folder.told c.args.folder.now).files (λ image. AreChainsThere c.args.files.now image (words_reached reached)))
    (λ reached chains image there. chains image (told_now image c.in_ok-records.ensures.reads.stays there)) c.chains_over.ensures.checked

pub returns-in_err-records-clause-untold : goal.returns-in_err-records-clause-untold
returns-in_err-records-clause-untold g c =
    untold_on c.read_records.result c.from_residual.result c.in_err-records.field-0.0 {a = g.F.Folder.told c.args.folder.now} (IsOpen c.args.files.now) (Agrees c.args.files.now) (λ image is. is.agrees) c.read_records.ensures.reads.stays c.read_records.ensures.untold c.in_err-records.was c.from_residual.ensures.1

pub returns-clause-untold : goal.returns-clause-untold
returns-clause-untold g c =
    untold_last c.chains_over.result {a = g.F.Folder.told c.args.folder.now} (IsOpen c.args.files.now) (IsOpen c.args.files.now) (λ image is. is) c.in_ok-records.ensures.reads.stays c.chains_over.ensures.untold

pub returns-clause-buckets : goal.returns-clause-buckets
returns-clause-buckets g c =
    ok_weaker c.chains_over.result _ (λ reached. ForSome (g.F.Folder.told c.args.folder.now).files (λ image. Agrees c.args.files.now image → AreBucketsOf (store_of image) reached))
    (λ reached are image there agrees. are image (told_now image c.in_ok-records.ensures.reads.stays there) agrees) c.chains_over.ensures.buckets
