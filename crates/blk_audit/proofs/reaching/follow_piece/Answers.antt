use Rattle.std.proofs.Common.{refl, sym}
use Rattle.spec_format.specs.Headers.{HasWholeIndex}
use Rattle.blk_disk.specs.Open.{IsOpen}
use Rattle.blk_disk.specs.Tables.{Agrees}
use Rattle.blk_audit.specs.Records.{AreRecordsOf}
use Rattle.spec_folder.specs.View.{store_of}
use Rattle.blk_audit.specs.Chaining.{AreFirstReached, HasFirst, words_reached}
use Rattle.spec_image.specs.Image.{Image}
use Rattle.blk_lru.proofs.Conditions.{told_stays}
use Rattle.blk_audit.proofs.Carrying.{untold_converted, untold_on}
use Rattle.blk_audit.proofs.reaching.follow_piece.Goals as goal

pub follow_all-requires-clause-there : goal.follow_all-requires-clause-there
follow_all-requires-clause-there g c = told_stays (λ (image : Image). HasFirst c.args.files.now image (words_reached c.args.reached.now) c.args.first) c.in_ok-buckets.ensures.reads.stays c.requires.there

pub follow_all-requires-clause-records : goal.follow_all-requires-clause-records
follow_all-requires-clause-records g c = told_stays (λ (image : Image). AreRecordsOf image c.args.records.now) c.in_ok-buckets.ensures.reads.stays c.requires.records

pub returns-in_err-buckets-clause-untold : goal.returns-in_err-buckets-clause-untold
returns-in_err-buckets-clause-untold g c =
    untold_converted c.buckets.result c.from_residual.result c.in_err-buckets.field-0.0 {a = g.F.Folder.told c.buckets.new.folder} {m = g.F.Folder.told c.args.folder.now} (IsOpen c.args.files.now) HasWholeIndex (λ image is. is.whole_index) (sym c.buckets.ensures.reads.stays) c.buckets.ensures.untold c.in_err-buckets.was c.from_residual.ensures.1

pub returns-in_err-follow_all-clause-untold : goal.returns-in_err-follow_all-clause-untold
returns-in_err-follow_all-clause-untold g c =
    untold_on c.follow_all.result c.from_residual-in_err-follow_all.result c.in_err-follow_all.field-0.0 {a = g.F.Folder.told c.follow_all.new.folder} {m = g.F.Folder.told c.follow_all.new.folder} (IsOpen c.args.files.now) (Agrees c.args.files.now) (λ image is. is.agrees) refl c.follow_all.ensures.untold c.in_err-follow_all.was c.from_residual-in_err-follow_all.ensures.1

pub follow_all-requires-clause-before : goal.follow_all-requires-clause-before
follow_all-requires-clause-before g c = told_stays (λ (image : Image). Agrees c.args.files.now image → AreFirstReached (store_of image) c.args.first c.args.reached.now) c.in_ok-buckets.ensures.reads.stays c.requires.before
