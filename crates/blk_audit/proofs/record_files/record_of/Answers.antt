use Rattle.std.specs.Option.{ForSome}
use Rattle.blk_entry.proofs.KeyPlaces.{ok_weaker}
use Rattle.blk_audit.specs.Records.{AreRecordsOf, IsSaidBy}
use Rattle.blk_audit.proofs.record_files.record_of.Goals as goal

pub returns-in-None-clause-said : goal.returns-in-None-clause-said
returns-in-None-clause-said g c =
    ok_weaker c.read_record.result _ (λ said. ForSome (g.F.Folder.told c.args.folder.now).files (λ image. AreRecordsOf image c.args.records.now → IsSaidBy image c.args.addr said))
    (λ said is image there are. is image there) c.read_record.ensures.said
