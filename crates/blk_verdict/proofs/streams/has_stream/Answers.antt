use Rattle.std.proofs.Common.{sym, ◌∙◌}
use Rattle.std.specs.Option.{ForSome}
use Rattle.blk_disk.specs.Tables.{Agrees}
use Rattle.std.proofs.Common.{◌≡◌}
use Rattle.blk_entry.proofs.KeyPlaces.{ok_weaker}
use Rattle.blk_verdict.specs.Streams.{is_stream}
use Rattle.blk_verdict.proofs.StreamFacts.{stream_fits, stream_long}
use Rattle.blk_verdict.proofs.streams.has_stream.Goals as goal

pub returns-then-size-gt-MOST_STREAM-clause-stream : goal.returns-then-size-gt-MOST_STREAM-clause-stream
returns-then-size-gt-MOST_STREAM-clause-stream g c image there agrees = sym (stream_long image c.args.size c.args.word c.if-size-gt-MOST_STREAM.true)

pub returns-clause-stream : goal.returns-clause-stream
returns-clause-stream g c =
    ok_weaker c.is_stored.result _ (λ has. ForSome (g.F.Folder.told c.args.folder.now).files (λ image. Agrees c.args.files.now image → has ≡ is_stream image c.args.size c.args.word))
    (λ has is image there agrees. is image there agrees ∙ sym (stream_fits image c.args.size c.args.word c.if-size-gt-MOST_STREAM.false)) c.is_stored.ensures.stored
