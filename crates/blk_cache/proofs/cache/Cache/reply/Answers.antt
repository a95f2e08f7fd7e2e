use Rattle.std.proofs.Common.{subst}
use Rattle.std.proofs.lemmas.Result.{on_ok_weaker}
use Rattle.blk_model.specs.declared.Answer.{Answer}
use Rattle.blk_cache.specs.Replying.{IsStateAfter}
use Rattle.blk_model.specs.Request.{request_of}
use Rattle.blk_evict.specs.RoomPrinting.{PrintsUnlessFailed, PrintsInPart}
use Rattle.blk_cache.proofs.Replies.{bytes-reply, rows-reply}
use Rattle.blk_cache.proofs.cache.Cache.reply.Goals as goal

pub returns-in-Bytes-clause-printed : goal.returns-in-Bytes-clause-printed
returns-in-Bytes-clause-printed g c =
    on_ok_weaker c.print_bytes_for.result
    (bytes-reply c.args.self.now (g.F.Folder.told c.args.folder.now) (request_of c.args.command.now) c.args.answer.now c.in-Bytes.number c.in-Bytes.is (PrintsUnlessFailed c.args.failed.now c.print_bytes_for.new.failed (g.K.Sink.written c.args.out.now) (g.K.Sink.written c.print_bytes_for.new.out)))
    c.print_bytes_for.ensures.printed

pub returns-in-Bytes-clause-part : goal.returns-in-Bytes-clause-part
returns-in-Bytes-clause-part g c =
    bytes-reply c.args.self.now (g.F.Folder.told c.args.folder.now) (request_of c.args.command.now) c.args.answer.now c.in-Bytes.number c.in-Bytes.is (PrintsInPart c.args.failed.now (g.K.Sink.written c.args.out.now) (g.K.Sink.written c.print_bytes_for.new.out))
    c.print_bytes_for.ensures.part

pub returns-in-Listed-clause-printed : goal.returns-in-Listed-clause-printed
returns-in-Listed-clause-printed g c =
    on_ok_weaker c.print_list.result
    (rows-reply c.args.self.now (g.F.Folder.told c.args.folder.now) (request_of c.args.command.now) c.args.answer.now c.in-Listed.field-0 c.in-Listed.is (PrintsUnlessFailed c.args.failed.now c.print_list.new.failed (g.K.Sink.written c.args.out.now) (g.K.Sink.written c.print_list.new.out)))
    c.print_list.ensures.printed

pub returns-in-Listed-clause-part : goal.returns-in-Listed-clause-part
returns-in-Listed-clause-part g c =
    rows-reply c.args.self.now (g.F.Folder.told c.args.folder.now) (request_of c.args.command.now) c.args.answer.now c.in-Listed.field-0 c.in-Listed.is (PrintsInPart c.args.failed.now (g.K.Sink.written c.args.out.now) (g.K.Sink.written c.print_list.new.out))
    c.print_list.ensures.part

pub returns-in-Bytes-clause-untold : goal.returns-in-Bytes-clause-untold
returns-in-Bytes-clause-untold g c any =
    c.print_bytes_for.ensures.untold (λ image there.
    let one = any image there in
    record { state = one.state; kept = one.kept; after = subst (λ (a : Answer). IsStateAfter (request_of c.args.command.now) a one.state) c.in-Bytes.is one.after })

pub returns-in-Listed-clause-untold : goal.returns-in-Listed-clause-untold
returns-in-Listed-clause-untold g c any = c.print_list.ensures.untold (λ image there. let one = any image there in (one.state, one.kept))
