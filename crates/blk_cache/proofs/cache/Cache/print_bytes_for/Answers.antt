use Rattle.std.proofs.Common.{refl, sym, subst}
use Rattle.std.specs.Prelude.{OnOk}
use Rattle.std.proofs.lemmas.Result.{on_ok_weaker}
use Rattle.blk_model.specs.Request.{request_of}
use Rattle.blk_model.specs.declared.Command.{Command}
use Rattle.blk_evict.specs.RoomPrinting.{PrintsUnlessFailed, PrintsInPart}
use Rattle.blk_cache.specs.Replying.{ForBytes, IsStateAfter}
use Rattle.blk_model.specs.declared.Answer.TheVariants as answer
use Rattle.blk_evict.proofs.RoomTexts.{none-printed, part-none}
use Rattle.blk_cache.proofs.Replies.{no-bytes, read-bytes, to-read}
use Rattle.blk_cache.proofs.SparseReplies.{present-bytes, to-present}
use Rattle.blk_cache.proofs.cache.Cache.print_bytes_for.Goals as goal

pub returns-in-Read-clause-printed : goal.returns-in-Read-clause-printed
returns-in-Read-clause-printed g c =
    subst (λ (cmd : Command). OnOk c.print_read.result (ForBytes c.args.self.now (g.F.Folder.told c.args.folder.now) (request_of cmd) c.args.number (PrintsUnlessFailed c.args.failed.now c.print_read.new.failed (g.K.Sink.written c.args.out.now) (g.K.Sink.written c.print_read.new.out)))) (sym c.in-Read.is)
    (on_ok_weaker c.print_read.result (read-bytes c.args.self.now (g.F.Folder.told c.args.folder.now) c.in-Read.handle c.in-Read.stream c.in-Read.offset c.in-Read.count c.args.number (PrintsUnlessFailed c.args.failed.now c.print_read.new.failed (g.K.Sink.written c.args.out.now) (g.K.Sink.written c.print_read.new.out))) c.print_read.ensures.printed)

pub returns-in-Read-clause-part : goal.returns-in-Read-clause-part
returns-in-Read-clause-part g c =
    subst (λ (cmd : Command). ForBytes c.args.self.now (g.F.Folder.told c.args.folder.now) (request_of cmd) c.args.number (PrintsInPart c.args.failed.now (g.K.Sink.written c.args.out.now) (g.K.Sink.written c.print_read.new.out))) (sym c.in-Read.is)
    (read-bytes c.args.self.now (g.F.Folder.told c.args.folder.now) c.in-Read.handle c.in-Read.stream c.in-Read.offset c.in-Read.count c.args.number (PrintsInPart c.args.failed.now (g.K.Sink.written c.args.out.now) (g.K.Sink.written c.print_read.new.out)) c.print_read.ensures.part)

pub returns-in_default-clause-printed : goal.returns-in_default-clause-printed
returns-in_default-clause-printed g c image there state k after =
    subst (PrintsUnlessFailed c.args.failed.now c.args.failed.now (g.K.Sink.written c.args.out.now) (g.K.Sink.written c.args.out.now)) (sym (no-bytes c.args.command.now state c.in_default.not-Read c.in_default.not-SparseRead)) (none-printed c.args.failed.now (g.K.Sink.written c.args.out.now))

pub returns-in_default-clause-part : goal.returns-in_default-clause-part
returns-in_default-clause-part g c image there state k after = part-none c.args.failed.now (g.K.Sink.written c.args.out.now) (g.K.Sink.written c.args.out.now) _ refl

pub returns-in-Read-clause-untold : goal.returns-in-Read-clause-untold
returns-in-Read-clause-untold g c any =
    c.print_read.ensures.untold (λ image there.
    let one = any image there in
    to-read c.args.self.now (g.F.Folder.told c.args.folder.now) c.in-Read.handle c.in-Read.stream c.in-Read.offset c.in-Read.count c.args.number one.state image one.kept (subst (λ (cmd : Command). IsStateAfter (request_of cmd) (answer.Bytes c.args.number) one.state) c.in-Read.is one.after))

pub returns-in-SparseRead-clause-printed : goal.returns-in-SparseRead-clause-printed
returns-in-SparseRead-clause-printed g c =
    subst (λ (cmd : Command). OnOk c.print_sparse.result (ForBytes c.args.self.now (g.F.Folder.told c.args.folder.now) (request_of cmd) c.args.number (PrintsUnlessFailed c.args.failed.now c.print_sparse.new.failed (g.K.Sink.written c.args.out.now) (g.K.Sink.written c.print_sparse.new.out)))) (sym c.in-SparseRead.is)
    (on_ok_weaker c.print_sparse.result (present-bytes c.args.self.now (g.F.Folder.told c.args.folder.now) c.in-SparseRead.handle c.in-SparseRead.offset c.in-SparseRead.count c.args.number (PrintsUnlessFailed c.args.failed.now c.print_sparse.new.failed (g.K.Sink.written c.args.out.now) (g.K.Sink.written c.print_sparse.new.out))) c.print_sparse.ensures.printed)

pub returns-in-SparseRead-clause-part : goal.returns-in-SparseRead-clause-part
returns-in-SparseRead-clause-part g c =
    subst (λ (cmd : Command). ForBytes c.args.self.now (g.F.Folder.told c.args.folder.now) (request_of cmd) c.args.number (PrintsInPart c.args.failed.now (g.K.Sink.written c.args.out.now) (g.K.Sink.written c.print_sparse.new.out))) (sym c.in-SparseRead.is)
    (present-bytes c.args.self.now (g.F.Folder.told c.args.folder.now) c.in-SparseRead.handle c.in-SparseRead.offset c.in-SparseRead.count c.args.number (PrintsInPart c.args.failed.now (g.K.Sink.written c.args.out.now) (g.K.Sink.written c.print_sparse.new.out)) c.print_sparse.ensures.part)

pub returns-in-SparseRead-clause-untold : goal.returns-in-SparseRead-clause-untold
returns-in-SparseRead-clause-untold g c any =
    c.print_sparse.ensures.untold (λ image there.
    let one = any image there in
    to-present c.args.self.now (g.F.Folder.told c.args.folder.now) c.in-SparseRead.handle c.in-SparseRead.offset c.in-SparseRead.count c.args.number one.state image one.kept (subst (λ (cmd : Command). IsStateAfter (request_of cmd) (answer.Bytes c.args.number) one.state) c.in-SparseRead.is one.after))
