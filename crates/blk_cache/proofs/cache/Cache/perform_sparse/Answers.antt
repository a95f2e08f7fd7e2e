use Rattle.std.proofs.Common.{sym, subst}
use Rattle.std.specs.Prelude.{IfOk, OnOk, OnErr}
use Rattle.blk_model.specs.Request.{request_of, to_sparse_range, to_sparse_read}
use Rattle.blk_model.specs.declared.Command.{Command}
use Rattle.law_state.specs.Commands.{Does, MayStopAtEach}
use Rattle.blk_cache.specs.CacheKeeping.{HoldsState}
use Rattle.blk_cache.specs.CommandClauses.{FlushesClean, SparesRefused}
use Rattle.blk_cache.specs.Stepping.{SaysEvicted, SaysPrefix}
use Rattle.blk_cache.proofs.CreateWhole.{on-ok}
use Rattle.blk_cache.proofs.SparseCommands.{no-fourth}
use Rattle.blk_cache.proofs.StepTexts.{prefix-nothing, says-nothing}
use Rattle.blk_cache.proofs.cache.Cache.perform_sparse.Goals as goal

pub returns-in-SparseWrite-clause-stops : goal.returns-in-SparseWrite-clause-stops
returns-in-SparseWrite-clause-stops g c = subst (λ (cmd : Command). MayStopAtEach (HoldsState c.args.self.now) (g.F.Folder.told c.args.folder.now) (g.F.Folder.told c.sparse_write.new.folder) c.args.moment (request_of cmd)) (sym c.in-SparseWrite.is) c.sparse_write.ensures.stops

pub returns-in-SparseWrite-clause-says : goal.returns-in-SparseWrite-clause-says
returns-in-SparseWrite-clause-says g c = subst (λ (cmd : Command). OnOk c.sparse_write.result (SaysEvicted c.args.self.now (g.F.Folder.told c.args.folder.now) c.args.moment (request_of cmd) c.args.failed.now c.sparse_write.new.failed (g.K.Sink.written c.args.out.now) (g.K.Sink.written c.sparse_write.new.out))) (sym c.in-SparseWrite.is) c.sparse_write.ensures.says

pub returns-in-SparseWrite-clause-front : goal.returns-in-SparseWrite-clause-front
returns-in-SparseWrite-clause-front g c = subst (λ (cmd : Command). SaysPrefix (HoldsState c.args.self.now) (g.F.Folder.told c.args.folder.now) c.args.moment (request_of cmd) (g.K.Sink.written c.args.out.now) (g.K.Sink.written c.sparse_write.new.out)) (sym c.in-SparseWrite.is) c.sparse_write.ensures.front

pub returns-in-SparseRead-clause-does : goal.returns-in-SparseRead-clause-does
returns-in-SparseRead-clause-does g c = subst (λ (cmd : Command). IfOk c.use_sparse.result (λ given. Does (HoldsState c.args.self.now) (HoldsState c.use_sparse.new.self) (g.F.Folder.told c.args.folder.now) (g.F.Folder.told c.use_sparse.new.folder) c.args.moment (request_of cmd) given)) (sym c.in-SparseRead.is) c.use_sparse.ensures.does

pub returns-in-SparseRead-clause-stops : goal.returns-in-SparseRead-clause-stops
returns-in-SparseRead-clause-stops g c = subst (λ (cmd : Command). MayStopAtEach (HoldsState c.args.self.now) (g.F.Folder.told c.args.folder.now) (g.F.Folder.told c.use_sparse.new.folder) c.args.moment (request_of cmd)) (sym c.in-SparseRead.is) c.use_sparse.ensures.stops

pub returns-in-SparseRead-clause-says : goal.returns-in-SparseRead-clause-says
returns-in-SparseRead-clause-says g c = subst (λ (cmd : Command). OnOk c.use_sparse.result (SaysEvicted c.args.self.now (g.F.Folder.told c.args.folder.now) c.args.moment (request_of cmd) c.args.failed.now c.args.failed.now (g.K.Sink.written c.args.out.now) (g.K.Sink.written c.args.out.now))) (sym c.in-SparseRead.is)
    (on-ok c.use_sparse.result (SaysEvicted c.args.self.now (g.F.Folder.told c.args.folder.now) c.args.moment (to_sparse_read c.in-SparseRead.handle c.in-SparseRead.offset c.in-SparseRead.count) c.args.failed.now c.args.failed.now (g.K.Sink.written c.args.out.now) (g.K.Sink.written c.args.out.now))
    (says-nothing c.args.self.now (g.F.Folder.told c.args.folder.now) c.args.moment (to_sparse_read c.in-SparseRead.handle c.in-SparseRead.offset c.in-SparseRead.count) tt c.args.failed.now (g.K.Sink.written c.args.out.now)))

pub returns-in-SparseRead-clause-front : goal.returns-in-SparseRead-clause-front
returns-in-SparseRead-clause-front g c = subst (λ (cmd : Command). SaysPrefix (HoldsState c.args.self.now) (g.F.Folder.told c.args.folder.now) c.args.moment (request_of cmd) (g.K.Sink.written c.args.out.now) (g.K.Sink.written c.args.out.now)) (sym c.in-SparseRead.is)
    (prefix-nothing c.args.self.now (g.F.Folder.told c.args.folder.now) c.args.moment (to_sparse_read c.in-SparseRead.handle c.in-SparseRead.offset c.in-SparseRead.count) tt c.args.failed.now (g.K.Sink.written c.args.out.now))

pub returns-in-SparseRange-clause-does : goal.returns-in-SparseRange-clause-does
returns-in-SparseRange-clause-does g c = subst (λ (cmd : Command). IfOk c.use_sparse-in-SparseRange.result (λ given. Does (HoldsState c.args.self.now) (HoldsState c.use_sparse-in-SparseRange.new.self) (g.F.Folder.told c.args.folder.now) (g.F.Folder.told c.use_sparse-in-SparseRange.new.folder) c.args.moment (request_of cmd) given)) (sym c.in-SparseRange.is) c.use_sparse-in-SparseRange.ensures.does

pub returns-in-SparseRange-clause-stops : goal.returns-in-SparseRange-clause-stops
returns-in-SparseRange-clause-stops g c = subst (λ (cmd : Command). MayStopAtEach (HoldsState c.args.self.now) (g.F.Folder.told c.args.folder.now) (g.F.Folder.told c.use_sparse-in-SparseRange.new.folder) c.args.moment (request_of cmd)) (sym c.in-SparseRange.is) c.use_sparse-in-SparseRange.ensures.stops

pub returns-in-SparseRange-clause-says : goal.returns-in-SparseRange-clause-says
returns-in-SparseRange-clause-says g c = subst (λ (cmd : Command). OnOk c.use_sparse-in-SparseRange.result (SaysEvicted c.args.self.now (g.F.Folder.told c.args.folder.now) c.args.moment (request_of cmd) c.args.failed.now c.args.failed.now (g.K.Sink.written c.args.out.now) (g.K.Sink.written c.args.out.now))) (sym c.in-SparseRange.is)
    (on-ok c.use_sparse-in-SparseRange.result (SaysEvicted c.args.self.now (g.F.Folder.told c.args.folder.now) c.args.moment (to_sparse_range c.in-SparseRange.handle c.in-SparseRange.offset c.in-SparseRange.count) c.args.failed.now c.args.failed.now (g.K.Sink.written c.args.out.now) (g.K.Sink.written c.args.out.now))
    (says-nothing c.args.self.now (g.F.Folder.told c.args.folder.now) c.args.moment (to_sparse_range c.in-SparseRange.handle c.in-SparseRange.offset c.in-SparseRange.count) tt c.args.failed.now (g.K.Sink.written c.args.out.now)))

pub returns-in-SparseRange-clause-front : goal.returns-in-SparseRange-clause-front
returns-in-SparseRange-clause-front g c = subst (λ (cmd : Command). SaysPrefix (HoldsState c.args.self.now) (g.F.Folder.told c.args.folder.now) c.args.moment (request_of cmd) (g.K.Sink.written c.args.out.now) (g.K.Sink.written c.args.out.now)) (sym c.in-SparseRange.is)
    (prefix-nothing c.args.self.now (g.F.Folder.told c.args.folder.now) c.args.moment (to_sparse_range c.in-SparseRange.handle c.in-SparseRange.offset c.in-SparseRange.count) tt c.args.failed.now (g.K.Sink.written c.args.out.now))

pub returns-in-SparseWrite-clause-idle : goal.returns-in-SparseWrite-clause-idle
returns-in-SparseWrite-clause-idle g c image there state k flushes = absurd (subst (λ (cmd : Command). FlushesClean state (request_of cmd)) c.in-SparseWrite.is flushes)

pub returns-in-SparseRead-clause-idle : goal.returns-in-SparseRead-clause-idle
returns-in-SparseRead-clause-idle g c image there state k flushes = absurd (subst (λ (cmd : Command). FlushesClean state (request_of cmd)) c.in-SparseRead.is flushes)

pub returns-in-SparseRange-clause-idle : goal.returns-in-SparseRange-clause-idle
returns-in-SparseRange-clause-idle g c image there state k flushes = absurd (subst (λ (cmd : Command). FlushesClean state (request_of cmd)) c.in-SparseRange.is flushes)

pub unreachable-requires : goal.unreachable-requires
unreachable-requires g c = no-fourth c.args.command.now c.requires.on_sparse c.in_default.not-SparseWrite c.in_default.not-SparseRead c.in_default.not-SparseRange

pub returns-in-SparseWrite-clause-spares : goal.returns-in-SparseWrite-clause-spares
returns-in-SparseWrite-clause-spares g c = subst (λ (cmd : Command). OnErr c.sparse_write.result (SparesRefused (HoldsState c.args.self.now) (g.F.Folder.told c.args.folder.now) (g.F.Folder.told c.sparse_write.new.folder) c.args.moment (request_of cmd))) (sym c.in-SparseWrite.is) c.sparse_write.ensures.spares

pub returns-in-SparseRead-clause-spares : goal.returns-in-SparseRead-clause-spares
returns-in-SparseRead-clause-spares g c = subst (λ (cmd : Command). OnErr c.use_sparse.result (SparesRefused (HoldsState c.args.self.now) (g.F.Folder.told c.args.folder.now) (g.F.Folder.told c.use_sparse.new.folder) c.args.moment (request_of cmd))) (sym c.in-SparseRead.is) c.use_sparse.ensures.spares

pub returns-in-SparseRange-clause-spares : goal.returns-in-SparseRange-clause-spares
returns-in-SparseRange-clause-spares g c = subst (λ (cmd : Command). OnErr c.use_sparse-in-SparseRange.result (SparesRefused (HoldsState c.args.self.now) (g.F.Folder.told c.args.folder.now) (g.F.Folder.told c.use_sparse-in-SparseRange.new.folder) c.args.moment (request_of cmd))) (sym c.in-SparseRange.is) c.use_sparse-in-SparseRange.ensures.spares
