use Rattle.std.proofs.Common.{refl, sym, ap, subst, ◌∙◌}
use Rattle.std.specs.Option.{ForSome}
use Rattle.spec_image.specs.Told.{Told}
use Rattle.blk_disk.specs.Open.{IsOpen}
use Rattle.std.specs.Prelude.{IfOk, OnOk, OnErr}
use Rattle.blk_model.specs.Request.{request_of, to_close, to_doom, to_doom_key, to_flush, to_list, to_open, to_read, to_size, to_total, to_trim}
use Rattle.blk_model.specs.declared.Command.{Command}
use Rattle.law_state.specs.Commands.{Does, MayStopAtEach}
use Rattle.law_state.proofs.Stopping.{nothing-stops}
use Rattle.blk_cache.specs.CacheKeeping.{HoldsState}
use Rattle.blk_cache.specs.CommandClauses.{FlushesClean, SparesRefused}
use Rattle.blk_cache.specs.Stepping.{SaysEvicted, SaysPrefix}
use Rattle.blk_cache.proofs.CreateWhole.{on-ok}
use Rattle.blk_cache.proofs.Refusing.{says-kept}
use Rattle.blk_cache.proofs.SparseCommands.{is-on-sparse}
use Rattle.blk_cache.proofs.StepTexts.{prefix-nothing, says-nothing}
use Rattle.blk_cache.proofs.Sparing.{any-err, passed-spares, stayed-spares}
use Rattle.blk_cache.proofs.TrimSteps.{trim-passes}
use Rattle.blk_cache.proofs.cache.Cache.perform.Goals as goal

pub returns-in-Create-clause-stops : goal.returns-in-Create-clause-stops
returns-in-Create-clause-stops g c = subst (λ (cmd : Command). MayStopAtEach (HoldsState c.args.self.now) (g.F.Folder.told c.args.folder.now) (g.F.Folder.told c.create.new.folder) c.args.moment (request_of cmd)) (sym c.in-Create.is) c.create.ensures.stops

pub returns-in-Create-clause-says : goal.returns-in-Create-clause-says
returns-in-Create-clause-says g c = subst (λ (cmd : Command). OnOk c.create.result (SaysEvicted c.args.self.now (g.F.Folder.told c.args.folder.now) c.args.moment (request_of cmd) c.args.failed.now c.create.new.failed (g.K.Sink.written c.args.out.now) (g.K.Sink.written c.create.new.out))) (sym c.in-Create.is) c.create.ensures.says

pub returns-in-Create-clause-front : goal.returns-in-Create-clause-front
returns-in-Create-clause-front g c = subst (λ (cmd : Command). SaysPrefix (HoldsState c.args.self.now) (g.F.Folder.told c.args.folder.now) c.args.moment (request_of cmd) (g.K.Sink.written c.args.out.now) (g.K.Sink.written c.create.new.out)) (sym c.in-Create.is) c.create.ensures.front

pub returns-in-Open-clause-stops : goal.returns-in-Open-clause-stops
returns-in-Open-clause-stops g c = subst (λ (cmd : Command). MayStopAtEach (HoldsState c.args.self.now) (g.F.Folder.told c.args.folder.now) (g.F.Folder.told c.open.new.folder) c.args.moment (request_of cmd)) (sym c.in-Open.is) c.open.ensures.stops

pub returns-in-Open-clause-says : goal.returns-in-Open-clause-says
returns-in-Open-clause-says g c = subst (λ (cmd : Command). OnOk c.open.result (SaysEvicted c.args.self.now (g.F.Folder.told c.args.folder.now) c.args.moment (request_of cmd) c.args.failed.now c.args.failed.now (g.K.Sink.written c.args.out.now) (g.K.Sink.written c.args.out.now))) (sym c.in-Open.is)
    (on-ok c.open.result (SaysEvicted c.args.self.now (g.F.Folder.told c.args.folder.now) c.args.moment (to_open c.in-Open.handle c.in-Open.key.now) c.args.failed.now c.args.failed.now (g.K.Sink.written c.args.out.now) (g.K.Sink.written c.args.out.now))
    (says-nothing c.args.self.now (g.F.Folder.told c.args.folder.now) c.args.moment (to_open c.in-Open.handle c.in-Open.key.now) tt c.args.failed.now (g.K.Sink.written c.args.out.now)))

pub returns-in-Open-clause-front : goal.returns-in-Open-clause-front
returns-in-Open-clause-front g c = subst (λ (cmd : Command). SaysPrefix (HoldsState c.args.self.now) (g.F.Folder.told c.args.folder.now) c.args.moment (request_of cmd) (g.K.Sink.written c.args.out.now) (g.K.Sink.written c.args.out.now)) (sym c.in-Open.is)
    (prefix-nothing c.args.self.now (g.F.Folder.told c.args.folder.now) c.args.moment (to_open c.in-Open.handle c.in-Open.key.now) tt c.args.failed.now (g.K.Sink.written c.args.out.now))

pub returns-in-Close-clause-stops : goal.returns-in-Close-clause-stops
returns-in-Close-clause-stops g c = subst (λ (cmd : Command). MayStopAtEach (HoldsState c.args.self.now) (g.F.Folder.told c.args.folder.now) (g.F.Folder.told c.close.new.folder) c.args.moment (request_of cmd)) (sym c.in-Close.is) (c.close.ensures.stops c.args.moment)

pub returns-in-Close-clause-says : goal.returns-in-Close-clause-says
returns-in-Close-clause-says g c = subst (λ (cmd : Command). OnOk c.close.result (SaysEvicted c.args.self.now (g.F.Folder.told c.args.folder.now) c.args.moment (request_of cmd) c.args.failed.now c.args.failed.now (g.K.Sink.written c.args.out.now) (g.K.Sink.written c.args.out.now))) (sym c.in-Close.is)
    (on-ok c.close.result (SaysEvicted c.args.self.now (g.F.Folder.told c.args.folder.now) c.args.moment (to_close c.in-Close.handle) c.args.failed.now c.args.failed.now (g.K.Sink.written c.args.out.now) (g.K.Sink.written c.args.out.now))
    (says-nothing c.args.self.now (g.F.Folder.told c.args.folder.now) c.args.moment (to_close c.in-Close.handle) tt c.args.failed.now (g.K.Sink.written c.args.out.now)))

pub returns-in-Close-clause-front : goal.returns-in-Close-clause-front
returns-in-Close-clause-front g c = subst (λ (cmd : Command). SaysPrefix (HoldsState c.args.self.now) (g.F.Folder.told c.args.folder.now) c.args.moment (request_of cmd) (g.K.Sink.written c.args.out.now) (g.K.Sink.written c.args.out.now)) (sym c.in-Close.is)
    (prefix-nothing c.args.self.now (g.F.Folder.told c.args.folder.now) c.args.moment (to_close c.in-Close.handle) tt c.args.failed.now (g.K.Sink.written c.args.out.now))

pub returns-in-Flush-clause-stops : goal.returns-in-Flush-clause-stops
returns-in-Flush-clause-stops g c = subst (λ (cmd : Command). MayStopAtEach (HoldsState c.args.self.now) (g.F.Folder.told c.args.folder.now) (g.F.Folder.told c.flush.new.folder) c.args.moment (request_of cmd)) (sym c.in-Flush.is) (c.flush.ensures.stops c.args.moment)

pub returns-in-Flush-clause-says : goal.returns-in-Flush-clause-says
returns-in-Flush-clause-says g c = subst (λ (cmd : Command). OnOk c.flush.result (SaysEvicted c.args.self.now (g.F.Folder.told c.args.folder.now) c.args.moment (request_of cmd) c.args.failed.now c.args.failed.now (g.K.Sink.written c.args.out.now) (g.K.Sink.written c.args.out.now))) (sym c.in-Flush.is)
    (on-ok c.flush.result (SaysEvicted c.args.self.now (g.F.Folder.told c.args.folder.now) c.args.moment (to_flush c.in-Flush.handle) c.args.failed.now c.args.failed.now (g.K.Sink.written c.args.out.now) (g.K.Sink.written c.args.out.now))
    (says-nothing c.args.self.now (g.F.Folder.told c.args.folder.now) c.args.moment (to_flush c.in-Flush.handle) tt c.args.failed.now (g.K.Sink.written c.args.out.now)))

pub returns-in-Flush-clause-front : goal.returns-in-Flush-clause-front
returns-in-Flush-clause-front g c = subst (λ (cmd : Command). SaysPrefix (HoldsState c.args.self.now) (g.F.Folder.told c.args.folder.now) c.args.moment (request_of cmd) (g.K.Sink.written c.args.out.now) (g.K.Sink.written c.args.out.now)) (sym c.in-Flush.is)
    (prefix-nothing c.args.self.now (g.F.Folder.told c.args.folder.now) c.args.moment (to_flush c.in-Flush.handle) tt c.args.failed.now (g.K.Sink.written c.args.out.now))

pub returns-in-Total-clause-does : goal.returns-in-Total-clause-does
returns-in-Total-clause-does g c = subst (λ (cmd : Command). Does (HoldsState c.args.self.now) (HoldsState c.args.self.now) (g.F.Folder.told c.args.folder.now) (g.F.Folder.told c.args.folder.now) c.args.moment (request_of cmd) c.total.result) (sym c.in-Total.is) (c.total.ensures.does (g.F.Folder.told c.args.folder.now) c.args.moment)

pub returns-in-Total-clause-stops : goal.returns-in-Total-clause-stops
returns-in-Total-clause-stops g c = nothing-stops (HoldsState c.args.self.now) (says-kept c.args.self.now) (g.F.Folder.told c.args.folder.now) (g.F.Folder.told c.args.folder.now) c.args.moment (request_of c.args.command.now) refl

pub returns-in-Total-clause-says : goal.returns-in-Total-clause-says
returns-in-Total-clause-says g c = subst (λ (cmd : Command). SaysEvicted c.args.self.now (g.F.Folder.told c.args.folder.now) c.args.moment (request_of cmd) c.args.failed.now c.args.failed.now (g.K.Sink.written c.args.out.now) (g.K.Sink.written c.args.out.now)) (sym c.in-Total.is)
    (says-nothing c.args.self.now (g.F.Folder.told c.args.folder.now) c.args.moment to_total tt c.args.failed.now (g.K.Sink.written c.args.out.now))

pub returns-in-Total-clause-front : goal.returns-in-Total-clause-front
returns-in-Total-clause-front g c = subst (λ (cmd : Command). SaysPrefix (HoldsState c.args.self.now) (g.F.Folder.told c.args.folder.now) c.args.moment (request_of cmd) (g.K.Sink.written c.args.out.now) (g.K.Sink.written c.args.out.now)) (sym c.in-Total.is)
    (prefix-nothing c.args.self.now (g.F.Folder.told c.args.folder.now) c.args.moment to_total tt c.args.failed.now (g.K.Sink.written c.args.out.now))

pub returns-in-Size-clause-does : goal.returns-in-Size-clause-does
returns-in-Size-clause-does g c = subst (λ (cmd : Command). IfOk c.size.result (λ given. Does (HoldsState c.args.self.now) (HoldsState c.args.self.now) (g.F.Folder.told c.args.folder.now) (g.F.Folder.told c.size.new.folder) c.args.moment (request_of cmd) given)) (sym c.in-Size.is) (c.size.ensures.does c.args.moment)

pub returns-in-Size-clause-stops : goal.returns-in-Size-clause-stops
returns-in-Size-clause-stops g c = nothing-stops (HoldsState c.args.self.now) (says-kept c.args.self.now) (g.F.Folder.told c.args.folder.now) (g.F.Folder.told c.size.new.folder) c.args.moment (request_of c.args.command.now) c.size.ensures.reads.stays

pub returns-in-Size-clause-says : goal.returns-in-Size-clause-says
returns-in-Size-clause-says g c = subst (λ (cmd : Command). OnOk c.size.result (SaysEvicted c.args.self.now (g.F.Folder.told c.args.folder.now) c.args.moment (request_of cmd) c.args.failed.now c.args.failed.now (g.K.Sink.written c.args.out.now) (g.K.Sink.written c.args.out.now))) (sym c.in-Size.is)
    (on-ok c.size.result (SaysEvicted c.args.self.now (g.F.Folder.told c.args.folder.now) c.args.moment (to_size c.in-Size.handle c.in-Size.stream) c.args.failed.now c.args.failed.now (g.K.Sink.written c.args.out.now) (g.K.Sink.written c.args.out.now))
    (says-nothing c.args.self.now (g.F.Folder.told c.args.folder.now) c.args.moment (to_size c.in-Size.handle c.in-Size.stream) tt c.args.failed.now (g.K.Sink.written c.args.out.now)))

pub returns-in-Size-clause-front : goal.returns-in-Size-clause-front
returns-in-Size-clause-front g c = subst (λ (cmd : Command). SaysPrefix (HoldsState c.args.self.now) (g.F.Folder.told c.args.folder.now) c.args.moment (request_of cmd) (g.K.Sink.written c.args.out.now) (g.K.Sink.written c.args.out.now)) (sym c.in-Size.is)
    (prefix-nothing c.args.self.now (g.F.Folder.told c.args.folder.now) c.args.moment (to_size c.in-Size.handle c.in-Size.stream) tt c.args.failed.now (g.K.Sink.written c.args.out.now))

pub returns-in-Trim-clause-stops : goal.returns-in-Trim-clause-stops
returns-in-Trim-clause-stops g c = subst (λ (cmd : Command). MayStopAtEach (HoldsState c.args.self.now) (g.F.Folder.told c.args.folder.now) (g.F.Folder.told c.trim.new.folder) c.args.moment (request_of cmd)) (sym c.in-Trim.is) (c.trim.ensures.stops c.args.moment)

pub returns-in-Trim-clause-says : goal.returns-in-Trim-clause-says
returns-in-Trim-clause-says g c = subst (λ (cmd : Command). OnOk c.trim.result (SaysEvicted c.args.self.now (g.F.Folder.told c.args.folder.now) c.args.moment (request_of cmd) c.args.failed.now c.trim.new.failed (g.K.Sink.written c.args.out.now) (g.K.Sink.written c.trim.new.out))) (sym c.in-Trim.is) (c.trim.ensures.says c.args.moment)

pub returns-in-Trim-clause-front : goal.returns-in-Trim-clause-front
returns-in-Trim-clause-front g c = subst (λ (cmd : Command). SaysPrefix (HoldsState c.args.self.now) (g.F.Folder.told c.args.folder.now) c.args.moment (request_of cmd) (g.K.Sink.written c.args.out.now) (g.K.Sink.written c.trim.new.out)) (sym c.in-Trim.is) (c.trim.ensures.front c.args.moment)

pub returns-in-Size-clause-is_open : goal.returns-in-Size-clause-is_open
returns-in-Size-clause-is_open g c = on-ok c.size.result (ForSome (g.F.Folder.told c.size.new.folder).files (IsOpen c.args.self.now.files)) (λ image now. c.requires.is_open image (ap (λ (t : Told). t.files) (sym c.size.ensures.reads.stays) ∙ now))

pub returns-in-Read-clause-does : goal.returns-in-Read-clause-does
returns-in-Read-clause-does g c = subst (λ (cmd : Command). IfOk c.use_read.result (λ given. Does (HoldsState c.args.self.now) (HoldsState c.args.self.now) (g.F.Folder.told c.args.folder.now) (g.F.Folder.told c.use_read.new.folder) c.args.moment (request_of cmd) given)) (sym c.in-Read.is) c.use_read.ensures.does

pub returns-in-Read-clause-stops : goal.returns-in-Read-clause-stops
returns-in-Read-clause-stops g c = subst (λ (cmd : Command). MayStopAtEach (HoldsState c.args.self.now) (g.F.Folder.told c.args.folder.now) (g.F.Folder.told c.use_read.new.folder) c.args.moment (request_of cmd)) (sym c.in-Read.is) c.use_read.ensures.stops

pub returns-in-Read-clause-says : goal.returns-in-Read-clause-says
returns-in-Read-clause-says g c = subst (λ (cmd : Command). OnOk c.use_read.result (SaysEvicted c.args.self.now (g.F.Folder.told c.args.folder.now) c.args.moment (request_of cmd) c.args.failed.now c.args.failed.now (g.K.Sink.written c.args.out.now) (g.K.Sink.written c.args.out.now))) (sym c.in-Read.is)
    (on-ok c.use_read.result (SaysEvicted c.args.self.now (g.F.Folder.told c.args.folder.now) c.args.moment (to_read c.in-Read.handle c.in-Read.stream c.in-Read.offset c.in-Read.count) c.args.failed.now c.args.failed.now (g.K.Sink.written c.args.out.now) (g.K.Sink.written c.args.out.now))
    (says-nothing c.args.self.now (g.F.Folder.told c.args.folder.now) c.args.moment (to_read c.in-Read.handle c.in-Read.stream c.in-Read.offset c.in-Read.count) tt c.args.failed.now (g.K.Sink.written c.args.out.now)))

pub returns-in-Read-clause-front : goal.returns-in-Read-clause-front
returns-in-Read-clause-front g c = subst (λ (cmd : Command). SaysPrefix (HoldsState c.args.self.now) (g.F.Folder.told c.args.folder.now) c.args.moment (request_of cmd) (g.K.Sink.written c.args.out.now) (g.K.Sink.written c.args.out.now)) (sym c.in-Read.is)
    (prefix-nothing c.args.self.now (g.F.Folder.told c.args.folder.now) c.args.moment (to_read c.in-Read.handle c.in-Read.stream c.in-Read.offset c.in-Read.count) tt c.args.failed.now (g.K.Sink.written c.args.out.now))

pub returns-in-List-clause-does : goal.returns-in-List-clause-does
returns-in-List-clause-does g c = subst (λ (cmd : Command). IfOk c.list.result (λ given. Does (HoldsState c.args.self.now) (HoldsState c.args.self.now) (g.F.Folder.told c.args.folder.now) (g.F.Folder.told c.list.new.folder) c.args.moment (request_of cmd) given)) (sym c.in-List.is) (c.list.ensures.does c.args.moment)

pub returns-in-List-clause-stops : goal.returns-in-List-clause-stops
returns-in-List-clause-stops g c = nothing-stops (HoldsState c.args.self.now) (says-kept c.args.self.now) (g.F.Folder.told c.args.folder.now) (g.F.Folder.told c.list.new.folder) c.args.moment (request_of c.args.command.now) c.list.ensures.reads.stays

pub returns-in-List-clause-says : goal.returns-in-List-clause-says
returns-in-List-clause-says g c = subst (λ (cmd : Command). OnOk c.list.result (SaysEvicted c.args.self.now (g.F.Folder.told c.args.folder.now) c.args.moment (request_of cmd) c.args.failed.now c.args.failed.now (g.K.Sink.written c.args.out.now) (g.K.Sink.written c.args.out.now))) (sym c.in-List.is)
    (on-ok c.list.result (SaysEvicted c.args.self.now (g.F.Folder.told c.args.folder.now) c.args.moment to_list c.args.failed.now c.args.failed.now (g.K.Sink.written c.args.out.now) (g.K.Sink.written c.args.out.now))
    (says-nothing c.args.self.now (g.F.Folder.told c.args.folder.now) c.args.moment to_list tt c.args.failed.now (g.K.Sink.written c.args.out.now)))

pub returns-in-List-clause-front : goal.returns-in-List-clause-front
returns-in-List-clause-front g c = subst (λ (cmd : Command). SaysPrefix (HoldsState c.args.self.now) (g.F.Folder.told c.args.folder.now) c.args.moment (request_of cmd) (g.K.Sink.written c.args.out.now) (g.K.Sink.written c.args.out.now)) (sym c.in-List.is)
    (prefix-nothing c.args.self.now (g.F.Folder.told c.args.folder.now) c.args.moment to_list tt c.args.failed.now (g.K.Sink.written c.args.out.now))

pub returns-in-List-clause-is_open : goal.returns-in-List-clause-is_open
returns-in-List-clause-is_open g c = on-ok c.list.result (ForSome (g.F.Folder.told c.list.new.folder).files (IsOpen c.args.self.now.files)) (λ image now. c.requires.is_open image (ap (λ (t : Told). t.files) (sym c.list.ensures.reads.stays) ∙ now))

pub returns-in-Write-clause-stops : goal.returns-in-Write-clause-stops
returns-in-Write-clause-stops g c = subst (λ (cmd : Command). MayStopAtEach (HoldsState c.args.self.now) (g.F.Folder.told c.args.folder.now) (g.F.Folder.told c.write.new.folder) c.args.moment (request_of cmd)) (sym c.in-Write.is) c.write.ensures.stops

pub returns-in-Write-clause-says : goal.returns-in-Write-clause-says
returns-in-Write-clause-says g c = subst (λ (cmd : Command). OnOk c.write.result (SaysEvicted c.args.self.now (g.F.Folder.told c.args.folder.now) c.args.moment (request_of cmd) c.args.failed.now c.write.new.failed (g.K.Sink.written c.args.out.now) (g.K.Sink.written c.write.new.out))) (sym c.in-Write.is) c.write.ensures.says

pub returns-in-Write-clause-front : goal.returns-in-Write-clause-front
returns-in-Write-clause-front g c = subst (λ (cmd : Command). SaysPrefix (HoldsState c.args.self.now) (g.F.Folder.told c.args.folder.now) c.args.moment (request_of cmd) (g.K.Sink.written c.args.out.now) (g.K.Sink.written c.write.new.out)) (sym c.in-Write.is) c.write.ensures.front

pub returns-in-Doom-clause-stops : goal.returns-in-Doom-clause-stops
returns-in-Doom-clause-stops g c = subst (λ (cmd : Command). MayStopAtEach (HoldsState c.args.self.now) (g.F.Folder.told c.args.folder.now) (g.F.Folder.told c.doom.new.folder) c.args.moment (request_of cmd)) (sym c.in-Doom.is) (c.doom.ensures.stops c.args.moment)

pub returns-in-Doom-clause-says : goal.returns-in-Doom-clause-says
returns-in-Doom-clause-says g c = subst (λ (cmd : Command). OnOk c.doom.result (SaysEvicted c.args.self.now (g.F.Folder.told c.args.folder.now) c.args.moment (request_of cmd) c.args.failed.now c.args.failed.now (g.K.Sink.written c.args.out.now) (g.K.Sink.written c.args.out.now))) (sym c.in-Doom.is)
    (on-ok c.doom.result (SaysEvicted c.args.self.now (g.F.Folder.told c.args.folder.now) c.args.moment (to_doom c.in-Doom.handle) c.args.failed.now c.args.failed.now (g.K.Sink.written c.args.out.now) (g.K.Sink.written c.args.out.now))
    (says-nothing c.args.self.now (g.F.Folder.told c.args.folder.now) c.args.moment (to_doom c.in-Doom.handle) tt c.args.failed.now (g.K.Sink.written c.args.out.now)))

pub returns-in-Doom-clause-front : goal.returns-in-Doom-clause-front
returns-in-Doom-clause-front g c = subst (λ (cmd : Command). SaysPrefix (HoldsState c.args.self.now) (g.F.Folder.told c.args.folder.now) c.args.moment (request_of cmd) (g.K.Sink.written c.args.out.now) (g.K.Sink.written c.args.out.now)) (sym c.in-Doom.is)
    (prefix-nothing c.args.self.now (g.F.Folder.told c.args.folder.now) c.args.moment (to_doom c.in-Doom.handle) tt c.args.failed.now (g.K.Sink.written c.args.out.now))

pub returns-in-DoomKey-clause-stops : goal.returns-in-DoomKey-clause-stops
returns-in-DoomKey-clause-stops g c = subst (λ (cmd : Command). MayStopAtEach (HoldsState c.args.self.now) (g.F.Folder.told c.args.folder.now) (g.F.Folder.told c.doom_key.new.folder) c.args.moment (request_of cmd)) (sym c.in-DoomKey.is) (c.doom_key.ensures.stops c.args.moment)

pub returns-in-DoomKey-clause-says : goal.returns-in-DoomKey-clause-says
returns-in-DoomKey-clause-says g c = subst (λ (cmd : Command). OnOk c.doom_key.result (SaysEvicted c.args.self.now (g.F.Folder.told c.args.folder.now) c.args.moment (request_of cmd) c.args.failed.now c.args.failed.now (g.K.Sink.written c.args.out.now) (g.K.Sink.written c.args.out.now))) (sym c.in-DoomKey.is)
    (on-ok c.doom_key.result (SaysEvicted c.args.self.now (g.F.Folder.told c.args.folder.now) c.args.moment (to_doom_key c.in-DoomKey.key.now) c.args.failed.now c.args.failed.now (g.K.Sink.written c.args.out.now) (g.K.Sink.written c.args.out.now))
    (says-nothing c.args.self.now (g.F.Folder.told c.args.folder.now) c.args.moment (to_doom_key c.in-DoomKey.key.now) tt c.args.failed.now (g.K.Sink.written c.args.out.now)))

pub returns-in-DoomKey-clause-front : goal.returns-in-DoomKey-clause-front
returns-in-DoomKey-clause-front g c = subst (λ (cmd : Command). SaysPrefix (HoldsState c.args.self.now) (g.F.Folder.told c.args.folder.now) c.args.moment (request_of cmd) (g.K.Sink.written c.args.out.now) (g.K.Sink.written c.args.out.now)) (sym c.in-DoomKey.is)
    (prefix-nothing c.args.self.now (g.F.Folder.told c.args.folder.now) c.args.moment (to_doom_key c.in-DoomKey.key.now) tt c.args.failed.now (g.K.Sink.written c.args.out.now))

-- no other command is a Flush of a clean object

pub returns-in-Create-clause-idle : goal.returns-in-Create-clause-idle
returns-in-Create-clause-idle g c image there state k flushes = absurd (subst (λ (cmd : Command). FlushesClean state (request_of cmd)) c.in-Create.is flushes)

pub returns-in-Open-clause-idle : goal.returns-in-Open-clause-idle
returns-in-Open-clause-idle g c image there state k flushes = absurd (subst (λ (cmd : Command). FlushesClean state (request_of cmd)) c.in-Open.is flushes)

pub returns-in-Read-clause-idle : goal.returns-in-Read-clause-idle
returns-in-Read-clause-idle g c image there state k flushes = absurd (subst (λ (cmd : Command). FlushesClean state (request_of cmd)) c.in-Read.is flushes)

pub returns-in-Write-clause-idle : goal.returns-in-Write-clause-idle
returns-in-Write-clause-idle g c image there state k flushes = absurd (subst (λ (cmd : Command). FlushesClean state (request_of cmd)) c.in-Write.is flushes)

pub returns-in-Size-clause-idle : goal.returns-in-Size-clause-idle
returns-in-Size-clause-idle g c image there state k flushes = absurd (subst (λ (cmd : Command). FlushesClean state (request_of cmd)) c.in-Size.is flushes)

pub returns-in-Doom-clause-idle : goal.returns-in-Doom-clause-idle
returns-in-Doom-clause-idle g c image there state k flushes = absurd (subst (λ (cmd : Command). FlushesClean state (request_of cmd)) c.in-Doom.is flushes)

pub returns-in-DoomKey-clause-idle : goal.returns-in-DoomKey-clause-idle
returns-in-DoomKey-clause-idle g c image there state k flushes = absurd (subst (λ (cmd : Command). FlushesClean state (request_of cmd)) c.in-DoomKey.is flushes)

pub returns-in-Close-clause-idle : goal.returns-in-Close-clause-idle
returns-in-Close-clause-idle g c image there state k flushes = absurd (subst (λ (cmd : Command). FlushesClean state (request_of cmd)) c.in-Close.is flushes)

pub returns-in-List-clause-idle : goal.returns-in-List-clause-idle
returns-in-List-clause-idle g c image there state k flushes = absurd (subst (λ (cmd : Command). FlushesClean state (request_of cmd)) c.in-List.is flushes)

pub returns-in-Trim-clause-idle : goal.returns-in-Trim-clause-idle
returns-in-Trim-clause-idle g c image there state k flushes = absurd (subst (λ (cmd : Command). FlushesClean state (request_of cmd)) c.in-Trim.is flushes)

pub returns-in-Total-clause-idle : goal.returns-in-Total-clause-idle
returns-in-Total-clause-idle g c image there state k flushes = absurd (subst (λ (cmd : Command). FlushesClean state (request_of cmd)) c.in-Total.is flushes)

pub returns-in-Flush-clause-idle : goal.returns-in-Flush-clause-idle
returns-in-Flush-clause-idle g c image there state k flushes =
    c.flush.ensures.idle image there state k (subst (λ (cmd : Command). FlushesClean state (request_of cmd)) c.in-Flush.is flushes)

-- a command that is none of the others is on sparse data

pub perform_sparse-requires-clause-on_sparse : goal.perform_sparse-requires-clause-on_sparse
perform_sparse-requires-clause-on_sparse g c = is-on-sparse c.args.command.now c.in_default.not-Create c.in_default.not-Open c.in_default.not-Read c.in_default.not-Write c.in_default.not-Size c.in_default.not-Doom c.in_default.not-DoomKey c.in_default.not-Close c.in_default.not-Flush c.in_default.not-List c.in_default.not-Trim c.in_default.not-Total

-- It makes no step where it is refused.

pub returns-in-Create-clause-spares : goal.returns-in-Create-clause-spares
returns-in-Create-clause-spares g c = subst (λ (cmd : Command). OnErr c.create.result (SparesRefused (HoldsState c.args.self.now) (g.F.Folder.told c.args.folder.now) (g.F.Folder.told c.create.new.folder) c.args.moment (request_of cmd))) (sym c.in-Create.is) c.create.ensures.spares

pub returns-in-Open-clause-spares : goal.returns-in-Open-clause-spares
returns-in-Open-clause-spares g c = subst (λ (cmd : Command). OnErr c.open.result (SparesRefused (HoldsState c.args.self.now) (g.F.Folder.told c.args.folder.now) (g.F.Folder.told c.open.new.folder) c.args.moment (request_of cmd))) (sym c.in-Open.is) c.open.ensures.spares

pub returns-in-Read-clause-spares : goal.returns-in-Read-clause-spares
returns-in-Read-clause-spares g c = subst (λ (cmd : Command). OnErr c.use_read.result (SparesRefused (HoldsState c.args.self.now) (g.F.Folder.told c.args.folder.now) (g.F.Folder.told c.use_read.new.folder) c.args.moment (request_of cmd))) (sym c.in-Read.is) c.use_read.ensures.spares

pub returns-in-Write-clause-spares : goal.returns-in-Write-clause-spares
returns-in-Write-clause-spares g c = subst (λ (cmd : Command). OnErr c.write.result (SparesRefused (HoldsState c.args.self.now) (g.F.Folder.told c.args.folder.now) (g.F.Folder.told c.write.new.folder) c.args.moment (request_of cmd))) (sym c.in-Write.is) c.write.ensures.spares

pub returns-in-Doom-clause-spares : goal.returns-in-Doom-clause-spares
returns-in-Doom-clause-spares g c = subst (λ (cmd : Command). OnErr c.doom.result (SparesRefused (HoldsState c.args.self.now) (g.F.Folder.told c.args.folder.now) (g.F.Folder.told c.doom.new.folder) c.args.moment (request_of cmd))) (sym c.in-Doom.is) (c.doom.ensures.spares c.args.moment)

pub returns-in-DoomKey-clause-spares : goal.returns-in-DoomKey-clause-spares
returns-in-DoomKey-clause-spares g c = subst (λ (cmd : Command). OnErr c.doom_key.result (SparesRefused (HoldsState c.args.self.now) (g.F.Folder.told c.args.folder.now) (g.F.Folder.told c.doom_key.new.folder) c.args.moment (request_of cmd))) (sym c.in-DoomKey.is) (c.doom_key.ensures.spares c.args.moment)

pub returns-in-Close-clause-spares : goal.returns-in-Close-clause-spares
returns-in-Close-clause-spares g c = subst (λ (cmd : Command). OnErr c.close.result (SparesRefused (HoldsState c.args.self.now) (g.F.Folder.told c.args.folder.now) (g.F.Folder.told c.close.new.folder) c.args.moment (request_of cmd))) (sym c.in-Close.is) (c.close.ensures.spares c.args.moment)

pub returns-in-Flush-clause-spares : goal.returns-in-Flush-clause-spares
returns-in-Flush-clause-spares g c = subst (λ (cmd : Command). OnErr c.flush.result (SparesRefused (HoldsState c.args.self.now) (g.F.Folder.told c.args.folder.now) (g.F.Folder.told c.flush.new.folder) c.args.moment (request_of cmd))) (sym c.in-Flush.is) (c.flush.ensures.spares c.args.moment)

pub returns-in-Size-clause-spares : goal.returns-in-Size-clause-spares
returns-in-Size-clause-spares g c =
    any-err c.size.result _
    (stayed-spares (HoldsState c.args.self.now) (g.F.Folder.told c.args.folder.now) (g.F.Folder.told c.size.new.folder) c.args.moment (request_of c.args.command.now) c.size.ensures.reads.stays)

pub returns-in-List-clause-spares : goal.returns-in-List-clause-spares
returns-in-List-clause-spares g c =
    any-err c.list.result _
    (stayed-spares (HoldsState c.args.self.now) (g.F.Folder.told c.args.folder.now) (g.F.Folder.told c.list.new.folder) c.args.moment (request_of c.args.command.now) c.list.ensures.reads.stays)

pub returns-in-Trim-clause-spares : goal.returns-in-Trim-clause-spares
returns-in-Trim-clause-spares g c =
    any-err c.trim.result _
    (subst (λ (cmd : Command). SparesRefused (HoldsState c.args.self.now) (g.F.Folder.told c.args.folder.now) (g.F.Folder.told c.trim.new.folder) c.args.moment (request_of cmd)) (sym c.in-Trim.is)
    (passed-spares (HoldsState c.args.self.now) (g.F.Folder.told c.args.folder.now) (g.F.Folder.told c.trim.new.folder) c.args.moment (to_trim c.in-Trim.bytes) (λ image there state k. trim-passes c.args.moment c.in-Trim.bytes state)))
