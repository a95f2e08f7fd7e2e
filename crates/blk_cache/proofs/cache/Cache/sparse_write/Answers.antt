use Rattle.std.proofs.Common.{◌≡◌, None, sym, subst, length}
use Rattle.std.specs.Prelude.{IfOk, OnOk, OnErr}
use Rattle.std.specs.Option.{ForSome}
use Rattle.spec_image.specs.Told.{Told}
use Rattle.blk_io.specs.Faults.{IfDamaged}
use Rattle.blk_model.specs.Request.{to_sparse_write}
use Rattle.blk_disk.specs.Open.{IsOpen}
use Rattle.law_state.specs.Commands.{Does, MayStopAtEach}
use Rattle.law_state.proofs.Stopping.{nothing-stops, refusals-done}
use Rattle.blk_cache.specs.CacheKeeping.{HoldsState}
use Rattle.blk_cache.specs.CommandClauses.{KeepsAny, SparesRefused}
use Rattle.blk_cache.specs.Stepping.{SaysEvicted, SaysPrefix}
use Rattle.blk_cache.proofs.Refusing.{says-kept}
use Rattle.blk_cache.proofs.SparseAsks.{nothing-early}
use Rattle.blk_cache.proofs.SparseWhole.{asked-refused, found-bound, found-named, found-stands}
use Rattle.blk_cache.proofs.WriteWhole.{front-before, refused-says}
use Rattle.blk_cache.proofs.Sparing.{any-err, stayed-spares}
use Rattle.blk_cache.proofs.cache.Cache.sparse_write.Goals as goal

-- It isn't known whether it is refused.

pub returns-in_err-asked-clause-stops : goal.returns-in_err-asked-clause-stops
returns-in_err-asked-clause-stops g c =
    nothing-stops (HoldsState c.args.self.now) (says-kept c.args.self.now) (g.F.Folder.told c.args.folder.now) (g.F.Folder.told c.ask_target.new.folder) c.args.request.now.moment (to_sparse_write c.args.request.now.handle c.args.request.now.offset c.args.request.now.bytes.now) c.in_err-asked.ensures.reads.stays

pub returns-in_err-asked-clause-front : goal.returns-in_err-asked-clause-front
returns-in_err-asked-clause-front g c = front-before c.args.request.now.moment (to_sparse_write c.args.request.now.handle c.args.request.now.offset c.args.request.now.bytes.now) c.args.self.now (g.F.Folder.told c.args.folder.now) c.args.failed.now c.args.failed.now (g.K.Sink.written c.args.out.now) (g.K.Sink.written c.args.out.now)

-- It is refused.

pub returns-in-Refused-clause-does : goal.returns-in-Refused-clause-does
returns-in-Refused-clause-does g c =
    refusals-done (HoldsState c.args.self.now) (g.F.Folder.told c.args.folder.now) (g.F.Folder.told c.ask_target.new.folder) c.args.request.now.moment (to_sparse_write c.args.request.now.handle c.args.request.now.offset c.args.request.now.bytes.now) c.in-Refused.why c.in_ok-asked.ensures.reads.stays
    (asked-refused c.args.self.now (g.F.Folder.told c.args.folder.now) (g.F.Folder.told c.ask_target.new.folder) c.in_ok-asked.ensures.reads.stays c.args.request.now.moment c.args.request.now.handle c.args.request.now.offset c.args.request.now.bytes.now c.in_ok-asked.asked c.in_ok-asked.ensures.asked c.in-Refused.why c.in-Refused.is)

pub returns-in-Refused-clause-stops : goal.returns-in-Refused-clause-stops
returns-in-Refused-clause-stops g c =
    nothing-stops (HoldsState c.args.self.now) (says-kept c.args.self.now) (g.F.Folder.told c.args.folder.now) (g.F.Folder.told c.ask_target.new.folder) c.args.request.now.moment (to_sparse_write c.args.request.now.handle c.args.request.now.offset c.args.request.now.bytes.now) c.in_ok-asked.ensures.reads.stays

pub returns-in-Refused-clause-says : goal.returns-in-Refused-clause-says
returns-in-Refused-clause-says g c =
    refused-says c.args.request.now.moment (to_sparse_write c.args.request.now.handle c.args.request.now.offset c.args.request.now.bytes.now) c.args.self.now (g.F.Folder.told c.args.folder.now) c.args.failed.now c.args.failed.now (g.K.Sink.written c.args.out.now) (g.K.Sink.written c.args.out.now) c.in-Refused.why
    (asked-refused c.args.self.now (g.F.Folder.told c.args.folder.now) (g.F.Folder.told c.ask_target.new.folder) c.in_ok-asked.ensures.reads.stays c.args.request.now.moment c.args.request.now.handle c.args.request.now.offset c.args.request.now.bytes.now c.in_ok-asked.asked c.in_ok-asked.ensures.asked c.in-Refused.why c.in-Refused.is)

pub returns-in-Refused-clause-front : goal.returns-in-Refused-clause-front
returns-in-Refused-clause-front g c = front-before c.args.request.now.moment (to_sparse_write c.args.request.now.handle c.args.request.now.offset c.args.request.now.bytes.now) c.args.self.now (g.F.Folder.told c.args.folder.now) c.args.failed.now c.args.failed.now (g.K.Sink.written c.args.out.now) (g.K.Sink.written c.args.out.now)

pub returns-in-Refused-clause-is_open : goal.returns-in-Refused-clause-is_open
returns-in-Refused-clause-is_open g c = subst (λ (t : Told). ForSome t.files (IsOpen c.args.self.now.files)) (sym c.in_ok-asked.ensures.reads.stays) c.requires.is_open

-- It is written.

pub returns-in-Found-clause-does : goal.returns-in-Found-clause-does
returns-in-Found-clause-does g c =
    subst (λ (t : Told). IfOk c.write_target.result (λ answer. Does (HoldsState c.args.self.now) (HoldsState c.write_target.new.self) t (g.F.Folder.told c.write_target.new.folder) c.args.request.now.moment (to_sparse_write c.args.request.now.handle c.args.request.now.offset c.args.request.now.bytes.now) answer)) c.in_ok-asked.ensures.reads.stays
    (c.write_target.ensures.does (found-named c.args.self.now (g.F.Folder.told c.args.folder.now) (g.F.Folder.told c.ask_target.new.folder) c.in_ok-asked.ensures.reads.stays c.args.request.now.moment c.args.request.now.handle c.args.request.now.offset c.args.request.now.bytes.now c.in_ok-asked.asked c.in_ok-asked.ensures.asked c.in-Found.target c.in-Found.is))

pub returns-in-Found-clause-stops : goal.returns-in-Found-clause-stops
returns-in-Found-clause-stops g c =
    subst (λ (t : Told). MayStopAtEach (HoldsState c.args.self.now) t (g.F.Folder.told c.write_target.new.folder) c.args.request.now.moment (to_sparse_write c.args.request.now.handle c.args.request.now.offset c.args.request.now.bytes.now)) c.in_ok-asked.ensures.reads.stays
    (c.write_target.ensures.stops (found-named c.args.self.now (g.F.Folder.told c.args.folder.now) (g.F.Folder.told c.ask_target.new.folder) c.in_ok-asked.ensures.reads.stays c.args.request.now.moment c.args.request.now.handle c.args.request.now.offset c.args.request.now.bytes.now c.in_ok-asked.asked c.in_ok-asked.ensures.asked c.in-Found.target c.in-Found.is))

pub returns-in-Found-clause-says : goal.returns-in-Found-clause-says
returns-in-Found-clause-says g c =
    subst (λ (t : Told). OnOk c.write_target.result (SaysEvicted c.args.self.now t c.args.request.now.moment (to_sparse_write c.args.request.now.handle c.args.request.now.offset c.args.request.now.bytes.now) c.args.failed.now c.write_target.new.failed (g.K.Sink.written c.args.out.now) (g.K.Sink.written c.write_target.new.out))) c.in_ok-asked.ensures.reads.stays
    (c.write_target.ensures.says (found-named c.args.self.now (g.F.Folder.told c.args.folder.now) (g.F.Folder.told c.ask_target.new.folder) c.in_ok-asked.ensures.reads.stays c.args.request.now.moment c.args.request.now.handle c.args.request.now.offset c.args.request.now.bytes.now c.in_ok-asked.asked c.in_ok-asked.ensures.asked c.in-Found.target c.in-Found.is))

pub returns-in-Found-clause-front : goal.returns-in-Found-clause-front
returns-in-Found-clause-front g c =
    subst (λ (t : Told). SaysPrefix (HoldsState c.args.self.now) t c.args.request.now.moment (to_sparse_write c.args.request.now.handle c.args.request.now.offset c.args.request.now.bytes.now) (g.K.Sink.written c.args.out.now) (g.K.Sink.written c.write_target.new.out)) c.in_ok-asked.ensures.reads.stays
    (c.write_target.ensures.front (found-named c.args.self.now (g.F.Folder.told c.args.folder.now) (g.F.Folder.told c.ask_target.new.folder) c.in_ok-asked.ensures.reads.stays c.args.request.now.moment c.args.request.now.handle c.args.request.now.offset c.args.request.now.bytes.now c.in_ok-asked.asked c.in_ok-asked.ensures.asked c.in-Found.target c.in-Found.is))

pub returns-in-Found-clause-untold : goal.returns-in-Found-clause-untold
returns-in-Found-clause-untold g c =
    subst (λ (t : Told). ForSome t.files (KeepsAny c.args.self.now) → IfDamaged c.write_target.result (λ _. t.files ≡ None)) c.in_ok-asked.ensures.reads.stays
    (c.write_target.ensures.untold (found-named c.args.self.now (g.F.Folder.told c.args.folder.now) (g.F.Folder.told c.ask_target.new.folder) c.in_ok-asked.ensures.reads.stays c.args.request.now.moment c.args.request.now.handle c.args.request.now.offset c.args.request.now.bytes.now c.in_ok-asked.asked c.in_ok-asked.ensures.asked c.in-Found.target c.in-Found.is))

pub returns-in-Found-clause-refuses : goal.returns-in-Found-clause-refuses
returns-in-Found-clause-refuses g c = nothing-early c.args.self.now.handles c.args.request.now.handle c.args.request.now.offset (length c.args.request.now.bytes.now) _ (found-stands c.args.self.now.files c.args.self.now.handles c.args.request.now.handle c.args.request.now.offset (length c.args.request.now.bytes.now) c.in_ok-asked.asked c.in_ok-asked.ensures.finds c.in-Found.target c.in-Found.is).1.passes

pub write_target-requires-clause-bound : goal.write_target-requires-clause-bound
write_target-requires-clause-bound g c = found-bound c.args.self.now.files c.args.self.now.handles c.args.request.now.handle c.args.request.now.offset (length c.args.request.now.bytes.now) c.in_ok-asked.asked c.in_ok-asked.ensures.finds c.in-Found.target c.in-Found.is

pub write_target-requires-clause-stands : goal.write_target-requires-clause-stands
write_target-requires-clause-stands g c = (found-stands c.args.self.now.files c.args.self.now.handles c.args.request.now.handle c.args.request.now.offset (length c.args.request.now.bytes.now) c.in_ok-asked.asked c.in_ok-asked.ensures.finds c.in-Found.target c.in-Found.is).0.node

pub write_target-requires-clause-names : goal.write_target-requires-clause-names
write_target-requires-clause-names g c = (found-stands c.args.self.now.files c.args.self.now.handles c.args.request.now.handle c.args.request.now.offset (length c.args.request.now.bytes.now) c.in_ok-asked.asked c.in_ok-asked.ensures.finds c.in-Found.target c.in-Found.is).0.entry

pub write_target-requires-clause-signature : goal.write_target-requires-clause-signature
write_target-requires-clause-signature g c = (found-stands c.args.self.now.files c.args.self.now.handles c.args.request.now.handle c.args.request.now.offset (length c.args.request.now.bytes.now) c.in_ok-asked.asked c.in_ok-asked.ensures.finds c.in-Found.target c.in-Found.is).0.signature

pub write_target-requires-clause-few : goal.write_target-requires-clause-few
write_target-requires-clause-few g c = (found-stands c.args.self.now.files c.args.self.now.handles c.args.request.now.handle c.args.request.now.offset (length c.args.request.now.bytes.now) c.in_ok-asked.asked c.in_ok-asked.ensures.finds c.in-Found.target c.in-Found.is).1.few

pub write_target-requires-clause-inside : goal.write_target-requires-clause-inside
write_target-requires-clause-inside g c = (found-stands c.args.self.now.files c.args.self.now.handles c.args.request.now.handle c.args.request.now.offset (length c.args.request.now.bytes.now) c.in_ok-asked.asked c.in_ok-asked.ensures.finds c.in-Found.target c.in-Found.is).1.inside

pub write_target-requires-clause-is_open : goal.write_target-requires-clause-is_open
write_target-requires-clause-is_open g c = subst (λ (t : Told). ForSome t.files (IsOpen c.args.self.now.files)) (sym c.in_ok-asked.ensures.reads.stays) c.requires.is_open

-- It makes no step where it is refused.

pub returns-in_err-asked-clause-spares : goal.returns-in_err-asked-clause-spares
returns-in_err-asked-clause-spares g c =
    any-err c.from_residual.result _
    (stayed-spares (HoldsState c.args.self.now) (g.F.Folder.told c.args.folder.now) (g.F.Folder.told c.ask_target.new.folder) c.args.request.now.moment (to_sparse_write c.args.request.now.handle c.args.request.now.offset c.args.request.now.bytes.now) c.in_err-asked.ensures.reads.stays)

pub returns-in-Found-clause-spares : goal.returns-in-Found-clause-spares
returns-in-Found-clause-spares g c =
    subst (λ (t : Told). OnErr c.write_target.result (SparesRefused (HoldsState c.args.self.now) t (g.F.Folder.told c.write_target.new.folder) c.args.request.now.moment (to_sparse_write c.args.request.now.handle c.args.request.now.offset c.args.request.now.bytes.now))) c.in_ok-asked.ensures.reads.stays
    (c.write_target.ensures.spares (found-named c.args.self.now (g.F.Folder.told c.args.folder.now) (g.F.Folder.told c.ask_target.new.folder) c.in_ok-asked.ensures.reads.stays c.args.request.now.moment c.args.request.now.handle c.args.request.now.offset c.args.request.now.bytes.now
    c.in_ok-asked.asked c.in_ok-asked.ensures.asked c.in-Found.target c.in-Found.is))
