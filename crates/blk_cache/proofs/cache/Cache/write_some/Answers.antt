use Rattle.std.proofs.Common.{◌≡◌, None, sym, ap, subst, ◌∙◌}
use Rattle.std.specs.Prelude.{IfOk, OnOk, OnErr}
use Rattle.std.proofs.lemmas.Result.{on_ok_weaker, on_err_weaker}
use Rattle.std.specs.Option.{ForSome}
use Rattle.spec_image.specs.Told.{Told}
use Rattle.blk_io.proofs.Carried.{carried}
use Rattle.blk_io.specs.Faults.{IfDamaged}
use Rattle.blk_model.specs.Request.{to_sparse_write}
use Rattle.blk_disk.specs.Open.{IsOpen}
use Rattle.blk_disk.specs.declared.tables.BlockFiles.{BlockFiles}
use Rattle.law_state.specs.Commands.{Does, MayStopAtEach}
use Rattle.law_state.proofs.Stopping.{nothing-stops}
use Rattle.blk_print.proofs.PresentRanges.{by-files}
use Rattle.blk_cache.specs.CacheKeeping.{HoldsState}
use Rattle.blk_cache.specs.CommandClauses.{KeepsAny, SparesRefused}
use Rattle.blk_cache.specs.Stepping.{SaysEvicted, SaysPrefix}
use Rattle.blk_cache.proofs.CreateWhole.{if_ok_weaker}
use Rattle.blk_cache.proofs.Refusing.{says-kept}
use Rattle.blk_cache.proofs.SparseWhole.{any-kept, asks-then, for-kept, room-then}
use Rattle.blk_cache.proofs.WriteWhole.{front-before}
use Rattle.blk_cache.proofs.Sparing.{any-err, stayed-spares}
use Rattle.blk_cache.proofs.cache.Cache.write_some.Goals as goal

-- It can't be measured.

pub returns-in_err-rise-clause-stops : goal.returns-in_err-rise-clause-stops
returns-in_err-rise-clause-stops g c names = nothing-stops (HoldsState c.args.self.now) (says-kept c.args.self.now) (g.F.Folder.told c.args.folder.now) (g.F.Folder.told c.measure_rise.new.folder) c.args.request.now.moment (to_sparse_write c.args.request.now.handle c.args.request.now.offset c.args.request.now.bytes.now) c.in_err-rise.ensures.reads.stays

pub returns-in_err-rise-clause-front : goal.returns-in_err-rise-clause-front
returns-in_err-rise-clause-front g c names = front-before c.args.request.now.moment (to_sparse_write c.args.request.now.handle c.args.request.now.offset c.args.request.now.bytes.now) c.args.self.now (g.F.Folder.told c.args.folder.now) c.args.failed.now c.args.failed.now (g.K.Sink.written c.args.out.now) (g.K.Sink.written c.args.out.now)

pub returns-in_err-rise-clause-untold : goal.returns-in_err-rise-clause-untold
returns-in_err-rise-clause-untold g c names any =
    by-files c.from_residual.result (g.F.Folder.told c.args.folder.now).files (λ image there.
    let k = any image there in
    carried c.measure_rise.result c.from_residual.result c.in_err-rise.field-0.0 (λ _. (g.F.Folder.told c.args.folder.now).files ≡ None) c.in_err-rise.was c.from_residual.ensures.1
    (c.measure_rise.ensures.untold image there k.0 k.1 c.args.request.now.moment c.args.request.now.handle (names image there k.0 k.1)))

-- It is.

pub returns-clause-does : goal.returns-clause-does
returns-clause-does g c names =
    subst (λ (t : Told). IfOk c.write_where_room.result (λ answer. Does (HoldsState c.args.self.now) (HoldsState c.write_where_room.new.self) t (g.F.Folder.told c.write_where_room.new.folder) c.args.request.now.moment (to_sparse_write c.args.request.now.handle c.args.request.now.offset c.args.request.now.bytes.now) answer)) c.in_ok-rise.ensures.reads.stays
    (if_ok_weaker c.write_where_room.result (λ answer. for-kept c.args.self.now c.measure_rise.new.self c.measure_rise.ensures.others (g.F.Folder.told c.measure_rise.new.folder) _) (c.write_where_room.ensures.does (asks-then c.args.self.now c.measure_rise.new.self c.measure_rise.ensures.others (g.F.Folder.told c.args.folder.now) (g.F.Folder.told c.measure_rise.new.folder) c.measure_rise.ensures.reads.stays c.args.request.now.moment c.args.request.now.handle c.args.request.now.offset c.args.request.now.bytes.now c.args.target.now c.in_ok-rise.rise names c.in_ok-rise.ensures.rises)))

pub returns-clause-stops : goal.returns-clause-stops
returns-clause-stops g c names =
    subst (λ (t : Told). MayStopAtEach (HoldsState c.args.self.now) t (g.F.Folder.told c.write_where_room.new.folder) c.args.request.now.moment (to_sparse_write c.args.request.now.handle c.args.request.now.offset c.args.request.now.bytes.now)) c.in_ok-rise.ensures.reads.stays
    (for-kept c.args.self.now c.measure_rise.new.self c.measure_rise.ensures.others (g.F.Folder.told c.measure_rise.new.folder) _ (c.write_where_room.ensures.stops (asks-then c.args.self.now c.measure_rise.new.self c.measure_rise.ensures.others (g.F.Folder.told c.args.folder.now) (g.F.Folder.told c.measure_rise.new.folder) c.measure_rise.ensures.reads.stays c.args.request.now.moment c.args.request.now.handle c.args.request.now.offset c.args.request.now.bytes.now c.args.target.now c.in_ok-rise.rise names c.in_ok-rise.ensures.rises)))

pub returns-clause-says : goal.returns-clause-says
returns-clause-says g c names =
    subst (λ (t : Told). OnOk c.write_where_room.result (SaysEvicted c.args.self.now t c.args.request.now.moment (to_sparse_write c.args.request.now.handle c.args.request.now.offset c.args.request.now.bytes.now) c.args.failed.now c.write_where_room.new.failed (g.K.Sink.written c.args.out.now) (g.K.Sink.written c.write_where_room.new.out))) c.in_ok-rise.ensures.reads.stays
    (on_ok_weaker c.write_where_room.result (for-kept c.args.self.now c.measure_rise.new.self c.measure_rise.ensures.others (g.F.Folder.told c.measure_rise.new.folder) _) (c.write_where_room.ensures.says (asks-then c.args.self.now c.measure_rise.new.self c.measure_rise.ensures.others (g.F.Folder.told c.args.folder.now) (g.F.Folder.told c.measure_rise.new.folder) c.measure_rise.ensures.reads.stays c.args.request.now.moment c.args.request.now.handle c.args.request.now.offset c.args.request.now.bytes.now c.args.target.now c.in_ok-rise.rise names c.in_ok-rise.ensures.rises)))

pub returns-clause-front : goal.returns-clause-front
returns-clause-front g c names =
    subst (λ (t : Told). SaysPrefix (HoldsState c.args.self.now) t c.args.request.now.moment (to_sparse_write c.args.request.now.handle c.args.request.now.offset c.args.request.now.bytes.now) (g.K.Sink.written c.args.out.now) (g.K.Sink.written c.write_where_room.new.out)) c.in_ok-rise.ensures.reads.stays
    (for-kept c.args.self.now c.measure_rise.new.self c.measure_rise.ensures.others (g.F.Folder.told c.measure_rise.new.folder) _ (c.write_where_room.ensures.front (asks-then c.args.self.now c.measure_rise.new.self c.measure_rise.ensures.others (g.F.Folder.told c.args.folder.now) (g.F.Folder.told c.measure_rise.new.folder) c.measure_rise.ensures.reads.stays c.args.request.now.moment c.args.request.now.handle c.args.request.now.offset c.args.request.now.bytes.now c.args.target.now c.in_ok-rise.rise names c.in_ok-rise.ensures.rises)))

pub returns-clause-untold : goal.returns-clause-untold
returns-clause-untold g c names =
    subst (λ (t : Told). ForSome t.files (KeepsAny c.args.self.now) → IfDamaged c.write_where_room.result (λ _. t.files ≡ None)) c.in_ok-rise.ensures.reads.stays
    (λ any. c.write_where_room.ensures.untold (asks-then c.args.self.now c.measure_rise.new.self c.measure_rise.ensures.others (g.F.Folder.told c.args.folder.now) (g.F.Folder.told c.measure_rise.new.folder) c.measure_rise.ensures.reads.stays c.args.request.now.moment c.args.request.now.handle c.args.request.now.offset c.args.request.now.bytes.now c.args.target.now c.in_ok-rise.rise names c.in_ok-rise.ensures.rises) (any-kept c.args.self.now c.measure_rise.new.self c.measure_rise.ensures.others (g.F.Folder.told c.measure_rise.new.folder) any))

pub returns-clause-unchanged : goal.returns-clause-unchanged
returns-clause-unchanged g c = if_ok_weaker c.write_where_room.result (λ answer same refused. room-then c.args.self.now c.measure_rise.new.self c.write_where_room.new.self c.measure_rise.ensures.others (same refused)) c.write_where_room.ensures.unchanged

pub write_where_room-requires-clause-is_open : goal.write_where_room-requires-clause-is_open
write_where_room-requires-clause-is_open g c image there = subst (λ (files : BlockFiles). IsOpen files image) (sym c.measure_rise.ensures.others.files) (c.requires.is_open image (ap (λ (t : Told). t.files) (sym c.measure_rise.ensures.reads.stays) ∙ there))

-- It makes no step where it is refused.

pub returns-in_err-rise-clause-spares : goal.returns-in_err-rise-clause-spares
returns-in_err-rise-clause-spares g c names =
    any-err c.from_residual.result _
    (stayed-spares (HoldsState c.args.self.now) (g.F.Folder.told c.args.folder.now) (g.F.Folder.told c.measure_rise.new.folder) c.args.request.now.moment (to_sparse_write c.args.request.now.handle c.args.request.now.offset c.args.request.now.bytes.now) c.in_err-rise.ensures.reads.stays)

pub returns-clause-spares : goal.returns-clause-spares
returns-clause-spares g c names =
    subst (λ (t : Told). OnErr c.write_where_room.result (SparesRefused (HoldsState c.args.self.now) t (g.F.Folder.told c.write_where_room.new.folder) c.args.request.now.moment (to_sparse_write c.args.request.now.handle c.args.request.now.offset c.args.request.now.bytes.now))) c.in_ok-rise.ensures.reads.stays
    (on_err_weaker c.write_where_room.result (for-kept c.args.self.now c.measure_rise.new.self c.measure_rise.ensures.others (g.F.Folder.told c.measure_rise.new.folder) _)
    (c.write_where_room.ensures.spares (asks-then c.args.self.now c.measure_rise.new.self c.measure_rise.ensures.others (g.F.Folder.told c.args.folder.now) (g.F.Folder.told c.measure_rise.new.folder) c.measure_rise.ensures.reads.stays
    c.args.request.now.moment c.args.request.now.handle c.args.request.now.offset c.args.request.now.bytes.now c.args.target.now c.in_ok-rise.rise names c.in_ok-rise.ensures.rises)))
