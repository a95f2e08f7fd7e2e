use Rattle.std.proofs.Common.{◌≡◌, [], None, sym, subst}
use Rattle.blk_io.proofs.Carried.{carried}
use Rattle.blk_cache.specs.Covering.{AreCovered}
use Rattle.blk_cache.proofs.CoveredParts.{none-covered}
use Rattle.blk_cache.proofs.TrimSteps.{trim-does, trim-front, trim-says, trim-stops}
use Rattle.blk_cache.proofs.cache.Cache.trim.Goals as goal

pub returns-in_err-count-clause-stops : goal.returns-in_err-count-clause-stops
returns-in_err-count-clause-stops g c moment = trim-stops moment c.args.bytes c.args.self.now c.none.result c.none.ensures (g.F.Folder.told c.args.folder.now) (g.F.Folder.told c.evict_until.new.folder) c.in_err-count.ensures.stops

pub returns-in_err-count-clause-front : goal.returns-in_err-count-clause-front
returns-in_err-count-clause-front g c moment = trim-front moment c.args.bytes c.args.self.now c.none.result c.none.ensures (g.F.Folder.told c.args.folder.now) (g.F.Folder.told c.evict_until.new.folder) c.args.failed.now c.evict_until.new.failed (g.K.Sink.written c.args.out.now) (g.K.Sink.written c.evict_until.new.out) c.in_err-count.ensures.front

pub returns-clause-does : goal.returns-clause-does
returns-clause-does g c moment = trim-does moment c.args.bytes c.args.self.now c.none.result c.none.ensures (g.F.Folder.told c.args.folder.now) (g.F.Folder.told c.evict_until.new.folder) c.evict_until.new.self c.in_ok-count.count c.in_ok-count.ensures.counts c.in_ok-count.ensures.evicted

pub returns-clause-stops : goal.returns-clause-stops
returns-clause-stops g c moment = trim-stops moment c.args.bytes c.args.self.now c.none.result c.none.ensures (g.F.Folder.told c.args.folder.now) (g.F.Folder.told c.evict_until.new.folder) c.in_ok-count.ensures.stops

pub returns-clause-says : goal.returns-clause-says
returns-clause-says g c moment = trim-says moment c.args.bytes c.args.self.now c.none.result c.none.ensures (g.F.Folder.told c.args.folder.now) (g.F.Folder.told c.evict_until.new.folder) c.args.failed.now c.evict_until.new.failed (g.K.Sink.written c.args.out.now) (g.K.Sink.written c.evict_until.new.out) c.in_ok-count.ensures.prints

pub returns-clause-front : goal.returns-clause-front
returns-clause-front g c moment = trim-front moment c.args.bytes c.args.self.now c.none.result c.none.ensures (g.F.Folder.told c.args.folder.now) (g.F.Folder.told c.evict_until.new.folder) c.args.failed.now c.evict_until.new.failed (g.K.Sink.written c.args.out.now) (g.K.Sink.written c.evict_until.new.out) c.in_ok-count.ensures.front

pub returns-in_err-count-clause-untold : goal.returns-in_err-count-clause-untold
returns-in_err-count-clause-untold g c any =
    carried c.evict_until.result c.from_residual.result c.in_err-count.field-0.0 (λ _. (g.F.Folder.told c.args.folder.now).files ≡ None) c.in_err-count.was c.from_residual.ensures.1
    (c.evict_until.ensures.untold (λ image there.
    let a = any image there in
    record { state = a.0; kept = a.1; covered = []; are = subst (AreCovered a.0 a.1.layout []) (sym c.none.ensures) (none-covered a.0 a.1.layout) }))
