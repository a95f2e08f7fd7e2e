use Rattle.std.proofs.Common.{rules, ◌≡◌, ℕ, List, length, sym, ap, subst}
use Rattle.std.specs.Prelude.{IfOk}
use Rattle.spec_image.specs.Told.{Stays}
use Rattle.blk_model.specs.Request.{to_sparse_write}
use Rattle.law_state.specs.Commands.{Does, MayStopAtEach}
use Rattle.blk_cache.specs.CacheKeeping.{HoldsState}
use Rattle.blk_cache.specs.SparseTargets.{NamesTarget}
use Rattle.blk_cache.specs.Stepping.{SaysEvicted}
use Rattle.blk_cache.proofs.CreateWhole.{on-ok}
use Rattle.blk_cache.proofs.SparseEmpty.{empty-says, empty-spares}
use Rattle.blk_cache.proofs.SparseNamed.{none-long}
use Rattle.blk_cache.proofs.WriteWhole.{front-before, only-wrote}
use Rattle.blk_cache.proofs.Sparing.{any-err}
use Rattle.blk_cache.specs.CommandClauses.{SparesRefused}
use Rattle.blk_cache.proofs.cache.Cache.write_target.Goals as goal

-- There are no bytes.

pub returns-then-is_empty-clause-does : goal.returns-then-is_empty-clause-does
returns-then-is_empty-clause-does g c names =
    subst (λ (bytes : List ℕ). IfOk c.use_target.result (λ answer. Does (HoldsState c.args.self.now) (HoldsState c.args.self.now) (g.F.Folder.told c.args.folder.now) (g.F.Folder.told c.use_target.new.folder) c.args.request.now.moment (to_sparse_write c.args.request.now.handle c.args.request.now.offset bytes) answer)) (sym (none-long c.args.request.now.bytes.now (let e : length c.args.request.now.bytes.now ≡ 0 = search rules in e)))
    (c.use_target.ensures.does c.args.request.now.handle c.args.request.now.offset (subst (λ (n : ℕ). NamesTarget c.args.self.now (g.F.Folder.told c.args.folder.now) c.args.request.now.moment c.args.request.now.handle c.args.request.now.offset n c.args.target.now) (ap length (none-long c.args.request.now.bytes.now (let e : length c.args.request.now.bytes.now ≡ 0 = search rules in e))) names))

pub returns-then-is_empty-clause-stops : goal.returns-then-is_empty-clause-stops
returns-then-is_empty-clause-stops g c names =
    subst (λ (bytes : List ℕ). MayStopAtEach (HoldsState c.args.self.now) (g.F.Folder.told c.args.folder.now) (g.F.Folder.told c.use_target.new.folder) c.args.request.now.moment (to_sparse_write c.args.request.now.handle c.args.request.now.offset bytes)) (sym (none-long c.args.request.now.bytes.now (let e : length c.args.request.now.bytes.now ≡ 0 = search rules in e)))
    (c.use_target.ensures.stops c.args.request.now.handle c.args.request.now.offset (subst (λ (n : ℕ). NamesTarget c.args.self.now (g.F.Folder.told c.args.folder.now) c.args.request.now.moment c.args.request.now.handle c.args.request.now.offset n c.args.target.now) (ap length (none-long c.args.request.now.bytes.now (let e : length c.args.request.now.bytes.now ≡ 0 = search rules in e))) names))

pub returns-then-is_empty-clause-says : goal.returns-then-is_empty-clause-says
returns-then-is_empty-clause-says g c names =
    on-ok c.use_target.result _
    (subst (λ (bytes : List ℕ). SaysEvicted c.args.self.now (g.F.Folder.told c.args.folder.now) c.args.request.now.moment (to_sparse_write c.args.request.now.handle c.args.request.now.offset bytes) c.args.failed.now c.args.failed.now (g.K.Sink.written c.args.out.now) (g.K.Sink.written c.args.out.now)) (sym (none-long c.args.request.now.bytes.now (let e : length c.args.request.now.bytes.now ≡ 0 = search rules in e)))
    (empty-says c.args.self.now (g.F.Folder.told c.args.folder.now) (g.F.Folder.told c.args.folder.now) c.args.request.now.moment c.args.request.now.handle c.args.request.now.offset c.args.target.now (subst (λ (n : ℕ). NamesTarget c.args.self.now (g.F.Folder.told c.args.folder.now) c.args.request.now.moment c.args.request.now.handle c.args.request.now.offset n c.args.target.now) (ap length (none-long c.args.request.now.bytes.now (let e : length c.args.request.now.bytes.now ≡ 0 = search rules in e))) names) c.args.failed.now (g.K.Sink.written c.args.out.now)))

pub returns-then-is_empty-clause-front : goal.returns-then-is_empty-clause-front
returns-then-is_empty-clause-front g c names = front-before c.args.request.now.moment (to_sparse_write c.args.request.now.handle c.args.request.now.offset c.args.request.now.bytes.now) c.args.self.now (g.F.Folder.told c.args.folder.now) c.args.failed.now c.args.failed.now (g.K.Sink.written c.args.out.now) (g.K.Sink.written c.args.out.now)

pub returns-then-is_empty-clause-quiet : goal.returns-then-is_empty-clause-quiet
returns-then-is_empty-clause-quiet g c = only-wrote c.use_target.result _ (Stays (g.F.Folder.told c.args.folder.now) (g.F.Folder.told c.use_target.new.folder)) c.use_target.ensures.wrote

pub returns-then-is_empty-clause-untold : goal.returns-then-is_empty-clause-untold
returns-then-is_empty-clause-untold g c names = c.use_target.ensures.untold c.args.request.now.handle c.args.request.now.offset (subst (λ (n : ℕ). NamesTarget c.args.self.now (g.F.Folder.told c.args.folder.now) c.args.request.now.moment c.args.request.now.handle c.args.request.now.offset n c.args.target.now) (ap length (none-long c.args.request.now.bytes.now (let e : length c.args.request.now.bytes.now ≡ 0 = search rules in e))) names)

pub returns-then-is_empty-clause-spares : goal.returns-then-is_empty-clause-spares
returns-then-is_empty-clause-spares g c names =
    let none = none-long c.args.request.now.bytes.now (let e : length c.args.request.now.bytes.now ≡ 0 = search rules in e) in
    any-err c.use_target.result _
    (subst (λ (bytes : List ℕ). SparesRefused (HoldsState c.args.self.now) (g.F.Folder.told c.args.folder.now) (g.F.Folder.told c.use_target.new.folder) c.args.request.now.moment (to_sparse_write c.args.request.now.handle c.args.request.now.offset bytes)) (sym none)
    (empty-spares c.args.self.now (g.F.Folder.told c.args.folder.now) (g.F.Folder.told c.use_target.new.folder) c.args.request.now.moment c.args.request.now.handle c.args.request.now.offset c.args.target.now
    (subst (λ (n : ℕ). NamesTarget c.args.self.now (g.F.Folder.told c.args.folder.now) c.args.request.now.moment c.args.request.now.handle c.args.request.now.offset n c.args.target.now) (ap length none) names)))
