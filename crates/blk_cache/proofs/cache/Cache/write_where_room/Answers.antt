use Rattle.std.proofs.Common.{rules, ◌≡◌, true, false, refl}
use Rattle.blk_model.specs.Request.{to_sparse_write}
use Rattle.blk_model.specs.declared.Refusal.TheVariants as refusal
use Rattle.law_state.proofs.Stopping.{nothing-stops, refusals-done}
use Rattle.blk_cache.specs.CacheKeeping.{HoldsState}
use Rattle.blk_cache.proofs.Refusing.{says-kept}
use Rattle.blk_cache.proofs.SparseWhole.{free-passes, full-refused, goes-on}
use Rattle.blk_cache.proofs.WriteWhole.{front-before, refused-says}
use Rattle.blk_cache.proofs.Sparing.{any-err, passed-spares}
use Rattle.blk_cache.proofs.cache.Cache.write_where_room.Goals as goal

-- There is no space.

pub returns-then-is_full-clause-does : goal.returns-then-is_full-clause-does
returns-then-is_full-clause-does g c asks = refusals-done (HoldsState c.args.self.now) (g.F.Folder.told c.args.folder.now) (g.F.Folder.told c.args.folder.now) c.args.request.now.moment (to_sparse_write c.args.request.now.handle c.args.request.now.offset c.args.request.now.bytes.now) refusal.Full refl (full-refused c.args.self.now (g.F.Folder.told c.args.folder.now) c.args.request.now.moment c.args.request.now.handle c.args.request.now.offset c.args.request.now.bytes.now c.args.target.now c.args.rise.now asks c.is_full.result c.is_full.ensures.full (let e : c.is_full.result ≡ true = search rules in e))

pub returns-then-is_full-clause-stops : goal.returns-then-is_full-clause-stops
returns-then-is_full-clause-stops g c asks = nothing-stops (HoldsState c.args.self.now) (says-kept c.args.self.now) (g.F.Folder.told c.args.folder.now) (g.F.Folder.told c.args.folder.now) c.args.request.now.moment (to_sparse_write c.args.request.now.handle c.args.request.now.offset c.args.request.now.bytes.now) refl

pub returns-then-is_full-clause-says : goal.returns-then-is_full-clause-says
returns-then-is_full-clause-says g c asks =
    refused-says c.args.request.now.moment (to_sparse_write c.args.request.now.handle c.args.request.now.offset c.args.request.now.bytes.now) c.args.self.now (g.F.Folder.told c.args.folder.now) c.args.failed.now c.args.failed.now (g.K.Sink.written c.args.out.now) (g.K.Sink.written c.args.out.now) refusal.Full
    (full-refused c.args.self.now (g.F.Folder.told c.args.folder.now) c.args.request.now.moment c.args.request.now.handle c.args.request.now.offset c.args.request.now.bytes.now c.args.target.now c.args.rise.now asks c.is_full.result c.is_full.ensures.full (let e : c.is_full.result ≡ true = search rules in e))

pub returns-then-is_full-clause-front : goal.returns-then-is_full-clause-front
returns-then-is_full-clause-front g c asks = front-before c.args.request.now.moment (to_sparse_write c.args.request.now.handle c.args.request.now.offset c.args.request.now.bytes.now) c.args.self.now (g.F.Folder.told c.args.folder.now) c.args.failed.now c.args.failed.now (g.K.Sink.written c.args.out.now) (g.K.Sink.written c.args.out.now)

-- There is.

pub returns-clause-does : goal.returns-clause-does
returns-clause-does g c asks = c.write_with_room.ensures.does (free-passes c.args.self.now (g.F.Folder.told c.args.folder.now) c.args.request.now.moment c.args.request.now.handle c.args.request.now.offset c.args.request.now.bytes.now c.args.target.now c.args.rise.now asks c.is_full.result c.is_full.ensures.full (let e : c.is_full.result ≡ false = search rules in e))

pub returns-clause-stops : goal.returns-clause-stops
returns-clause-stops g c asks = c.write_with_room.ensures.stops (free-passes c.args.self.now (g.F.Folder.told c.args.folder.now) c.args.request.now.moment c.args.request.now.handle c.args.request.now.offset c.args.request.now.bytes.now c.args.target.now c.args.rise.now asks c.is_full.result c.is_full.ensures.full (let e : c.is_full.result ≡ false = search rules in e))

pub returns-clause-says : goal.returns-clause-says
returns-clause-says g c asks = c.write_with_room.ensures.says (free-passes c.args.self.now (g.F.Folder.told c.args.folder.now) c.args.request.now.moment c.args.request.now.handle c.args.request.now.offset c.args.request.now.bytes.now c.args.target.now c.args.rise.now asks c.is_full.result c.is_full.ensures.full (let e : c.is_full.result ≡ false = search rules in e))

pub returns-clause-front : goal.returns-clause-front
returns-clause-front g c asks = c.write_with_room.ensures.front (free-passes c.args.self.now (g.F.Folder.told c.args.folder.now) c.args.request.now.moment c.args.request.now.handle c.args.request.now.offset c.args.request.now.bytes.now c.args.target.now c.args.rise.now asks c.is_full.result c.is_full.ensures.full (let e : c.is_full.result ≡ false = search rules in e))

pub returns-clause-untold : goal.returns-clause-untold
returns-clause-untold g c asks = c.write_with_room.ensures.untold (free-passes c.args.self.now (g.F.Folder.told c.args.folder.now) c.args.request.now.moment c.args.request.now.handle c.args.request.now.offset c.args.request.now.bytes.now c.args.target.now c.args.rise.now asks c.is_full.result c.is_full.ensures.full (let e : c.is_full.result ≡ false = search rules in e))

pub returns-clause-spares : goal.returns-clause-spares
returns-clause-spares g c asks =
    any-err c.write_with_room.result _
    (passed-spares (HoldsState c.args.self.now) (g.F.Folder.told c.args.folder.now) (g.F.Folder.told c.write_with_room.new.folder) c.args.request.now.moment (to_sparse_write c.args.request.now.handle c.args.request.now.offset c.args.request.now.bytes.now)
    (goes-on c.args.self.now (g.F.Folder.told c.args.folder.now) c.args.request.now.moment c.args.request.now.handle c.args.request.now.offset c.args.request.now.bytes.now c.args.target.now c.args.rise.now
    (free-passes c.args.self.now (g.F.Folder.told c.args.folder.now) c.args.request.now.moment c.args.request.now.handle c.args.request.now.offset c.args.request.now.bytes.now c.args.target.now c.args.rise.now asks c.is_full.result c.is_full.ensures.full (let e : c.is_full.result ≡ false = search rules in e))))
