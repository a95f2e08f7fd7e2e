use Rattle.std.proofs.Common.{◌≡◌, None}
use Rattle.blk_io.proofs.Carried.{carried}
use Rattle.blk_cache.proofs.SparseEnds.{sparse-end-does, sparse-end-stops, sparse-end-untold, sparse-ready-any, sparse-unsettle-stops}
use Rattle.blk_cache.proofs.cache.Cache.end_sparse_write.Goals as goal

pub returns-in_err-set_dirty-clause-stops : goal.returns-in_err-set_dirty-clause-stops
returns-in_err-set_dirty-clause-stops g c =
    sparse-unsettle-stops c.args.self.now c.args.request.now.moment c.args.request.now.handle c.args.request.now.offset c.args.request.now.bytes.now c.requires.some c.args.target.now c.args.more_bytes c.args.more_items (g.F.Folder.told c.args.folder.now) (g.F.Folder.told c.set_dirty.new.folder) c.set_dirty.ensures.stops

pub returns-in_err-set_dirty-clause-untold : goal.returns-in_err-set_dirty-clause-untold
returns-in_err-set_dirty-clause-untold g c any =
    carried c.set_dirty.result c.from_residual.result c.in_err-set_dirty.field-0.0 (λ _. (g.F.Folder.told c.args.folder.now).files ≡ None) c.in_err-set_dirty.was c.from_residual.ensures.1
    (c.set_dirty.ensures.untold (λ from there. sparse-ready-any c.args.self.now c.args.request.now.handle c.args.request.now.offset c.args.request.now.bytes.now c.args.target.now c.args.more_bytes c.args.more_items from (any from there)))

pub returns-in_err-store_to_dirty-clause-stops : goal.returns-in_err-store_to_dirty-clause-stops
returns-in_err-store_to_dirty-clause-stops g c =
    sparse-end-stops c.args.self.now c.args.request.now.moment c.args.request.now.handle c.args.request.now.offset c.args.request.now.bytes.now c.requires.some c.args.target.now c.args.more_bytes c.args.more_items (g.F.Folder.told c.args.folder.now) (g.F.Folder.told c.set_dirty.new.folder) c.set_dirty.ensures.stops c.set_dirty.new.self c.in_ok-set_dirty.ensures.marked
    (g.F.Folder.told c.store_to_dirty.new.folder) c.store_to_dirty.ensures.stops

pub returns-in_err-store_to_dirty-clause-untold : goal.returns-in_err-store_to_dirty-clause-untold
returns-in_err-store_to_dirty-clause-untold g c any =
    carried c.store_to_dirty.result c.from_residual-in_err-store_to_dirty.result c.in_err-store_to_dirty.field-0.0 (λ _. (g.F.Folder.told c.args.folder.now).files ≡ None) c.in_err-store_to_dirty.was c.from_residual-in_err-store_to_dirty.ensures.1
    (sparse-end-untold c.store_to_dirty.result c.args.self.now c.args.request.now.handle c.args.request.now.offset c.args.request.now.bytes.now c.requires.some c.args.target.now c.args.more_bytes c.args.more_items (g.F.Folder.told c.args.folder.now) (g.F.Folder.told c.set_dirty.new.folder) c.set_dirty.new.self c.set_dirty.ensures.stops c.in_ok-set_dirty.ensures.marked
    c.store_to_dirty.ensures.untold any)

pub returns-clause-does : goal.returns-clause-does
returns-clause-does g c =
    sparse-end-does c.args.self.now c.args.request.now.moment c.args.request.now.handle c.args.request.now.offset c.args.request.now.bytes.now c.requires.some c.args.target.now c.args.more_bytes c.args.more_items (g.F.Folder.told c.args.folder.now) (g.F.Folder.told c.set_dirty.new.folder) c.set_dirty.ensures.stops c.set_dirty.new.self c.in_ok-set_dirty.ensures.marked
    (g.F.Folder.told c.store_to_dirty.new.folder) c.store_to_dirty.new.self c.in_ok-store_to_dirty.ensures.stored

pub returns-clause-stops : goal.returns-clause-stops
returns-clause-stops g c =
    sparse-end-stops c.args.self.now c.args.request.now.moment c.args.request.now.handle c.args.request.now.offset c.args.request.now.bytes.now c.requires.some c.args.target.now c.args.more_bytes c.args.more_items (g.F.Folder.told c.args.folder.now) (g.F.Folder.told c.set_dirty.new.folder) c.set_dirty.ensures.stops c.set_dirty.new.self c.in_ok-set_dirty.ensures.marked
    (g.F.Folder.told c.store_to_dirty.new.folder) c.store_to_dirty.ensures.stops
