use Rattle.std.proofs.Common.{rules, ◌≡◌, None, refl}
use Rattle.blk_io.proofs.Carried.{carried}
use Rattle.blk_cache.specs.Evicting.{KeepsThatMayGo}
use Rattle.blk_cache.proofs.EvictedGroups.{out-kept}
use Rattle.blk_cache.proofs.Evictions.{untold-where}
use Rattle.blk_cache.proofs.cache.Cache.evict.Goals as goal

pub returns-in_err-gone-clause-stops : goal.returns-in_err-gone-clause-stops
returns-in_err-gone-clause-stops g c from there state kept last = c.in_err-gone.ensures.stops from there state kept.layout kept.kept last

pub returns-in_err-gone-clause-front : goal.returns-in_err-gone-clause-front
returns-in_err-gone-clause-front g c from there state kept last = c.in_err-gone.ensures.front from there state kept.layout kept.kept last

pub returns-in_err-gone-clause-untold : goal.returns-in_err-gone-clause-untold
returns-in_err-gone-clause-untold g c holds =
    carried c.evict_group.result c.from_residual.result c.in_err-gone.field-0.0 (λ _. (g.F.Folder.told c.args.folder.now).files ≡ None) c.in_err-gone.was c.from_residual.ensures.1
    (untold-where c.evict_group.result (g.F.Folder.told c.args.folder.now) (KeepsThatMayGo c.args.self.now c.args.found.now) holds (λ from there h. c.evict_group.ensures.untold from there h.state h.kept.layout h.kept.kept h.at))

pub returns-clause-evicted : goal.returns-clause-evicted
returns-clause-evicted g c from there state kept last now then_there =
    out-kept c.args.self.now _ state from now kept c.args.found.now last c.in_ok-gone.gone (c.in_ok-gone.ensures.out from there state kept.layout kept.kept last now then_there)
    (search rules) (search rules)
    (record { limits = refl; open_bytes = refl; handles = refl; files = refl; mark = refl; notes = refl })
    (c.in_ok-gone.ensures.is_open now then_there).agrees

pub returns-clause-prints : goal.returns-clause-prints
returns-clause-prints g c from there state kept last = c.in_ok-gone.ensures.prints from there state kept.layout kept.kept last

pub returns-clause-stops : goal.returns-clause-stops
returns-clause-stops g c from there state kept last = c.in_ok-gone.ensures.stops from there state kept.layout kept.kept last

pub returns-clause-front : goal.returns-clause-front
returns-clause-front g c from there state kept last = c.in_ok-gone.ensures.front from there state kept.layout kept.kept last
