use Rattle.std.proofs.Common.{◌≡◌, None, arith}
use Rattle.blk_io.proofs.Carried.{carried}
use Rattle.blk_cache.proofs.cache.Cache.evict_until.Goals as goal

pub returns-in_err-evict_groups-clause-untold : goal.returns-in_err-evict_groups-clause-untold
returns-in_err-evict_groups-clause-untold g c any =
    carried c.evict_groups.result c.from_residual.result c.in_err-evict_groups.field-0.0 (λ _. (g.F.Folder.told c.args.folder.now).files ≡ None) c.in_err-evict_groups.was c.from_residual.ensures.1
    (c.evict_groups.ensures.untold any)

pub returns-clause-counts : goal.returns-clause-counts
returns-clause-counts g c image there state k covered are =
    let e = c.in_ok-evict_groups.ensures.counts image there state k covered are in
    omega (arith, e)
