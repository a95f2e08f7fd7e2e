use Rattle.std.proofs.Common.{◌≡◌, None, sym, subst}
use Rattle.blk_io.proofs.Carried.{carried}
use Rattle.blk_cache.specs.SparseTargets.{IsRise}
use Rattle.blk_cache.proofs.SparseNamed.{rises-measured}
use Rattle.blk_cache.proofs.cache.Cache.measure_rise.Goals as goal

pub returns-clause-rises : goal.returns-clause-rises
returns-clause-rises g c image there state k moment handle bytes long named =
    subst (IsRise state k.layout moment handle c.args.offset bytes) (sym c.rise_of.ensures)
    (rises-measured c.args.self.now state image k moment handle c.args.offset c.args.count bytes long c.args.target.now named c.requires.some c.requires.few c.in_ok-found.found (c.in_ok-found.ensures.measured image there state k moment handle named))

pub returns-in_err-found-clause-untold : goal.returns-in_err-found-clause-untold
returns-in_err-found-clause-untold g c image there state k moment handle named =
    carried c.measure_parts.result c.from_residual.result c.in_err-found.field-0.0 (λ _. (g.F.Folder.told c.args.folder.now).files ≡ None) c.in_err-found.was c.from_residual.ensures.1
    (c.measure_parts.ensures.untold image there state k moment handle named)
