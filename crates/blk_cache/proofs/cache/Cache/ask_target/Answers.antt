use Rattle.std.proofs.Common.{length, sym, subst}
use Rattle.blk_cache.specs.SparseAsking.{early_sparse_refusal}
use Rattle.blk_cache.specs.SparseTargets.{FindsTarget, IsAskedTarget}
use Rattle.blk_cache.proofs.SparseNamed.{asked-finds, asked-found}
use Rattle.blk_cache.proofs.cache.Cache.ask_target.Goals as goal

pub returns-clause-asked : goal.returns-clause-asked
returns-clause-asked g c image there state k =
    subst (IsAskedTarget state k.layout c.args.moment c.args.handle c.args.offset c.args.bytes.now) (sym c.asked_target.ensures)
    (asked-found state k.layout c.args.moment c.args.handle c.args.offset c.args.bytes.now c.in_ok-asked.asked (c.in_ok-asked.ensures.asked image there state k))

pub returns-clause-finds : goal.returns-clause-finds
returns-clause-finds g c =
    subst (FindsTarget c.args.self.now.files (early_sparse_refusal c.args.self.now.handles c.args.handle c.args.offset (length c.args.bytes.now)) c.args.offset (length c.args.bytes.now)) (sym c.asked_target.ensures)
    (asked-finds c.args.self.now.files (early_sparse_refusal c.args.self.now.handles c.args.handle c.args.offset (length c.args.bytes.now)) c.args.moment c.args.offset (length c.args.bytes.now) c.in_ok-asked.asked c.in_ok-asked.ensures.stands c.in_ok-asked.ensures.inside)
