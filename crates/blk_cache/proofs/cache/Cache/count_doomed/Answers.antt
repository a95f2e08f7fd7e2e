use Rattle.std.proofs.Common.{sym, subst}
use Rattle.blk_handles.specs.Bindings.{Bindings}
use Rattle.blk_cache.specs.BoundNames.{AreBoundAmong}
use Rattle.blk_cache.proofs.Dooms.{doomed-stand}
use Rattle.blk_cache.proofs.cache.Cache.count_doomed.Goals as goal

pub invariant_of-self : goal.invariant_of-self
invariant_of-self c = record {
  stand = subst (λ (bs : Bindings). AreBoundAmong c.args.self.now.files bs) (sym c.doom_entry.ensures.dooms) (doomed-stand c.args.self.now.files c.args.self.now.handles c.args.self.now.stand c.args.entry);
  room = c.args.self.now.room;
}
