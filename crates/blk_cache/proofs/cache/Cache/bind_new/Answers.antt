use Rattle.std.proofs.Common.{true, sym, subst}
use Rattle.blk_handles.specs.Bindings.{Bindings, binding_for}
use Rattle.blk_cache.specs.BoundNames.{AreBoundAmong}
use Rattle.blk_cache.proofs.Bound.{bound-stands, still-stand}
use Rattle.blk_cache.proofs.cache.Cache.bind_new.Goals as goal

pub invariant_of-self : goal.invariant_of-self
invariant_of-self c = record {
  stand = subst (λ (bs : Bindings). AreBoundAmong c.args.self.now.files bs) (sym c.bind.ensures.binds)
      (still-stand c.args.self.now.files c.args.self.now.handles c.args.self.now.stand c.args.name (binding_for c.args.self.now.handles c.args.new.now.entry c.args.node true)
      (bound-stands c.args.self.now.files c.args.self.now.handles c.args.self.now.stand c.args.new.now.entry c.args.node true c.requires.stands c.requires.names));
  room = c.args.self.now.room;
}
