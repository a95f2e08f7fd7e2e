use Rattle.std.proofs.Common.{rules, ◌≡◌, ◌∙◌, ap, sym, Bool, true, false}
use Rattle.std.specs.Prelude.{◌==◌, ◌&&◌, ◌||◌}
use Rattle.blk_model.specs.Room.{fits}
use Rattle.blk_cache.proofs.cache.Cache.wants_none.Goals as goal

pub returns-then-asks_nothing : goal.returns-then-asks_nothing
returns-then-asks_nothing c = record {
  none = λ state image k.
      let e : (c.args.bytes == 0 && c.args.items == 0) ≡ true = sym c.asks_nothing.ensures ∙ (let t : c.asks_nothing.result ≡ true = search rules in t) in
      ap (λ (b : Bool). b || fits state.limits.max_bytes c.args.bytes c.args.items state) (sym e);
}

pub returns : goal.returns
returns c = record {
  none = λ state image k.
      let e : (c.args.bytes == 0 && c.args.items == 0) ≡ false = sym c.asks_nothing.ensures ∙ (let t : c.asks_nothing.result ≡ false = search rules in t) in
      c.fits.ensures.fits state image k ∙ ap (λ (b : Bool). b || fits state.limits.max_bytes c.args.bytes c.args.items state) (sym e);
}
