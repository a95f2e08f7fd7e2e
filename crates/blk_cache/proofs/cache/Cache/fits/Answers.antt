use Rattle.std.proofs.Common.{◌∙◌, ap, sym}
use Rattle.blk_model.specs.Room.{fits}
use Rattle.blk_model.specs.State.{Bounds}
use Rattle.blk_cache.proofs.cache.Cache.fits.Goals as goal

pub returns : goal.returns
returns c = record { fits = λ state image k. c.fits_below.ensures state image k ∙ ap (λ (l : Bounds). fits l.max_bytes c.args.bytes c.args.items state) (sym k.limits) }
