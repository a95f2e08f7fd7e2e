use Rattle.std.proofs.Common.{[], ◌∙◌, false, refl, subst, sym}
use Rattle.blk_model.specs.Refusals.{is_full}
use Rattle.blk_model.specs.Request.{to_create}
use Rattle.blk_model.specs.declared.Refusal.TheVariants as refusal
use Rattle.law_state.proofs.Stopping.{nothing-stops, refusals-done}
use Rattle.blk_cache.specs.CacheKeeping.{HoldsState}
use Rattle.blk_cache.specs.Covering.{AreCovered}
use Rattle.blk_cache.proofs.CoveredParts.{none-covered}
use Rattle.blk_cache.proofs.CreateWhole.{free-passes, front-before, full-refused, refused-says}
use Rattle.blk_cache.proofs.Refusing.{says-kept}
use Rattle.blk_cache.proofs.cache.Cache.has_no_room.Goals as goal

pub returns-clause-does : goal.returns-clause-does
returns-clause-does c over told moment handle alone =
    refusals-done (HoldsState c.args.self.now) told told moment (to_create handle c.args.key.now) refusal.Full refl
    (full-refused c.args.self.now told moment handle c.args.key.now alone
    (λ image there state k. sym (c.is_full.ensures.full state image k [] (subst (AreCovered state k.layout []) (sym c.none.ensures) (none-covered state k.layout))) ∙ over))

pub returns-clause-says : goal.returns-clause-says
returns-clause-says c over told moment handle alone failed written =
    refused-says moment handle c.args.key.now c.args.self.now told failed failed written written refusal.Full
    (full-refused c.args.self.now told moment handle c.args.key.now alone
    (λ image there state k. sym (c.is_full.ensures.full state image k [] (subst (AreCovered state k.layout []) (sym c.none.ensures) (none-covered state k.layout))) ∙ over))

pub returns-clause-stops : goal.returns-clause-stops
returns-clause-stops c told moment handle =
    nothing-stops (HoldsState c.args.self.now) (says-kept c.args.self.now) told told moment (to_create handle c.args.key.now) refl

pub returns-clause-front : goal.returns-clause-front
returns-clause-front c told moment handle written =
    front-before moment handle c.args.key.now c.args.self.now told false false written written

pub returns-clause-passes : goal.returns-clause-passes
returns-clause-passes c free told moment handle alone =
    free-passes c.args.self.now told moment handle c.args.key.now alone
    (λ image there state k. sym (c.is_full.ensures.full state image k [] (subst (AreCovered state k.layout []) (sym c.none.ensures) (none-covered state k.layout))) ∙ free)
