use Rattle.std.proofs.Common.{◌≡◌, true, false, refl, sym, ◌∙◌}
use Rattle.blk_cache.proofs.read.use_item.Goals as goal

clash : true ≡ false → ⊥
clash e = cc

pub returns-then-object-clause-uses : goal.returns-then-object-clause-uses
returns-then-object-clause-uses g c = record {
  steps = λ e. absurd (clash (sym c.if-object.true ∙ e));
  stops = λ e. absurd (clash (sym c.if-object.true ∙ e));
  stays = λ _. refl;
}

pub returns-else-object-clause-uses : goal.returns-else-object-clause-uses
returns-else-object-clause-uses g c = record {
  steps = λ _. c.touch.ensures.steps;
  stops = λ _. c.touch.ensures.stops;
  stays = λ e. absurd (clash (sym e ∙ c.if-object.false));
}

pub returns-else-object-clause-untold : goal.returns-else-object-clause-untold
returns-else-object-clause-untold g c listed = c.touch.ensures.untold (λ image there. listed image there c.if-object.false)
