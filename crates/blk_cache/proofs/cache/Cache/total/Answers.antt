use Rattle.std.proofs.Common.{◌≡◌, ℕ, refl, sym, ap, ◌∙◌}
use Rattle.blk_model.specs.Refusals.{refusals}
use Rattle.blk_model.specs.Reply.{answer_of}
use Rattle.blk_model.specs.Request.{to_total}
use Rattle.blk_model.specs.Room.{items, total}
use Rattle.blk_model.specs.State.{State}
use Rattle.blk_model.specs.Step.{reply, step}
use Rattle.blk_model.specs.declared.Answer.TheVariants as answer
use Rattle.law_state.proofs.CommandEnding.{passed}
use Rattle.law_state.proofs.Stopping.{nothing-done, quiet-keep}
use Rattle.blk_cache.specs.CacheKeeping.{HoldsState}
use Rattle.blk_cache.proofs.cache.Cache.total.Goals as goal

total-answer : (state : State) (moment : ℕ) → answer_of (step state moment to_total).reply ≡ answer.Totals (items state) (total state)
unfolding reply refusals
total-answer state moment = ap answer_of (passed state moment to_total refl).1

pub returns-clause-does : goal.returns-clause-does
returns-clause-does c told moment =
    nothing-done (HoldsState c.args.self.now) told told moment to_total (answer.Totals c.args.self.now.items c.args.self.now.bytes) refl
    (λ image there state k. let q = quiet-keep state moment 0 0 in (q.1.0, ap (λ (n : ℕ). answer.Totals n c.args.self.now.bytes) k.items_are ∙ ap (λ (n : ℕ). answer.Totals (items state) n) k.bytes_are ∙ sym (total-answer state moment)))
