use Rattle.std.proofs.Common.{◌≡◌, ℕ, ◌+◌, ◌-◌, ◌^◌, min, length, take, ap, ◌∙◌, arith, length-append}
use Rattle.blk_io.specs.Trail.{steps_of, steps_of_call}
use Rattle.blk_io.proofs.Trails.{steps_of-more}
use Rattle.blk_io.proofs.mem_trail.steps_in.Goals as goal

sums : (a b s n total : ℕ) → s ≡ min a (2 ^ 64 - 1) → n ≡ min (s + b) (2 ^ 64 - 1) → total ≡ a + b → n ≡ min total (2 ^ 64 - 1)
sums a b s n total e f g = omega arith

pub loop-change-preserved : goal.loop-change-preserved
loop-change-preserved c =
    let i = c.loop-change.change-index in
    let before = steps_of (take i c.args.changes.now) in
    let more = steps_of-more c.args.changes.now i c.change-item.result c.loop-change-test.true c.change-item.is in
    let total : length (steps_of (take (i + 1) c.args.changes.now)) ≡ length before + length (steps_of_call c.change-item.result) = ap length more ∙ length-append before (steps_of_call c.change-item.result) in
    sums (length before) (length (steps_of_call c.change-item.result)) c.loop-change.steps c.saturating_add-steps.result _ c.loop-change.invariant (c.saturating_add-steps.ensures ∙ ap (λ (b : ℕ). min (c.loop-change.steps + b) (2 ^ 64 - 1)) c.step_count.ensures) total
