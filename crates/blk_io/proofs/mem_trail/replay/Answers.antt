use Rattle.std.proofs.Common.{◌≡◌, ℕ, ◌+◌, ◌-◌, ◌++◌, List, length, take, ap, sym, ◌∙◌, arith, length-append}
use Rattle.spec_image.specs.Image.{Image}
use Rattle.spec_image.specs.Steps.{TrailStep, image_at}
use Rattle.blk_io.specs.Files.{image_of}
use Rattle.blk_io.specs.Trail.{steps_of, steps_of_call}
use Rattle.blk_io.proofs.Trails.{steps_of-more, image_at-append}
use Rattle.blk_io.proofs.mem_trail.replay.Goals as goal

left_over : (steps a b left now total : ℕ) → left ≡ steps - a → now ≡ left - b → total ≡ a + b → now ≡ steps - total
left_over steps a b left now total e f g = omega arith

pub loop-change-preserved : goal.loop-change-preserved
loop-change-preserved c =
    let i = c.loop-change.change-index in
    let start = image_of c.args.files.now.items in
    let before = steps_of (take i c.args.changes.now) in
    let call = steps_of_call c.change-item.result in
    let more : steps_of (take (i + 1) c.args.changes.now) ≡ before ++ call = steps_of-more c.args.changes.now i c.change-item.result c.loop-change-test.true c.change-item.is in
    let total : length (steps_of (take (i + 1) c.args.changes.now)) ≡ length before + length call = ap length more ∙ length-append before call in
    record {
      left = left_over c.args.steps (length before) (length call) c.loop-change.left c.saturating_sub-left.result _ c.loop-change.invariant.left (c.saturating_sub-left.ensures ∙ ap (λ (b : ℕ). c.loop-change.left - b) c.step_count.ensures) total;
      files =
          c.in_ok-redo.ensures
          ∙ ap (λ (image : Image). image_at image call c.loop-change.left) c.loop-change.invariant.files
          ∙ ap (image_at (image_at start before c.args.steps) call) c.loop-change.invariant.left
          ∙ sym (image_at-append start c.args.steps before call)
          ∙ ap (λ (s : List TrailStep). image_at start s c.args.steps) (sym more);
    }
