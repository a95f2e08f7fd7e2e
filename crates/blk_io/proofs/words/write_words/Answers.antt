use Rattle.std.proofs.Common.{◌≡◌, ◌+◌, ◌-◌, ◌≤◌, ℕ, List, take, drop, length, get_or, sym, ◌∙◌, ap, subst, arith, All}
use Rattle.std.proofs.lemmas.List.{length-drop, take_rest}
use Rattle.spec_image.specs.Image.{HasRange}
use Rattle.blk_io.specs.FileNames.{file_of}
use Rattle.spec_image.specs.Told.{Applies, AppliesPrefix}
use Rattle.spec_image.proofs.Runs.{grows_then, part_then, part_only, told_part}
use Rattle.blk_io.proofs.Adjoining.{along-words, run-more, run-split}
use Rattle.blk_io.proofs.words.write_words.Goals as goal

-- the run lies in the words at its place
run-at : (ws : List (ℕ × ℕ)) (start : ℕ) (run : List (ℕ × ℕ)) → run ≡ take (length run) (take (length ws - start) (drop start ws)) → run ≡ take (length run) (drop start ws)
run-at ws start run is = is ∙ ap (take (length run)) (take_rest ws start)

pub returns-in_err-write_together-clause-prefix : goal.returns-in_err-write_together-clause-prefix
returns-in_err-write_together-clause-prefix g c =
    subst (AppliesPrefix _ _) (sym (run-split (file_of c.args.file) c.args.words.now c.loop-start.start c.front_run-run.result.now (run-at c.args.words.now c.loop-start.start c.front_run-run.result.now c.front_run-run.ensures.front)))
    (part_only _ (part_then c.loop-start.invariant.applies c.in_err-write_together.ensures.prefix))

pub loop-start-preserved : goal.loop-start-preserved
loop-start-preserved g c = record {
  within = omega (arith, length-drop c.loop-start.start c.args.words.now, c.front_run-run.ensures.inside);
  applies = subst (Applies _ _) (sym (run-more (file_of c.args.file) c.args.words.now c.loop-start.start c.front_run-run.result.now (run-at c.args.words.now c.loop-start.start c.front_run-run.result.now c.front_run-run.ensures.front))) (grows_then c.loop-start.invariant.applies c.in_ok-write_together.ensures.steps);
  inside =
      told_part (λ image. All (λ w. HasRange image (file_of c.args.file) w.0 4) c.args.words.now) c.in_ok-write_together.ensures.prefix
      (λ image there. along-words (λ now. All (λ w. HasRange now (file_of c.args.file) w.0 4) c.args.words.now) (λ old new same holds k d within. subst (λ (n : ℕ). (get_or c.args.words.now k d).0 + 4 ≤ n) (sym (same (file_of c.args.file))) (holds k d within)) _ _ image (c.loop-start.invariant.inside image there));
  later = omega arith;
}
