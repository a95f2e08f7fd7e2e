use Rattle.std.proofs.Common.{◌≡◌, ℕ, List, ◌++◌, length, refl, lit<, ap, subst, arith}
use Rattle.std.proofs.lemmas.Result.{on_ok_weaker}
use Rattle.spec_image.specs.Image.{Block}
use Rattle.spec_image.specs.Steps.{TrailStep, word_step, word_steps}
use Rattle.spec_image.specs.Told.{Applies, AppliesPrefix}
use Rattle.spec_image.proofs.Runs.{grows_then, part_only, part_then}
use Rattle.blk_io.specs.Neighbours.{run_from}
use Rattle.blk_alloc.specs.Changes.{counter_words}
use Rattle.blk_alloc.proofs.SideBySide.{four_run}
use Rattle.blk_alloc.proofs.Counted.{word_kept}
use Rattle.blk_alloc.proofs.finishing.write_counters.Goals as goal

-- the first word, and the four that lie side by side
both : (n a : ℕ) (empty : List ℕ) → length empty ≡ 4 → word_step (Block n) 16 a ++ word_steps (Block n) (run_from 24 empty) ≡ word_steps (Block n) (counter_words a empty)
both n a empty four = ap (λ (ws : List (ℕ × ℕ)). word_step (Block n) 16 a ++ word_steps (Block n) ws) (four_run 24 empty four)

pub write_run-requires : goal.write_run-requires
write_run-requires g c = (
  lit< tt,
  (
    refl,
    λ mid now.
        let long = word_kept c.args.file 16 c.args.allocations c.in_ok-write_word.ensures.steps c.requires.header mid now in
        omega (arith, long, c.requires.four),
  ),
)

pub returns-in_err-write_word-clause-prefix : goal.returns-in_err-write_word-clause-prefix
returns-in_err-write_word-clause-prefix g c =
    subst (λ (s : List TrailStep). AppliesPrefix (g.F.Folder.told c.args.folder.now) (g.F.Folder.told c.write_word.new.folder) s) (both c.args.file c.args.allocations c.args.empty.now c.requires.four)
    (part_only (word_steps (Block c.args.file) (run_from 24 c.args.empty.now)) c.in_err-write_word.ensures.prefix)

pub returns-clause-steps : goal.returns-clause-steps
returns-clause-steps g c =
    on_ok_weaker c.write_run.result
    (λ whole. subst (λ (s : List TrailStep). Applies (g.F.Folder.told c.args.folder.now) (g.F.Folder.told c.write_run.new.folder) s) (both c.args.file c.args.allocations c.args.empty.now c.requires.four) (grows_then c.in_ok-write_word.ensures.steps whole))
    c.write_run.ensures.steps

pub returns-clause-prefix : goal.returns-clause-prefix
returns-clause-prefix g c =
    subst (λ (s : List TrailStep). AppliesPrefix (g.F.Folder.told c.args.folder.now) (g.F.Folder.told c.write_run.new.folder) s) (both c.args.file c.args.allocations c.args.empty.now c.requires.four) (part_then c.in_ok-write_word.ensures.steps c.write_run.ensures.prefix)
