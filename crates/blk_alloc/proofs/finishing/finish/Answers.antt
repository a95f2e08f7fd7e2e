use Rattle.std.proofs.Common.{◌≡◌, ℕ, List, [], ◌∷◌, ◌++◌, sym, ◌∙◌, ap, subst, arith}
use Rattle.std.proofs.lemmas.Result.{on_ok_weaker}
use Rattle.spec_image.specs.Image.{Block}
use Rattle.spec_image.specs.Steps.{TrailStep, word_step, word_steps}
use Rattle.spec_image.specs.Told.{Applies, AppliesPrefix}
use Rattle.spec_image.proofs.Cuts.{word_steps-append}
use Rattle.spec_image.proofs.Runs.{grows_then, part_only, part_then}
use Rattle.blk_alloc.specs.Changes.{counter_words, finish_words}
use Rattle.blk_alloc.proofs.Counted.{counters_kept, last_word}
use Rattle.blk_alloc.proofs.finishing.finish.Goals as goal

-- the words of the counters, and the last one
both : (n a : ℕ) (empty : List ℕ) → word_steps (Block n) (counter_words a empty) ++ word_step (Block n) 56 0 ≡ word_steps (Block n) (finish_words a empty)
both n a empty = ap (λ (s : List TrailStep). word_steps (Block n) (counter_words a empty) ++ s) (last_word n) ∙ sym (word_steps-append (Block n) (counter_words a empty) ((56, 0) ∷ []))

pub write_word-requires-clause-inside : goal.write_word-requires-clause-inside
write_word-requires-clause-inside g c mid now = let long = counters_kept c.args.file c.args.allocations _ _ _ _ c.in_ok-write_counters.ensures.steps c.requires.header mid now in omega (arith, long)

pub returns-in_err-write_counters-clause-prefix : goal.returns-in_err-write_counters-clause-prefix
returns-in_err-write_counters-clause-prefix g c =
    subst (λ (s : List TrailStep). AppliesPrefix (g.F.Folder.told c.args.folder.now) (g.F.Folder.told c.write_counters.new.folder) s) (both c.args.file c.args.allocations c.args.empty.now)
    (part_only (word_step (Block c.args.file) 56 0) c.in_err-write_counters.ensures.prefix)

pub returns-clause-steps : goal.returns-clause-steps
returns-clause-steps g c =
    on_ok_weaker c.write_word.result
    (λ whole. subst (λ (s : List TrailStep). Applies (g.F.Folder.told c.args.folder.now) (g.F.Folder.told c.write_word.new.folder) s) (both c.args.file c.args.allocations c.args.empty.now) (grows_then c.in_ok-write_counters.ensures.steps whole))
    c.write_word.ensures.steps

pub returns-clause-prefix : goal.returns-clause-prefix
returns-clause-prefix g c =
    subst (λ (s : List TrailStep). AppliesPrefix (g.F.Folder.told c.args.folder.now) (g.F.Folder.told c.write_word.new.folder) s) (both c.args.file c.args.allocations c.args.empty.now) (part_then c.in_ok-write_counters.ensures.steps c.write_word.ensures.prefix)
