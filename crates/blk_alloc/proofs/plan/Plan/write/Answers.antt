use Rattle.std.proofs.Common.{◌≡◌, ℕ, zero, suc, ◌+◌, ◌<◌, ◌≤◌, List, [], ◌∷◌, ◌++◌, get_or, sym, subst, arith}
use Rattle.std.proofs.lemmas.Result.{on_ok_weaker}
use Rattle.spec_image.specs.Image.{Block, length_of}
use Rattle.spec_image.specs.Steps.{TrailStep, word_steps}
use Rattle.spec_image.specs.Told.{Applies, AppliesPrefix}
use Rattle.spec_image.proofs.Cuts.{word_steps-append}
use Rattle.spec_image.proofs.Runs.{grows_then, part_only, part_then}
use Rattle.blk_alloc.specs.Changes.{finish_words}
use Rattle.blk_alloc.proofs.Counted.{two_kept}
use Rattle.blk_alloc.proofs.plan.Plan.write.Goals as goal

-- each of two words is inside a header, where the second is
each_inside : (at w size : ℕ) → at + 4 ≤ 8192 → 8192 ≤ size → (k : ℕ) (d : ℕ × ℕ) → k < 2 → (get_or ((56, 1) ∷ (at, w) ∷ []) k d).0 + 4 ≤ size
each_inside at w size fits long zero d small = omega arith
each_inside at w size fits long (suc zero) d small = omega arith
each_inside at w size fits long (suc (suc k)) d small = absurd (omega arith)

-- the first two words, and those that end the change
both : (n at w a : ℕ) (empty : List ℕ) → word_steps (Block n) ((56, 1) ∷ (at, w) ∷ []) ++ word_steps (Block n) (finish_words a empty) ≡ word_steps (Block n) ((56, 1) ∷ (at, w) ∷ finish_words a empty)
both n at w a empty = sym (word_steps-append (Block n) ((56, 1) ∷ (at, w) ∷ []) (finish_words a empty))

pub write_words-requires-clause-inside : goal.write_words-requires-clause-inside
write_words-requires-clause-inside g c image there = each_inside c.args.self.now.at c.args.self.now.word (length_of image (Block c.args.file)) (c.requires.inside image there) (c.requires.header image there)

pub finish-requires-clause-header : goal.finish-requires-clause-header
finish-requires-clause-header g c = two_kept c.args.file 56 1 c.args.self.now.at c.args.self.now.word c.in_ok-write_words.ensures.steps c.requires.header

pub returns-in_err-write_words-clause-prefix : goal.returns-in_err-write_words-clause-prefix
returns-in_err-write_words-clause-prefix g c =
    subst (λ (s : List TrailStep). AppliesPrefix (g.F.Folder.told c.args.folder.now) (g.F.Folder.told c.write_words.new.folder) s) (both c.args.file c.args.self.now.at c.args.self.now.word c.args.self.now.counters.allocations c.args.self.now.counters.empty)
    (part_only (word_steps (Block c.args.file) (finish_words c.args.self.now.counters.allocations c.args.self.now.counters.empty)) c.in_err-write_words.ensures.prefix)

pub returns-clause-steps : goal.returns-clause-steps
returns-clause-steps g c =
    on_ok_weaker c.finish.result
    (λ whole. subst (λ (s : List TrailStep). Applies (g.F.Folder.told c.args.folder.now) (g.F.Folder.told c.finish.new.folder) s) (both c.args.file c.args.self.now.at c.args.self.now.word c.args.self.now.counters.allocations c.args.self.now.counters.empty)
    (grows_then c.in_ok-write_words.ensures.steps whole))
    c.finish.ensures.steps

pub returns-clause-prefix : goal.returns-clause-prefix
returns-clause-prefix g c =
    subst (λ (s : List TrailStep). AppliesPrefix (g.F.Folder.told c.args.folder.now) (g.F.Folder.told c.finish.new.folder) s) (both c.args.file c.args.self.now.at c.args.self.now.word c.args.self.now.counters.allocations c.args.self.now.counters.empty)
    (part_then c.in_ok-write_words.ensures.steps c.finish.ensures.prefix)
