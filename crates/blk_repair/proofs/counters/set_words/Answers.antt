use Rattle.std.proofs.Common.{◌≡◌, ℕ, ◌+◌, ◌%◌, ◌<◌, List, drop, get_or, refl, subst, arith}
use Rattle.std.specs.Prelude.{All}
use Rattle.std.specs.Option.{ForSome}
use Rattle.spec_image.specs.Bytes.{content, range_at}
use Rattle.spec_image.specs.Image.{Index, byte}
use Rattle.spec_image.specs.Steps.{TrailStep}
use Rattle.spec_image.specs.Told.{Told, Applies, AppliesPrefix}
use Rattle.spec_image.proofs.Runs.{part_whole}
use Rattle.spec_format.specs.Sealed.{AreDifferent}
use Rattle.blk_io.proofs.Carried.{silent_part}
use Rattle.blk_repair.specs.Counters.{found_word_steps, index_words_steps}
use Rattle.blk_repair.proofs.CounterRuns.{differing, differing-read, words-end, words-lead}
use Rattle.blk_repair.proofs.Progress.{begun, ended, stopped, went_on}
use Rattle.blk_repair.proofs.counters.set_words.Goals as goal

-- the steps by what was read are those of the index
read-steps : (head : List ℕ) (words : List (ℕ × ℕ)) (a : Told) (P : List TrailStep → Type 0) → ForSome a.files (λ image. head ≡ range_at (byte image Index) 0 368) → All (λ (w : ℕ × ℕ). w.0 % 4 ≡ 0) words → All (λ (w : ℕ × ℕ). w.0 < 368) words → AreDifferent words
    → ForSome a.files (λ _. P (differing (content head) words)) → ForSome a.files (λ from. P (index_words_steps words from))
read-steps head words a P read aligned inside different holds image there = subst P (differing-read words head image aligned inside different (read image there)) (holds image there)

pub word_in-found-requires : goal.word_in-found-requires
word_in-found-requires g c = let inside = c.requires.inside c.loop-word.word-index (0, 0) c.loop-word-test.true in let aligned = c.requires.aligned c.loop-word.word-index (0, 0) c.loop-word-test.true in omega (arith, inside, aligned, c.requires.size)

pub loop-word-init : goal.loop-word-init
loop-word-init g c = record { progress = begun (g.F.Folder.told c.args.folder.now) (g.F.Folder.told c.args.folder.now) (λ _. differing (content c.args.head.now) c.args.words.now) refl; complete = c.requires.complete; later = omega arith }

pub returns-in_err-set_where_other-clause-prefix : goal.returns-in_err-set_where_other-clause-prefix
returns-in_err-set_where_other-clause-prefix g c = record {
  made = read-steps c.args.head.now c.args.words.now (g.F.Folder.told c.args.folder.now) (AppliesPrefix (g.F.Folder.told c.args.folder.now) (g.F.Folder.told c.set_where_other.new.folder)) c.requires.read c.requires.aligned c.requires.inside c.requires.different
      (stopped c.loop-word.invariant.progress (λ _. found_word_steps (get_or c.args.words.now c.loop-word.word-index (0, 0)).0 c.word_in-found.result (get_or c.args.words.now c.loop-word.word-index (0, 0)).1) (λ _. differing (content c.args.head.now) (drop (c.loop-word.word-index + 1) c.args.words.now)) (g.F.Folder.told c.set_where_other.new.folder)
      (words-lead (content c.args.head.now) c.args.words.now c.loop-word.word-index (0, 0) c.word_in-found.result c.loop-word-test.true c.word_in-found.ensures) (λ image there. c.in_err-set_where_other.ensures.prefix));
  silent = λ none. silent_part c.in_err-set_where_other.ensures.prefix (c.loop-word.invariant.progress.silent none);
}

pub loop-word-preserved : goal.loop-word-preserved
loop-word-preserved g c = record {
  progress = went_on c.loop-word.invariant.progress (λ _. found_word_steps (get_or c.args.words.now c.loop-word.word-index (0, 0)).0 c.word_in-found.result (get_or c.args.words.now c.loop-word.word-index (0, 0)).1) (λ _. differing (content c.args.head.now) (drop (c.loop-word.word-index + 1) c.args.words.now)) (g.F.Folder.told c.set_where_other.new.folder)
      (words-lead (content c.args.head.now) c.args.words.now c.loop-word.word-index (0, 0) c.word_in-found.result c.loop-word-test.true c.word_in-found.ensures) (λ image there. c.in_ok-set_where_other.ensures.steps) (silent_part c.in_ok-set_where_other.ensures.prefix);
  complete = c.in_ok-set_where_other.ensures.complete;
  later = omega (arith, c.loop-word.invariant.later, c.in_ok-set_where_other.ensures.later);
}

pub returns-clause-steps : goal.returns-clause-steps
returns-clause-steps g c =
    read-steps c.args.head.now c.args.words.now (g.F.Folder.told c.args.folder.now) (Applies (g.F.Folder.told c.args.folder.now) (g.F.Folder.told c.loop-word.folder)) c.requires.read c.requires.aligned c.requires.inside c.requires.different
    (ended c.loop-word.invariant.progress (words-end (content c.args.head.now) c.args.words.now c.loop-word.word-index c.loop-word-test.false))

pub returns-clause-prefix : goal.returns-clause-prefix
returns-clause-prefix g c = record {
  made = λ image there. part_whole (returns-clause-steps g c image there);
  silent = c.loop-word.invariant.progress.silent;
}
