use Rattle.std.proofs.Common.{◌≡◌, ℕ, List, [], None, ap, refl, subst, ◌∙◌}
use Rattle.std.specs.Option.{ForSome}
use Rattle.spec_image.specs.Image.{Image, Index}
use Rattle.spec_image.specs.Steps.{TrailStep, word_step}
use Rattle.spec_image.specs.Told.{Told, Applies, MakesPartOf}
use Rattle.spec_image.proofs.Runs.{grows_none, part_only, part_whole}
use Rattle.blk_io.proofs.Carried.{silent_part}
use Rattle.blk_repair.specs.Counters.{HasIndexWords, counted_words, crash_place, index_steps, index_words_steps}
use Rattle.blk_repair.proofs.CounterRuns.{counted, crash-leads, index-done, index-leads, index-passes}
use Rattle.blk_repair.proofs.Progress.{Progress, begun, ended, now_has, stopped, went_on}
use Rattle.blk_repair.proofs.counters.mend_index.Goals as goal

pub returns-in_err-read_exact-clause-prefix : goal.returns-in_err-read_exact-clause-prefix
returns-in_err-read_exact-clause-prefix g c = record {
  made = λ image there. part_only (index_steps c.args.items c.args.bytes c.args.this_id image) (part_whole (grows_none c.read_exact.ensures.reads.stays));
  silent = λ none. ap (λ (t : Told). t.files) c.read_exact.ensures.reads.stays ∙ none;
}

-- what was done after the read was done from the start
from-start : (a m n : Told) (steps : Image → List TrailStep) → m ≡ a → ForSome m.files (λ from. Applies m n (steps from)) → ForSome a.files (λ from. Applies a n (steps from))
from-start a m n steps same made = subst (λ (t : Told). ForSome t.files (λ from. Applies t n (steps from))) same made

part-from_start : (a m n : Told) (steps : Image → List TrailStep) → m ≡ a → MakesPartOf m n steps → MakesPartOf a n steps
part-from_start a m n steps same part = subst (λ (t : Told). MakesPartOf t n steps) same part

pub returns-in_err-set_words-clause-prefix : goal.returns-in_err-set_words-clause-prefix
returns-in_err-set_words-clause-prefix g c =
    let part = part-from_start (g.F.Folder.told c.args.folder.now) (g.F.Folder.told c.read_exact.new.folder) (g.F.Folder.told c.set_words.new.folder) (index_words_steps (counted_words c.args.items c.args.bytes c.args.this_id)) c.read_exact.ensures.reads.stays c.in_err-set_words.ensures.prefix in
    record {
      made = stopped (begun (g.F.Folder.told c.args.folder.now) (g.F.Folder.told c.args.folder.now) (index_steps c.args.items c.args.bytes c.args.this_id) refl) (index_words_steps (counted_words c.args.items c.args.bytes c.args.this_id)) (λ _. word_step Index crash_place 1) (g.F.Folder.told c.set_words.new.folder) (index-leads c.args.items c.args.bytes c.args.this_id) part.made;
      silent = part.silent;
    }

pub returns-in_err-set_words-clause-stops : goal.returns-in_err-set_words-clause-stops
returns-in_err-set_words-clause-stops g c = index-passes (g.F.Folder.told c.args.folder.now) (g.F.Folder.told c.set_words.new.folder) c.args.items c.args.bytes c.args.this_id c.ranges.items.fits c.ranges.bytes.fits c.ranges.this_id.fits (returns-in_err-set_words-clause-prefix g c).made

-- the crash word is left
half : (a r m : Told) (items bytes id : ℕ) → r ≡ a → ForSome r.files (λ from. Applies r m (index_words_steps (counted_words items bytes id) from)) → (r.files ≡ None → m.files ≡ None) → Progress a m (index_steps items bytes id) (λ _. word_step Index crash_place 1)
half a r m items bytes id same made silent =
    went_on (begun a a (index_steps items bytes id) refl) (index_words_steps (counted_words items bytes id)) (λ _. word_step Index crash_place 1) m (index-leads items bytes id)
    (from-start a r m (index_words_steps (counted_words items bytes id)) same made) (subst (λ (t : Told). t.files ≡ None → m.files ≡ None) same silent)

pub returns-in_err-set_word-clause-prefix : goal.returns-in_err-set_word-clause-prefix
returns-in_err-set_word-clause-prefix g c =
    let progress = half (g.F.Folder.told c.args.folder.now) (g.F.Folder.told c.read_exact.new.folder) (g.F.Folder.told c.set_words.new.folder) c.args.items c.args.bytes c.args.this_id c.read_exact.ensures.reads.stays c.in_ok-set_words.ensures.steps c.in_ok-set_words.ensures.prefix.silent in
    record {
      made = stopped progress (λ _. word_step Index crash_place 1) (λ _. []) (g.F.Folder.told c.set_word.new.f) crash-leads (λ image there. c.in_err-set_word.ensures.prefix);
      silent = λ none. silent_part c.in_err-set_word.ensures.prefix (progress.silent none);
    }

pub returns-in_err-set_word-clause-stops : goal.returns-in_err-set_word-clause-stops
returns-in_err-set_word-clause-stops g c = index-passes (g.F.Folder.told c.args.folder.now) (g.F.Folder.told c.set_word.new.f) c.args.items c.args.bytes c.args.this_id c.ranges.items.fits c.ranges.bytes.fits c.ranges.this_id.fits (returns-in_err-set_word-clause-prefix g c).made

pub returns-clause-steps : goal.returns-clause-steps
returns-clause-steps g c =
    ended (went_on
    (half (g.F.Folder.told c.args.folder.now) (g.F.Folder.told c.read_exact.new.folder) (g.F.Folder.told c.set_words.new.folder) c.args.items c.args.bytes c.args.this_id c.read_exact.ensures.reads.stays c.in_ok-set_words.ensures.steps c.in_ok-set_words.ensures.prefix.silent)
    (λ _. word_step Index crash_place 1) (λ _. []) (g.F.Folder.told c.set_word.new.f) crash-leads (λ image there. c.in_ok-set_word.ensures.steps) (silent_part c.in_ok-set_word.ensures.prefix)) (λ image. refl)

pub returns-clause-prefix : goal.returns-clause-prefix
returns-clause-prefix g c =
    let progress = half (g.F.Folder.told c.args.folder.now) (g.F.Folder.told c.read_exact.new.folder) (g.F.Folder.told c.set_words.new.folder) c.args.items c.args.bytes c.args.this_id c.read_exact.ensures.reads.stays c.in_ok-set_words.ensures.steps c.in_ok-set_words.ensures.prefix.silent in
    record {
      made = λ image there. part_whole (returns-clause-steps g c image there);
      silent = λ none. silent_part c.in_ok-set_word.ensures.prefix (progress.silent none);
    }

pub returns-clause-words : goal.returns-clause-words
returns-clause-words g c =
    now_has (g.F.Folder.told c.args.folder.now) (g.F.Folder.told c.set_word.new.f) (index_steps c.args.items c.args.bytes c.args.this_id) (HasIndexWords c.args.items c.args.bytes c.args.this_id) (returns-clause-steps g c) (returns-clause-prefix g c).silent
    (λ image there. counted c.args.items c.args.bytes c.args.this_id image c.ranges.items.fits c.ranges.bytes.fits c.ranges.this_id.fits (c.requires.complete image there))

pub returns-clause-mended : goal.returns-clause-mended
returns-clause-mended g c = index-done (g.F.Folder.told c.args.folder.now) (g.F.Folder.told c.set_word.new.f) c.args.items c.args.bytes c.args.this_id c.ranges.items.fits c.ranges.bytes.fits c.ranges.this_id.fits c.requires.complete (returns-clause-steps g c)

pub returns-clause-stops : goal.returns-clause-stops
returns-clause-stops g c = index-passes (g.F.Folder.told c.args.folder.now) (g.F.Folder.told c.set_word.new.f) c.args.items c.args.bytes c.args.this_id c.ranges.items.fits c.ranges.bytes.fits c.ranges.this_id.fits (returns-clause-prefix g c).made

pub returns-in_err-read_exact-clause-fits : goal.returns-in_err-read_exact-clause-fits
returns-in_err-read_exact-clause-fits g c = c.ranges.bytes.fits

pub returns-in_err-set_words-clause-fits : goal.returns-in_err-set_words-clause-fits
returns-in_err-set_words-clause-fits g c = c.ranges.bytes.fits

pub returns-in_err-set_word-clause-fits : goal.returns-in_err-set_word-clause-fits
returns-in_err-set_word-clause-fits g c = c.ranges.bytes.fits

pub returns-clause-fits : goal.returns-clause-fits
returns-clause-fits g c = c.ranges.bytes.fits
