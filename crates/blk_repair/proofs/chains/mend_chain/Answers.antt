use Rattle.std.proofs.Common.{◌≡◌, ℕ, List, [], refl, subst, rules, arith}
use Rattle.std.specs.Option.{ForSome}
use Rattle.std.proofs.lemmas.Result.{on_ok_weaker}
use Rattle.spec_image.specs.Image.{Image, Index}
use Rattle.spec_image.specs.Steps.{TrailStep, word_step}
use Rattle.spec_image.specs.Told.{Told, Applies, AppliesPrefix}
use Rattle.spec_image.proofs.Runs.{told_part}
use Rattle.blk_io.proofs.Carried.{if_damaged_weaker, silent_part, told_at_end}
use Rattle.spec_format.specs.Headers.{place_of_bucket}
use Rattle.blk_disk.specs.declared.tables.BlockFiles.{BlockFiles}
use Rattle.blk_disk.specs.Open.{IsOpen}
use Rattle.spec_folder.specs.ListView.{first_or}
use Rattle.law_recovery.specs.ChainRepair.{bucket_steps, chain_steps, next_words_steps}
use Rattle.blk_repair.specs.Chains.{IsBucketWord}
use Rattle.blk_repair.specs.Damages.{AllCheck}
use Rattle.blk_repair.proofs.Choices.{index_word-open, links-open}
use Rattle.blk_repair.proofs.ChainRuns.{chain-leads, links-lead}
use Rattle.blk_repair.proofs.RecordRuns.{index_word-checks}
use Rattle.blk_repair.proofs.BucketWordRuns.{others-front, others-kept}
use Rattle.blk_repair.proofs.Progress.{Progress, begun, ended, stays-open, stopped, told_is, untold_part, went_on}
use Rattle.blk_repair.proofs.chains.mend_chain.Given as given
use Rattle.blk_repair.proofs.chains.mend_chain.Goals as goal

-- the steps of the word of the bucket, by what was passed
front : (words : List ℕ) (bucket w : ℕ) (P : (Image → List TrailStep) → Type 0) → w ≡ first_or 0 words → P (bucket_steps bucket w) → P (bucket_steps bucket (first_or 0 words))
front words bucket w P is h = subst (λ (v : ℕ). P (bucket_steps bucket v)) is h

-- ---- whatever the word of the bucket is

-- the word of the bucket was written, or wasn't, and the folder is open still
open-still : {a b : Told} (files : BlockFiles) (bucket w : ℕ) → ForSome a.files (IsOpen files) → AppliesPrefix a b (word_step Index (place_of_bucket bucket) w) → ForSome b.files (IsOpen files)
open-still {a} {b} files bucket w is part = stays-open files a b (λ _. word_step Index (place_of_bucket bucket) w) (index_word-open files (place_of_bucket bucket) w) is (λ from there. part) (silent_part part)

pub link-requires-clause-is_open : goal.link-requires-clause-is_open
link-requires-clause-is_open g c = open-still c.args.files.now c.args.bucket c.first_word.result c.requires.is_open c.in_ok-set_front.ensures.only

pub returns-in_err-set_front-clause-writes : goal.returns-in_err-set_front-clause-writes
returns-in_err-set_front-clause-writes g c = record {
  silent = silent_part c.in_err-set_front.ensures.only;
  later = c.in_err-set_front.ensures.later;
  failed = search rules;
}

pub returns-in_err-set_front-clause-is_open : goal.returns-in_err-set_front-clause-is_open
returns-in_err-set_front-clause-is_open g c = open-still c.args.files.now c.args.bucket c.first_word.result c.requires.is_open c.in_err-set_front.ensures.only

pub returns-clause-writes : goal.returns-clause-writes
returns-clause-writes g c = record {
  silent = λ none. c.link.ensures.prefix.silent (silent_part c.in_ok-set_front.ensures.only none);
  later = omega arith;
  failed = search rules;
}

pub returns-clause-is_open : goal.returns-clause-is_open
returns-clause-is_open g c =
    stays-open c.args.files.now (g.F.Folder.told c.set_front.new.folder) (g.F.Folder.told c.link.new.folder) (next_words_steps c.args.records.now) (links-open c.args.files.now c.args.records.now)
    (open-still c.args.files.now c.args.bucket c.first_word.result c.requires.is_open c.in_ok-set_front.ensures.only) c.link.ensures.prefix.made c.link.ensures.prefix.silent

pub returns-clause-others : goal.returns-clause-others
returns-clause-others g c =
    on_ok_weaker c.link.result
    (λ made. others-kept (g.F.Folder.told c.args.folder.now) (g.F.Folder.told c.set_front.new.folder) (g.F.Folder.told c.link.new.folder) c.args.bucket c.args.records.now (others-front c.args.bucket c.first_word.result c.in_ok-set_front.ensures.only) made c.link.ensures.prefix.silent)
    c.link.ensures.steps

pub returns-clause-untold : goal.returns-clause-untold
returns-clause-untold g c all =
    if_damaged_weaker c.link.result _ _ (λ damage none. untold_part c.in_ok-set_front.ensures.only none)
    (c.link.ensures.untold
    (told_at_end (g.F.Folder.told c.args.folder.now).files (g.F.Folder.told c.set_front.new.folder).files (AllCheck c.args.records.now) (silent_part c.in_ok-set_front.ensures.only)
    (λ from there.
    told_part (AllCheck c.args.records.now) c.in_ok-set_front.ensures.only
    (λ x at. index_word-checks c.args.records.now (place_of_bucket c.args.bucket) c.first_word.result x (all x at)))))

-- ---- with the word that was read

pub returns-in_err-set_front-clause-prefix : goal.returns-in_err-set_front-clause-prefix
returns-in_err-set_front-clause-prefix g c from there read =
    stopped (begun (g.F.Folder.told c.args.folder.now) (g.F.Folder.told c.args.folder.now) (chain_steps c.args.bucket c.args.records.now) refl) (bucket_steps c.args.bucket (first_or 0 c.args.records.now)) (next_words_steps c.args.records.now) (g.F.Folder.told c.set_front.new.folder)
    (chain-leads c.args.bucket c.args.records.now)
    (front c.args.records.now c.args.bucket c.first_word.result (λ (s : Image → List TrailStep). ForSome (g.F.Folder.told c.args.folder.now).files (λ from. AppliesPrefix (g.F.Folder.told c.args.folder.now) (g.F.Folder.told c.set_front.new.folder) (s from))) c.first_word.ensures
    (told_is (λ x. AppliesPrefix (g.F.Folder.told c.args.folder.now) (g.F.Folder.told c.set_front.new.folder) (bucket_steps c.args.bucket c.first_word.result x)) from there (c.in_err-set_front.ensures.prefix from there read)))
    from there

-- the word of the bucket was written, and the links are left
half : (g : given.Over) (c : goal.After-link g) → ForSome (g.F.Folder.told c.args.folder.now).files (IsBucketWord c.args.front c.args.bucket)
    → Progress (g.F.Folder.told c.args.folder.now) (g.F.Folder.told c.set_front.new.folder) (chain_steps c.args.bucket c.args.records.now) (next_words_steps c.args.records.now)
half g c read =
    went_on (begun (g.F.Folder.told c.args.folder.now) (g.F.Folder.told c.args.folder.now) (chain_steps c.args.bucket c.args.records.now) refl) (bucket_steps c.args.bucket (first_or 0 c.args.records.now)) (next_words_steps c.args.records.now) (g.F.Folder.told c.set_front.new.folder)
    (chain-leads c.args.bucket c.args.records.now)
    (front c.args.records.now c.args.bucket c.first_word.result (λ (s : Image → List TrailStep). ForSome (g.F.Folder.told c.args.folder.now).files (λ from. Applies (g.F.Folder.told c.args.folder.now) (g.F.Folder.told c.set_front.new.folder) (s from))) c.first_word.ensures
    (λ from there. c.in_ok-set_front.ensures.steps from there (read from there)))
    (silent_part c.in_ok-set_front.ensures.only)

pub returns-clause-steps : goal.returns-clause-steps
returns-clause-steps g c =
    on_ok_weaker c.link.result
    (λ made from there read.
    ended (went_on (half g c (told_is (IsBucketWord c.args.front c.args.bucket) from there read)) (next_words_steps c.args.records.now) (λ _. []) (g.F.Folder.told c.link.new.folder) (links-lead c.args.records.now) made c.link.ensures.prefix.silent) (λ image. refl) from there)
    c.link.ensures.steps

pub returns-clause-prefix : goal.returns-clause-prefix
returns-clause-prefix g c from there read = stopped (half g c (told_is (IsBucketWord c.args.front c.args.bucket) from there read)) (next_words_steps c.args.records.now) (λ _. []) (g.F.Folder.told c.link.new.folder) (links-lead c.args.records.now) c.link.ensures.prefix.made from there
