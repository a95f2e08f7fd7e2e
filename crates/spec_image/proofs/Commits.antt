-- Changes that take effect at one step.
use Rattle.std.proofs.Common.{◌≡◌, ℕ, zero, suc, List, [], ◌∷◌, ◌++◌, Some, sym, ◌∙◌, subst}
use Rattle.spec_image.specs.Image.{File, Image}
use Rattle.spec_image.specs.Steps.{TrailStep, applied, after, word_step}
use Rattle.spec_image.specs.Told.{Told, AppliesPrefix, Along, IsQuiet, Passes, CommitsAt, Commits}
use Rattle.spec_image.proofs.Runs.{grows_none, quiet_prefix, some_inj, until_prefix}

-- the steps from the first on commit at the same step
commits_over_prefix : (count : ℕ) (P Q : Image → Type 0) (s t : List TrailStep) (image : Image) → CommitsAt count P Q image (s ++ t) → CommitsAt count P Q image s
commits_over_prefix zero P Q s t image all = until_prefix Q Q s t image (λ i q. q) all
commits_over_prefix (suc count) P Q [] [] image all = all
commits_over_prefix (suc count) P Q [] (x ∷ t) image all = all.0
commits_over_prefix (suc count) P Q (x ∷ s) t image all = (all.0, commits_over_prefix count P Q s t (applied x image) all.1)

-- a call that wrote nothing
pub commits_none : (count : ℕ) (old new : Told) (from : Image) (P Q : Image → Type 0) → old.files ≡ Some from → new ≡ old → P from → Commits (suc count) old new P Q
commits_none count old new from P Q there stays before = record {
  steps = [];
  applies = grows_none stays;
  quiet = tt;
  commits = λ image here. subst P (some_inj (sym there ∙ here)) before;
}

-- a call of which a prefix of the steps was made
pub commits_prefix : (count : ℕ) (old new : Told) (from : Image) (P Q : Image → Type 0) (steps : List TrailStep) → old.files ≡ Some from → IsQuiet steps → CommitsAt count P Q from steps → AppliesPrefix old new steps → Commits count old new P Q
commits_prefix count old new from P Q steps there quiet whole part = record {
  steps = part.made;
  applies = part.applies;
  quiet = quiet_prefix part.made part.left (subst IsQuiet part.split quiet);
  commits = λ image here.
      subst (λ (i : Image). CommitsAt count P Q i part.made) (some_inj (sym there ∙ here))
      (commits_over_prefix count P Q part.made part.left from (subst (CommitsAt count P Q from) part.split whole));
}

-- one word, before which P holds and after which Q
pub commits_word : (P Q : Image → Type 0) (f : File) (place value : ℕ) (image : Image) → P image → Q (after (word_step f place value) image) → CommitsAt 1 P Q image (word_step f place value)
unfolding word_step
commits_word P Q f place value image before last = (before, last)

-- what commits at one step holds before or after it at each
commits_until : (count : ℕ) (P Q R : Image → Type 0) → ((i : Image) → P i → R i) → ((i : Image) → Q i → R i) → (steps : List TrailStep) (image : Image) → CommitsAt count P Q image steps → Along R image steps
commits_until zero P Q R before behind [] image all = behind image all
commits_until zero P Q R before behind (x ∷ steps) image all = (behind image all.0, commits_until zero P Q R before behind steps (applied x image) all.1)
commits_until (suc count) P Q R before behind [] image all = before image all
commits_until (suc count) P Q R before behind (x ∷ steps) image all = (before image all.0, commits_until count P Q R before behind steps (applied x image) all.1)

pub commits_passes : (count : ℕ) (old new : Told) (P Q R : Image → Type 0) → ((i : Image) → P i → R i) → ((i : Image) → Q i → R i) → Commits count old new P Q → Passes old new R
commits_passes count old new P Q R before behind commits = record {
  steps = commits.steps;
  applies = commits.applies;
  quiet = commits.quiet;
  along = λ image there. commits_until count P Q R before behind commits.steps image (commits.commits image there);
}
