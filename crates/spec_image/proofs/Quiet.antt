-- What stays as it is through the steps that a command may make.
use Rattle.std.proofs.Common.{◌≡◌, ℕ, ◌+◌, ◌≤◌, Bool, true, false, ◌&&◌, ◌||◌, List, [], ◌∷◌, ◌++◌, length, Option, None, Some, refl, sym, ◌∙◌, ap, subst, arith}
use Rattle.std.specs.Prelude.{nat_le, nat_lt}
use Rattle.std.specs.Option.{ForSome, option_map}
use Rattle.std.proofs.lemmas.Bool.Decides.{nat_tests}
use Rattle.spec_image.specs.Image.{File, Index, Block, External, Image, byte, has_file, length_of}
use Rattle.spec_image.specs.Steps.{TrailStep, Word, SetLength, Delete, Note, applied, after, word_step, word_steps}
use Rattle.spec_image.specs.Told.{Told, Along, Applies, AppliesPrefix, HasNoNote, IsQuiet, PassesAnyTo, PassesTo, SaysTheSameSession, Until, is_of_session, is_quiet}
use Rattle.spec_image.specs.Laws.{CommandsKeepTheSession, QuietStepsHaveNoNote, QuietStepsKeepTheSession}
use Rattle.spec_image.proofs.Footprints.{outside_write}
use Rattle.spec_image.proofs.Runs.{grows_none, grows_then, only_there, told_whole, until-append, until_both, until_last, until_prefix, until_weaker2}

pub same-session : (image : Image) → SaysTheSameSession image image
same-session image = record { bytes = λ place of. refl; size = refl; there = refl }

pub session-then : (from between image : Image) → SaysTheSameSession from between → SaysTheSameSession between image → SaysTheSameSession from image
session-then from between image first second = record {
  bytes = λ place of. second.bytes place of ∙ first.bytes place of;
  size = second.size ∙ first.size;
  there = second.there ∙ first.there;
}

-- a place of the session's words lies beside a write that spares them
beside : (place at n : ℕ) → ((nat_le 8 at && nat_le (at + n) 20) || nat_le 36 at) ≡ true → (nat_lt place 8 || (nat_le 20 place && nat_lt place 36)) ≡ true → (nat_le at place && nat_lt place (at + n)) ≡ false
beside place at n spares of = grind (arith, nat_tests)

-- one step
step-session : (x : TrailStep) (image : Image) → is_quiet x ≡ true → SaysTheSameSession image (applied x image)
step-session (Word Index at bytes) image quiet =
    let same = outside_write Index at bytes image in
    record { bytes = λ place of. same.bytes Index place (beside place at (length bytes) quiet of); size = same.lengths Index refl; there = same.files Index refl }
step-session (Word (Block n) at bytes) image quiet = record { bytes = λ place of. refl; size = refl; there = refl }
step-session (Word (External n) at bytes) image quiet = record { bytes = λ place of. refl; size = refl; there = refl }
step-session (SetLength Index size) image quiet = absurd (let no : false ≡ true = quiet in cc)
step-session (SetLength (Block n) size) image quiet = record { bytes = λ place of. refl; size = refl; there = refl }
step-session (SetLength (External n) size) image quiet = record { bytes = λ place of. refl; size = refl; there = refl }
step-session (Delete Index) image quiet = absurd (let no : false ≡ true = quiet in cc)
step-session (Delete (Block n)) image quiet = record { bytes = λ place of. refl; size = refl; there = refl }
step-session (Delete (External n)) image quiet = record { bytes = λ place of. refl; size = refl; there = refl }
step-session (Note number) image quiet = absurd (let no : false ≡ true = quiet in cc)

-- from an earlier image on
steps-session : (from image : Image) (steps : List TrailStep) → SaysTheSameSession from image → IsQuiet steps → Along (SaysTheSameSession from) image steps
steps-session from image [] same quiet = same
steps-session from image (x ∷ steps) same quiet =
    let q = only_there (is_quiet x) quiet in
    (same, steps-session from (applied x image) steps (session-then from image (applied x image) same (step-session x image q.0)) q.1)

pub quiet-keeps : QuietStepsKeepTheSession
quiet-keeps steps image quiet = steps-session image image steps (same-session image) quiet

pub commands-keep : CommandsKeepTheSession
commands-keep old new steps quiet applies from there =
    told_whole {a = old} {b = new} {s = steps} (SaysTheSameSession from) applies
    (λ image here. until_last (SaysTheSameSession from) (SaysTheSameSession from) steps image
    (subst (λ (i : Image). Along (SaysTheSameSession from) i steps) (same image here) (quiet-keeps steps from quiet)))
  where
    same : (image : Image) → old.files ≡ Some image → from ≡ image
    same image here = inj (sym there ∙ here) where
      inj : Some from ≡ Some image → from ≡ image
      inj e = cc

pub no-note : QuietStepsHaveNoNote
no-note [] quiet = tt
no-note (Word f at bs ∷ s) quiet = no-note s (only_there (is_quiet (Word f at bs)) quiet).1
no-note (SetLength f n ∷ s) quiet = no-note s (only_there (is_quiet (SetLength f n)) quiet).1
no-note (Delete f ∷ s) quiet = no-note s (only_there (is_quiet (Delete f)) quiet).1
no-note (Note n ∷ s) quiet = absurd quiet

-- what a call of a command may do, a call that makes or opens a folder may do too
pub passes_any : {a b : Told} {P Q : Image → Type 0} → PassesTo a b P Q → PassesAnyTo a b P Q
passes_any {a} {b} {P} {Q} first = record { steps = first.steps; applies = first.applies; unnoted = no-note first.steps first.quiet; along = first.along }

-- after each step of a call of a command it is the same session as before
pub passes_in_session : {a b : Told} {P Q : Image → Type 0} → PassesTo a b P Q → ForSome a.files (λ from. PassesTo a b (λ i. P i × SaysTheSameSession from i) (λ i. Q i × SaysTheSameSession from i))
passes_in_session {a} {b} {P} {Q} first from there = record {
  steps = first.steps;
  applies = first.applies;
  quiet = first.quiet;
  along = λ image here.
      until_both P (SaysTheSameSession from) Q (SaysTheSameSession from) first.steps image (first.along image here)
      (subst (λ (i : Image). Along (SaysTheSameSession from) i first.steps) (same image here) (quiet-keeps first.steps from first.quiet));
}
  where
    same : (image : Image) → a.files ≡ Some image → from ≡ image
    same image here = inj (sym there ∙ here) where
      inj : Some from ≡ Some image → from ≡ image
      inj e = cc

-- Calls that make or open a folder, as `Runs` has those of commands.

pub noteless_prefix : (s t : List TrailStep) → HasNoNote (s ++ t) → HasNoNote s
noteless_prefix [] t none = tt
noteless_prefix (Word f at bs ∷ s) t none = noteless_prefix s t none
noteless_prefix (SetLength f n ∷ s) t none = noteless_prefix s t none
noteless_prefix (Delete f ∷ s) t none = noteless_prefix s t none
noteless_prefix (Note n ∷ s) t none = absurd none

pub noteless-append : (s t : List TrailStep) → HasNoNote s → HasNoNote t → HasNoNote (s ++ t)
noteless-append [] t first second = second
noteless-append (Word f at bs ∷ s) t first second = noteless-append s t first second
noteless-append (SetLength f n ∷ s) t first second = noteless-append s t first second
noteless-append (Delete f ∷ s) t first second = noteless-append s t first second
noteless-append (Note n ∷ s) t first second = absurd first

pub noteless-word_step : (f : File) (place value : ℕ) → HasNoNote (word_step f place value)
unfolding word_step
noteless-word_step f place value = tt

pub noteless-word_steps : (f : File) (ws : List (ℕ × ℕ)) → HasNoNote (word_steps f ws)
unfolding word_step
noteless-word_steps f [] = tt
noteless-word_steps f (w ∷ ws) = noteless-word_steps f ws

pub any_none : {a b : Told} (P : Image → Type 0) → b ≡ a → ForSome a.files P → PassesAnyTo a b P P
any_none {a} {b} P same holds = record { steps = []; applies = grows_none same; unnoted = tt; along = holds }

pub any_part : {a b : Told} {s : List TrailStep} (P Q : Image → Type 0) → AppliesPrefix a b s → HasNoNote s → ((image : Image) → P image → Q image) → ForSome a.files (λ image. Until P Q image s) → PassesAnyTo a b P Q
any_part {a} {b} {s} P Q part none weaker all = record {
  steps = part.made;
  applies = part.applies;
  unnoted = noteless_prefix part.made part.left (subst HasNoNote part.split none);
  along = λ image there. until_prefix P Q part.made part.left image weaker (subst (Until P Q image) part.split (all image there));
}

pub any_then : {a b c : Told} {P Q : Image → Type 0} → PassesAnyTo a b P P → PassesAnyTo b c P Q → PassesAnyTo a c P Q
any_then {a} {b} {c} {P} {Q} first second = record {
  steps = first.steps ++ second.steps;
  applies = grows_then first.applies second.applies;
  unnoted = noteless-append first.steps second.steps first.unnoted second.unnoted;
  along = λ image there. until-append P Q first.steps second.steps image (first.along image there) (second.along _ (first.applies.files ∙ ap (option_map (after first.steps)) there));
}

pub any_weaker : {a b : Told} {P P' Q Q' : Image → Type 0} → PassesAnyTo a b P Q → ((image : Image) → P image → P' image) → ((image : Image) → Q image → Q' image) → PassesAnyTo a b P' Q'
any_weaker {a} {b} {P} {P'} {Q} {Q'} first before last = record {
  steps = first.steps;
  applies = first.applies;
  unnoted = first.unnoted;
  along = λ image there. until_weaker2 P P' Q Q' first.steps image before last (first.along image there);
}

pub any_end : {a b : Told} {P Q : Image → Type 0} → PassesAnyTo a b P Q → ForSome b.files Q
any_end {a} {b} {P} {Q} first = told_whole {a = a} {b = b} {s = first.steps} Q first.applies (λ image there. until_last P Q first.steps image (first.along image there))

pub any_step : {a b : Told} {x : TrailStep} (P : Image → Type 0) → Applies a b (x ∷ []) → HasNoNote (x ∷ []) → ForSome a.files (λ image. P image × P (applied x image)) → PassesAnyTo a b P P
any_step {a} {b} {x} P grows none both = record { steps = x ∷ []; applies = grows; unnoted = none; along = both }
