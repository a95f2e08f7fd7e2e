-- How the steps of an opening end, of which the last sets the crash word: they break off before that, or it is done.
use Rattle.std.specs.Prelude.{◌≡◌, ◌⊎◌, List, ◌++◌, All, false}
use Rattle.std.specs.Option.{ForSome}
use Rattle.spec_image.specs.Image.{Image, Index}
use Rattle.spec_image.specs.Steps.{TrailStep, word_step}
use Rattle.spec_image.specs.Told.{Told, Along, Applies, HasNoNote, PassesAny}
use Rattle.blk_repair.specs.Counters.{crash_place, writes_crash_word}

-- the steps broke off: none of them is a note or writes inside the crash word, and P holds before each of them and after the last
pub record RepairBreaksOff (old new : Told) (P : Image → Type 0) : Type 0 where
  pub passes : PassesAny old new P
  pub unmarked : All (λ step. writes_crash_word step ≡ false) passes.steps

-- the last step set the crash word to 1, and no step before it is a note or writes inside that word; P holds before each step and after the last, and there Q
-- holds too
pub record EndsWithCrashWord (old new : Told) (P Q : Image → Type 0) : Type 0 where
  pub before : List TrailStep
  pub unnoted : HasNoNote before
  pub first : All (λ step. writes_crash_word step ≡ false) before
  pub applies : Applies old new (before ++ word_step Index crash_place 1)
  pub along : ForSome old.files (λ image. Along P image (before ++ word_step Index crash_place 1))
  pub leaves : ForSome new.files Q

-- the steps broke off before the crash word was set, or setting it was the last of them
abbrev pub EndsOrBreaksOff : (old new : Told) → (P Q : Image → Type 0) → Type 0
EndsOrBreaksOff old new P Q = RepairBreaksOff old new P ⊎ EndsWithCrashWord old new P Q
