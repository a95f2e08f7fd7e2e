-- The folder that a session is opened on, the steps of its opening, and the step that ends the session.
use Rattle.std.specs.Prelude.{◌≡◌, ◌==◌, ◌⊎◌, ℕ, Bool, false, ◌&&◌, if◌then◌else◌, List, [], ◌∷◌, ◌++◌}
use Rattle.std.specs.List.{list_any}
use Rattle.std.specs.Option.{ForSome}
use Rattle.std.specs.Str.{bytes_eq}
use Rattle.spec_image.specs.Bytes.{word_bytes}
use Rattle.spec_image.specs.Image.{Image, Index, byte, same_file}
use Rattle.spec_image.specs.Steps.{TrailStep, Word, SetLength, Delete, Note}
use Rattle.spec_image.specs.Told.{Told, Applies, Along, HasNoNote}
use Rattle.blk_model.specs.State.{State}
use Rattle.spec_format.specs.Headers.{crash_of, this_id_of, unfinished}
use Rattle.spec_format.specs.Session.{session_after}
use Rattle.spec_folder.specs.Found.{HoldsStill}
use Rattle.spec_folder.specs.StandsFor.{StandsFor}

-- whether a step writes the word 1 at place 32 of the index, which marks a session as open
abbrev pub marks_open : TrailStep → Bool
marks_open (Word file place bytes) = same_file file Index && (place == 32) && bytes_eq bytes (word_bytes 1)
marks_open (SetLength file length) = false
marks_open (Delete file) = false
marks_open (Note number) = false

-- whether the opening has ended: the first step that marks a session as open is its last
abbrev pub has_opened : List TrailStep → Bool
has_opened steps = list_any marks_open steps

-- the step that marks a session as open
abbrev pub open_mark : TrailStep
open_mark = Word Index 32 (word_bytes 1)

-- whether a step writes the word 0 at place 32 of the index, which ends a session
abbrev pub marks_closed : TrailStep → Bool
marks_closed (Word file place bytes) = same_file file Index && (place == 32) && bytes_eq bytes (word_bytes 0)
marks_closed (SetLength file length) = false
marks_closed (Delete file) = false
marks_closed (Note number) = false

-- whether the session has ended: the last step is one that ends it; none follows that (`IsStopped.last`)
abbrev pub has_closed : List TrailStep → Bool
has_closed [] = false
has_closed (step ∷ []) = marks_closed step
has_closed (step ∷ next ∷ steps) = has_closed (next ∷ steps)

-- the step that ends a session
abbrev pub close_mark : TrailStep
close_mark = Word Index 32 (word_bytes 0)

-- the number of the session that is opened on a folder: 1 for a folder that is made, else the one after the index's number
abbrev pub opened_id : Image → ℕ
opened_id image = if unfinished image then 1 else session_after (this_id_of (byte image Index))

-- an image is in the session that is opened on another: the crash word is 1, and the number is that of this session
pub record IsInSessionOf (from image : Image) : Type 0 where
  pub crash : crash_of (byte image Index) ≡ 1
  pub id : this_id_of (byte image Index) ≡ opened_id from

-- an opening: no step is a note, at each the recovered contents are those of the old folder, and the last is the first that marks a session as open; there the
-- folder represents the state that is opened, and has the session's number
pub record Opens (from : Image) (opened : State) (old new : Told) : Type 0 where
  pub before : List TrailStep
  pub unnoted : HasNoNote before
  pub unmarked : has_opened before ≡ false
  pub applies : Applies old new (before ++ open_mark ∷ [])
  pub along : Along (HoldsStill from) from (before ++ open_mark ∷ [])
  pub stands : ForSome new.files (λ image. StandsFor image opened)
  pub id : ForSome new.files (λ image. this_id_of (byte image Index) ≡ opened_id from)

-- an opening that broke off: no step that was made is a note or marks a session as open, and at each the recovered contents are those of the old folder
pub record BreaksOff (from : Image) (old new : Told) : Type 0 where
  pub steps : List TrailStep
  pub unnoted : HasNoNote steps
  pub unmarked : has_opened steps ≡ false
  pub applies : Applies old new steps
  pub along : Along (HoldsStill from) from steps

-- an opening that failed: it broke off, or all its steps were made
abbrev pub FailsToOpen : Image → State → Told → Told → Type 0
FailsToOpen from opened old new = BreaksOff from old new ⊎ Opens from opened old new
