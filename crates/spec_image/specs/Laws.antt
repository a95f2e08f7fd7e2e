-- The laws of this crate, which say that its definitions fit together.
use Rattle.std.specs.Prelude.{◌≡◌, ℕ, ◌+◌, ◌<◌, List, ◌++◌, Some, length}
use Rattle.std.specs.List.{All}
use Rattle.std.specs.Option.{ForSome}
use Rattle.spec_image.specs.Image.{File, Image, HasRange, with_file}
use Rattle.spec_image.specs.Steps.{TrailStep, IsTrail, after, words, written_over}
use Rattle.spec_image.specs.Told.{Told, Trail, Applies, Along, HasNoNote, IsQuiet, SaysTheSameSession}
use Rattle.spec_image.specs.Notes.{AreTrue, notes_in}
use Rattle.spec_image.specs.Footprint.{SameOutside, range, touched_by_all}

-- the word steps of a write leave the file with the bytes at their place, and every other file as it was
abbrev pub WordsWriteTheBytes : Type 0
WordsWriteTheBytes = (file : File) (place : ℕ) (bytes : List ℕ) (image : Image)
    → after (words file place bytes) image ≡ with_file image file (written_over place bytes (image file))

-- the word steps of a write inside a file are valid writes: each is of one to four bytes inside one aligned word
abbrev pub WordsAreAligned : Type 0
WordsAreAligned = (file : File) (place : ℕ) (bytes : List ℕ) (image : Image) → All (λ b. b < 256) bytes → HasRange image file place (length bytes)
    → IsTrail image (words file place bytes)

-- before and after each word step of a write all but the bytes of the written range is as it was before the write
abbrev pub WordsStayInside : Type 0
WordsStayInside = (file : File) (place : ℕ) (bytes : List ℕ) (image : Image)
    → Along (SameOutside (range file place (length bytes)) image) image (words file place bytes)

-- before and after each of some steps all outside the union of their footprints is as it was before the first
abbrev pub StepsStayInside : Type 0
StepsStayInside = (steps : List TrailStep) (image : Image) → Along (SameOutside (touched_by_all steps) image) image steps

-- where the write trace is observable before a call, the steps that the call applied are determined: two lists of them are equal
abbrev pub StepsOfOneCallAreOne : Type 0
StepsOfOneCallAreOne = (old new : Told) (trail : Trail) (steps others : List TrailStep) → old.trail ≡ Some trail → Applies old new steps
    → Applies old new others → steps ≡ others

-- at each of some steps that a command may make it is the same session as before the first
abbrev pub QuietStepsKeepTheSession : Type 0
QuietStepsKeepTheSession = (steps : List TrailStep) (image : Image) → IsQuiet steps → Along (SaysTheSameSession image) image steps

-- after a call that makes such steps it is the same session as before
abbrev pub CommandsKeepTheSession : Type 0
CommandsKeepTheSession = (old new : Told) (steps : List TrailStep) → IsQuiet steps → Applies old new steps → ForSome old.files (λ from. ForSome new.files (SaysTheSameSession from))

-- no step that a command may make is a note
abbrev pub QuietStepsHaveNoNote : Type 0
QuietStepsHaveNoNote = (steps : List TrailStep) → IsQuiet steps → HasNoNote steps

-- true completion markers can be joined: steps with true notes, and then steps whose notes go on from theirs, have true notes together
abbrev pub NotesGoOn : Type 0
NotesGoOn = (n : ℕ) (steps more : List TrailStep) → AreTrue n steps → AreTrue (n + notes_in steps) more → AreTrue n (steps ++ more)
