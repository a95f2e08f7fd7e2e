-- The words that say what session it is, where its bytes are as before.
use Rattle.std.proofs.Common.{◌≡◌, ℕ, List, refl, arith}
use Rattle.spec_image.specs.Image.{Index, Image, byte, word}
use Rattle.spec_image.specs.Steps.{TrailStep}
use Rattle.spec_image.specs.Told.{Told, Along, IsQuiet, PassesTo, SaysTheSameSession}
use Rattle.spec_image.proofs.Quiet.{commands-keep, quiet-keeps}
use Rattle.spec_image.proofs.Runs.{until_weaker2}
use Rattle.spec_image.proofs.Words.{same-word_at}
use Rattle.spec_format.specs.Session.{CommandsKeepSessionWords, KeepsSessionWords, QuietStepsKeepSessionWords}

pub session-words : (from image : Image) → SaysTheSameSession from image → KeepsSessionWords from image
session-words from image same =
    let f = byte image Index in
    let g = byte from Index in
    record {
      magic = same-word_at f g 0 (same.bytes 0 refl) (same.bytes 1 refl) (same.bytes 2 refl) (same.bytes 3 refl);
      version = same-word_at f g 4 (same.bytes 4 refl) (same.bytes 5 refl) (same.bytes 6 refl) (same.bytes 7 refl);
      id = same-word_at f g 20 (same.bytes 20 refl) (same.bytes 21 refl) (same.bytes 22 refl) (same.bytes 23 refl);
      crash = same-word_at f g 32 (same.bytes 32 refl) (same.bytes 33 refl) (same.bytes 34 refl) (same.bytes 35 refl);
    }

pub quiet-words-kept : QuietStepsKeepSessionWords
quiet-words-kept steps image quiet =
    until_weaker2 (SaysTheSameSession image) (KeepsSessionWords image) (SaysTheSameSession image) (KeepsSessionWords image) steps image (session-words image) (session-words image) (quiet-keeps steps image quiet)

pub commands-words-kept : CommandsKeepSessionWords
commands-words-kept old new steps quiet applies from there image here = session-words from image (commands-keep old new steps quiet applies from there image here)
