-- The printing of a text in several calls, which stops for good when the output fails.
use Rattle.std.specs.Prelude.{◌≡◌, ℕ, ◌≤◌, Bool, true, false, List, [], ◌++◌, Option}
use Rattle.std.specs.Option.{option_map}
use Rattle.spec_image.specs.Told.{Rises}
use Rattle.blk_io.specs.Streams.{Appends}

-- a text was printed in full, unless the output failed, and then a prefix; where it had failed before, nothing was
pub record PrintsUnlessFailed (failed_before failed : Bool) (old new : Option (List ℕ)) (text : List ℕ) : Type 0 where
  pub silent : failed_before ≡ true → (failed ≡ true) × (new ≡ old)
  pub whole : failed ≡ false → new ≡ option_map (λ (w : List ℕ). w ++ text) old
  pub front : Appends old new text

-- a prefix of a text was printed, and nothing where the output had failed before
pub record PrintsInPart (failed_before : Bool) (old new : Option (List ℕ)) (text : List ℕ) : Type 0 where
  pub silent : failed_before ≡ true → new ≡ old
  pub front : Appends old new text

-- the output is found to fail only where its error counter rose
abbrev pub FailsWhereItRose : (failed_before failed : Bool) (before now : ℕ) → Type 0
FailsWhereItRose failed_before failed before now = failed_before ≡ false → failed ≡ true → Rises before now

-- printing nothing is a text that was printed
abbrev pub NothingIsPrinted : Type 0
NothingIsPrinted = (failed : Bool) (old : Option (List ℕ)) → PrintsUnlessFailed failed failed old old []

-- two texts that were printed one after the other are one text that was
abbrev pub PrintsGoOn : Type 0
PrintsGoOn = (failed_before failed_between failed : Bool) (old between new : Option (List ℕ)) (first second : List ℕ) → PrintsUnlessFailed failed_before failed_between old between first → PrintsUnlessFailed failed_between failed between new second → PrintsUnlessFailed failed_before failed old new (first ++ second)

-- over two calls the output is found to fail only where its error counter rose
abbrev pub FaultsGoOn : Type 0
FaultsGoOn = (failed_before failed_between failed : Bool) (before between now : ℕ) → FailsWhereItRose failed_before failed_between before between → FailsWhereItRose failed_between failed between now → before ≤ between → between ≤ now
    → FailsWhereItRose failed_before failed before now
