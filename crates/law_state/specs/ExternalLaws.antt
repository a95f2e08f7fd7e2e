-- External files that are made and deleted, at each word and in the end.
use Rattle.std.specs.Prelude.{◌≡◌, ℕ, ◌<◌, ◌^◌, [], ◌∷◌, true, false}
use Rattle.spec_image.specs.Footprint.{SameOutside, either, one_word, whole}
use Rattle.spec_image.specs.Image.{Index, External, Image, has_file}
use Rattle.spec_format.specs.Address.{external, external_number, kind_of}
use Rattle.spec_format.specs.BlockFiles.{stands_in, HasSoundHeaders}
use Rattle.law_state.specs.Changes.{AddsExternal, RemovesExternal, StillFinds}

-- the external file of a number that none had is being made: it may be there, and the index may have its number as the last one
pub record IsMakingExternal (from : Image) (n : ℕ) (image : Image) : Type 0 where
  pub small : n < 2 ^ 32
  pub absent : has_file from (External n) ≡ false
  pub same : SameOutside (either (whole (External n)) (one_word Index 16)) from image

-- while an external file is being made the old durable contents are held, whatever is unlinked
abbrev pub MakingFilesFindsTheSame : Type 0
MakingFilesFindsTheSame = (from image : Image) (n : ℕ) → IsMakingExternal from n image → StillFinds [] from image

-- an external file that was being made is made (`AddsExternal`) once it is there
abbrev pub MadeFilesAreAdded : Type 0
MadeFilesAreAdded = (from image : Image) (w : ℕ) → HasSoundHeaders from → kind_of w ≡ external → IsMakingExternal from (external_number w) image → has_file image (External (external_number w)) ≡ true → stands_in image w ≡ true → AddsExternal from w image

-- while the external file of an unlinked word is changed or deleted, the old durable contents are held
abbrev pub DeletingFilesFindsTheSame : Type 0
DeletingFilesFindsTheSame = (from image : Image) (w : ℕ) → kind_of w ≡ external → SameOutside (whole (External (external_number w))) from image → StillFinds (w ∷ []) from image

-- the external file of a word is deleted (`RemovesExternal`) once it isn't there
abbrev pub DeletedFilesAreRemoved : Type 0
DeletedFilesAreRemoved = (from image : Image) (w : ℕ) → HasSoundHeaders from → kind_of w ≡ external → stands_in from w ≡ true → SameOutside (whole (External (external_number w))) from image → has_file image (External (external_number w)) ≡ false → RemovesExternal from w image
