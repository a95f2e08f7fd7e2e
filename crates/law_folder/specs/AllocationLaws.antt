-- The laws of the allocations of block files.
use Rattle.std.specs.Prelude.{◌≡◌, ℕ, true, ◌++◌, map, is_some}
use Rattle.std.specs.List.{filter, flat_map}
use Rattle.spec_image.specs.Image.{Image}
use Rattle.blk_model.specs.State.{State}
use Rattle.spec_format.specs.Claims.{is_in_file}
use Rattle.spec_format.specs.BlockFiles.{linked_as}
use Rattle.spec_format.specs.Maps.{AreAllocations}
use Rattle.spec_folder.specs.View.{view_of}
use Rattle.spec_folder.specs.Loads.{listed_rule}
use Rattle.spec_folder.specs.Audit.{kept_by}
use Rattle.spec_folder.specs.Found.{kept}
use Rattle.spec_folder.specs.Sound.{words_of, IsSound}
use Rattle.spec_folder.specs.StandsFor.{StandsFor}

-- in a consistent folder the allocations of each linked file are the address words in it of what is kept
abbrev pub SoundFilesAreAllocated : Type 0
SoundFilesAreAllocated = (image : Image) → IsSound image → (n : ℕ) → is_some (linked_as image n) ≡ true → AreAllocations image n (filter (is_in_file n) (flat_map words_of (kept image)))

-- where an image represents a state, the allocations of each linked file are the address words in it of what is listed or doomed
abbrev pub StoodForFilesAreAllocated : Type 0
StoodForFilesAreAllocated = (image : Image) (state : State) (stands : StandsFor image state) (n : ℕ) → is_some (linked_as image n) ≡ true
    → AreAllocations image n (filter (is_in_file n) (flat_map words_of (kept_by listed_rule (view_of image) ++ map (λ doomed. doomed.1) stands.doomed)))
