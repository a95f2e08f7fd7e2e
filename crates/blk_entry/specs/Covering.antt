-- Lemmas on the blocks and files that a new entry uses.
use Rattle.std.specs.Prelude.{◌≡◌, List, length, ℕ, false}
use Rattle.spec_image.specs.Image.{Image}
use Rattle.spec_format.specs.Claims.{has_claim, repeats}
use Rattle.spec_folder.specs.Footprint.{Covers, SameBut}
use Rattle.spec_folder.specs.View.{view_of}
use Rattle.spec_folder.specs.Loads.{all_claims}
use Rattle.spec_image.specs.Footprint.{SameOutside}
use Rattle.blk_disk.specs.declared.tables.BlockFiles.{BlockFiles}
use Rattle.blk_disk.specs.Tables.{Agrees}
use Rattle.blk_entry.specs.declared.writing.NewEntry.{NewEntry}
use Rattle.blk_entry.specs.Writing.{AreWords, FitsKey, LiesApart, loaded_new, places_of}

-- what is written of a new entry lies in the blocks and the files that it uses: those of its node, its record and its long key
abbrev pub NewPlacesAreCovered : Type 0
NewPlacesAreCovered = (files : BlockFiles) (new : NewEntry) (key : List ℕ) (image : Image) → FitsKey files new key → AreWords new → Agrees files image → Covers image (places_of new (length key)) (has_claim (all_claims (loaded_new new key)))

-- a change inside the node, the record and the long key of a new entry changes the view only there
abbrev pub NewPlacesAreShownApart : Type 0
NewPlacesAreShownApart =
    (files : BlockFiles) (new : NewEntry) (key : List ℕ) (from image : Image) → FitsKey files new key → AreWords new → Agrees files from
    → SameOutside (places_of new (length key)) from image → SameBut (has_claim (all_claims (loaded_new new key))) (view_of from) (view_of image)

-- no block and no file is used twice by a new entry
abbrev pub NewClaimsAreSingle : Type 0
NewClaimsAreSingle = (files : BlockFiles) (new : NewEntry) (key : List ℕ) → FitsKey files new key → LiesApart new.entry new.long_key → AreWords new → repeats (all_claims (loaded_new new key)) ≡ false
