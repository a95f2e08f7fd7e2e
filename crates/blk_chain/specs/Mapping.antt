-- The hash chains as a map from keys with child flags to records.
use Rattle.std.specs.Prelude.{◌≡◌, ◌≢◌, ◌↔◌, ℕ, List, Bool, true}
use Rattle.std.specs.declared.option.Option.{Option}
use Rattle.spec_image.specs.Image.{Image}
use Rattle.spec_format.specs.BlockFiles.{is_among}
use Rattle.spec_folder.specs.View.{store_of}
use Rattle.spec_folder.specs.Searches.{HasKey, chained_for}
use Rattle.blk_chain.specs.Unlinking.{KeyIsApart}

-- the map has record w for the key and the child flag: w has both, and is in the chain of the key's bucket
abbrev pub IsRecordOf : Image → List ℕ → Bool → ℕ → Type 0
IsRecordOf image key is_child w = (is_among (chained_for (store_of image) key) w ≡ true) × HasKey (store_of image) key is_child w

-- the chains are a map: no two records have the same key and child flag
abbrev pub AreMap : Image → Type 0
AreMap image = (key : List ℕ) (is_child : Bool) (v w : ℕ) → IsRecordOf image key is_child v → IsRecordOf image key is_child w → v ≡ w

-- the map has record `entry` more, for its own key and child flag; the other records are unchanged, and a map stays a map
pub record GainsOne (from : Image) (entry : ℕ) (image : Image) : Type 0 where
  pub added : (key : List ℕ) (is_child : Bool) → HasKey (store_of from) key is_child entry → IsRecordOf image key is_child entry
  pub others : (key : List ℕ) (is_child : Bool) (w : ℕ) → w ≢ entry → IsRecordOf image key is_child w ↔ IsRecordOf from key is_child w
  pub map : AreMap from → AreMap image

-- the map has record `entry` no longer; the other records whose keys lie apart from the change are unchanged, and if all do a map stays a map
pub record LosesOne (from : Image) (entry : ℕ) (before : Option ℕ) (image : Image) : Type 0 where
  pub taken : (key : List ℕ) (is_child : Bool) → IsRecordOf image key is_child entry → ⊥
  pub others : (key : List ℕ) (is_child : Bool) (w : ℕ) → w ≢ entry → KeyIsApart before (store_of from) w → IsRecordOf image key is_child w ↔ IsRecordOf from key is_child w
  pub map : ((key : List ℕ) (is_child : Bool) (w : ℕ) → IsRecordOf image key is_child w → KeyIsApart before (store_of from) w) → AreMap from → AreMap image
