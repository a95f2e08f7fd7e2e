-- The parts of a sparse object are removed, by the key in its record.
use Rattle.std.specs.Prelude.{◌≡◌, ◌≤◌, ℕ, List, Bool, length, true}
use Rattle.spec_image.specs.Image.{Image}
use Rattle.blk_model.specs.Items.{Item, main}
use Rattle.blk_model.specs.Sizes.{longest_key}
use Rattle.blk_model.specs.State.{Object, State}
use Rattle.spec_folder.specs.Layout.{Layout, is_listed}
use Rattle.spec_folder.specs.Loads.{Loaded}
use Rattle.blk_object.specs.Owning.{LoadsWith}
use Rattle.blk_sparse.specs.Dropping.{AreLeft, HasSignature}

-- the main item of a sparse object is out of list and chain, and perhaps some of its parts; its record (at address `entry`, of this generation) still loads,
-- and the index counts the items that are left
pub record IsParentOut (state : State) (layout : Layout) (keep : Item → Bool) (chains : ℕ → List ℕ) (unlinked : List ℕ) (number : ℕ) (object : Object) (node entry signature : ℕ) (image : Image) : Type 0 where
  pub left : AreLeft state layout keep chains unlinked object.key number object image
  pub listed : is_listed state (main object.key) ≡ true
  pub node_is : layout.place (main object.key) ≡ node
  pub parent : HasSignature layout object.key signature
  pub loads : LoadsWith entry parent.was image

-- P holds of each sparse object with this node, this record and this generation whose main item is out, and perhaps some of its parts
abbrev pub ForEachParentOut : (node entry signature : ℕ) → Image → (State → Layout → (keep : Item → Bool) → List ℕ → ℕ → Object → Type 0) → Type 0
ForEachParentOut node entry signature from P =
    (state : State) (layout : Layout) (keep : Item → Bool) (chains : ℕ → List ℕ) (unlinked : List ℕ) (number : ℕ) (object : Object)
    → IsParentOut state layout keep chains unlinked number object node entry signature from → P state layout keep unlinked number object

-- what is loaded with the record at address `entry` has this key, whose length is one that an object's may have
pub record HasParentKey (entry : ℕ) (key : List ℕ) (image : Image) : Type 0 where
  pub loaded : Loaded
  pub loads : LoadsWith entry loaded image
  pub key_is : loaded.key ≡ key
  pub some : 1 ≤ length key
  pub short : length key ≤ longest_key
