-- A sparse object is removed with its parts; where a handle names it, only its parts are freed.
use Rattle.std.specs.Prelude.{◌≡◌, ℕ, ◌+◌, List, ◌++◌, Bool, Option, Some, false, length, map, true}
use Rattle.spec_image.specs.Image.{Image}
use Rattle.blk_model.specs.Effects.{doomed}
use Rattle.blk_model.specs.Items.{Item, part}
use Rattle.blk_model.specs.Room.{items_of_group, parts_among, whole}
use Rattle.blk_model.specs.State.{Object, State, is_named, object_at}
use Rattle.spec_format.specs.SparseIndex.{ParentIndex}
use Rattle.spec_folder.specs.Entries.{IsParent}
use Rattle.spec_folder.specs.Found.{charge_of}
use Rattle.spec_folder.specs.Layout.{Layout, nodes_of}
use Rattle.spec_folder.specs.Loads.{Loaded}
use Rattle.spec_folder.specs.Removal.{is_of_another}
use Rattle.law_state.specs.CountsOfParts.{charges_at}
use Rattle.law_state.specs.GroupLaws.{gone_nodes, layout_less}
use Rattle.law_state.specs.Keeping.{Keeps}
use Rattle.law_state.specs.WholeRemovals.{layout_doomed_whole}
use Rattle.blk_object.specs.Owning.{LoadsWith}
use Rattle.blk_object.specs.RemovingFound.{LiesAsFound}
use Rattle.blk_sparse.specs.Dropping.{AreGone, AreLeft, HasIndexedParts}
use Rattle.blk_sparse.specs.declared.dropping.Gone.{Gone}
use Rattle.blk_sparse.specs.declared.dropping.IndexedParts.{IndexedParts}

-- a live sparse object with this key, which a handle names (`held`) or none does, has this node, this record, and this record before it in its chain
pub record LiesAsParent (held : Bool) (state : State) (layout : Layout) (unlinked : List ℕ) (number : ℕ) (object : Object) (key : List ℕ) (node entry : ℕ) (before : Option ℕ) (image : Image) : Type 0 where
  pub kept : Keeps state layout unlinked image
  pub here : object_at state number ≡ Some object
  pub of_key : object.key ≡ key
  pub live : object.live ≡ true
  pub named : is_named state number ≡ held
  pub lies : LiesAsFound state layout key node entry before
  pub index : ParentIndex
  pub role : lies.was.role ≡ IsParent index

-- P holds of each live sparse object with this key, this node and this record that no handle names, and so may be removed with its parts, wherever a folder
-- keeps a state
abbrev pub ForEachParent : (key : List ℕ) (node entry : ℕ) (before : Option ℕ) → Image → (State → Layout → List ℕ → ℕ → Object → Type 0) → Type 0
ForEachParent key node entry before from P =
    (state : State) (layout : Layout) (unlinked : List ℕ) (number : ℕ) (object : Object)
    → LiesAsParent false state layout unlinked number object key node entry before from → P state layout unlinked number object

-- P holds of each live sparse object with this key, this node and this record that a handle names, where `charge` is the cost of its main item
abbrev pub ForEachHeldParent : (key : List ℕ) (node entry : ℕ) (before : Option ℕ) (charge : ℕ) → Image → (State → Layout → List ℕ → ℕ → Object → Type 0) → Type 0
ForEachHeldParent key node entry before charge from P =
    (state : State) (layout : Layout) (unlinked : List ℕ) (number : ℕ) (object : Object)
    → (m : LiesAsParent true state layout unlinked number object key node entry before from) → charge ≡ charge_of m.lies.was → P state layout unlinked number object

-- what is loaded with the record at address `entry` is a parent
pub record LoadsAsParent (entry : ℕ) (image : Image) : Type 0 where
  pub loaded : Loaded
  pub loads : LoadsWith entry loaded image
  pub index : ParentIndex
  pub role : loaded.role ≡ IsParent index

-- P holds, with the other unlinked addresses, of each object with this key whose main item is out, perhaps some parts too, and whose addresses `words` are
-- unlinked
abbrev pub ForEachRest : (words key : List ℕ) (indexed : IndexedParts) → Image → (State → Layout → (keep : Item → Bool) → List ℕ → ℕ → Object → Type 0) → Type 0
ForEachRest words key indexed from P =
    (state : State) (layout : Layout) (keep : Item → Bool) (chains : ℕ → List ℕ) (unlinked : List ℕ) (number : ℕ) (object : Object)
    → AreLeft state layout keep chains (words ++ unlinked) key number object from → HasIndexedParts layout key indexed
    → P state layout keep unlinked number object

-- the answer of a removal: these items and one more, whose cost is `charge`, and the sum of all their costs
pub record AreGoneBeside (layout : Layout) (items : List Item) (charge : ℕ) (gone : Gone) : Type 0 where
  pub many : gone.items ≡ length items + 1
  pub charged : gone.bytes ≡ charges_at layout (nodes_of layout items) + charge

-- the answer of a removal of an object with all its parts: how many items these are, and the sum of their costs
abbrev pub IsGroupTold : State → Layout → (key : List ℕ) → Gone → Type 0
IsGroupTold state layout key gone = AreGone layout (items_of_group (whole key (parts_among key state.uses))) gone

-- the folder keeps the state in which the object is doomed, by the layout without its items
pub record IsGoneWhole (state : State) (layout : Layout) (unlinked : List ℕ) (number : ℕ) (object : Object) (image : Image) : Type 0 where
  pub chains : ℕ → List ℕ
  pub kept : Keeps (doomed number state (Some object)) (layout_less layout (gone_nodes state layout (is_of_another object.key)) chains) unlinked image

-- Objects that a handle names.

-- the answer of a removal of all parts of a key: how many there were, and the sum of their costs
abbrev pub ArePartsTold : State → Layout → (key : List ℕ) → Gone → Type 0
ArePartsTold state layout key gone = AreGone layout (map (part key) (parts_among key state.uses)) gone

-- the folder keeps the state in which the object is doomed, by the layout that has its node as a doomed object's and none of its parts
pub record IsHeldWhole (state : State) (layout : Layout) (unlinked : List ℕ) (number : ℕ) (object : Object) (image : Image) : Type 0 where
  pub chains : ℕ → List ℕ
  pub kept : Keeps (doomed number state (Some object)) (layout_doomed_whole state layout number object.key chains) unlinked image
