-- What a search for a key finds where a folder keeps a state, as a removal needs it.
use Rattle.std.specs.Prelude.{◌≡◌, ℕ, List, Option, false}
use Rattle.spec_image.specs.Image.{Image}
use Rattle.blk_model.specs.Items.{main}
use Rattle.blk_model.specs.State.{State}
use Rattle.spec_folder.specs.Layout.{Layout}
use Rattle.spec_folder.specs.Loads.{Loaded}
use Rattle.blk_chain.specs.Finding.{CanBeSearched, IsFound}
use Rattle.law_state.specs.Keeping.{KeepsUncounted}
use Rattle.blk_object.specs.Removing.{LiesBehind}

-- precondition of `find`: where a folder keeps a state, the chain of each key can be searched
abbrev pub KeptStatesCanBeSearched : Type 0
KeptStatesCanBeSearched = (state : State) (layout : Layout) (unlinked : List ℕ) (image : Image) (key : List ℕ) → KeepsUncounted state layout unlinked image → CanBeSearched key image

-- the main item of a key has this node and this record, and the record before that in its chain is this one, or None if it is the first
pub record LiesAsFound (state : State) (layout : Layout) (key : List ℕ) (node entry : ℕ) (before : Option ℕ) : Type 0 where
  pub was : Loaded
  pub lies : LiesBehind state layout (main key) was before
  pub node_is : layout.place (main key) ≡ node
  pub entry_is : was.contents ≡ entry

-- where a folder keeps a state, a record without the child flag that is found by a key is that of the main item of this key, at the node that the record names
abbrev pub FoundEntriesLieBehind : Type 0
FoundEntriesLieBehind = (state : State) (layout : Layout) (unlinked : List ℕ) (image : Image) (key : List ℕ) (entry : ℕ) (before : Option ℕ) → KeepsUncounted state layout unlinked image → (found : IsFound key false entry before image)
    → LiesAsFound state layout key found.has_key.fields.rankings_node entry before
