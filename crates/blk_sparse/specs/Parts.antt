-- One part of an object: the search for it by its name, and an access to it.
use Rattle.std.specs.Prelude.{◌≡◌, ◌⊎◌, ℕ, List, Option, true}
use Rattle.std.specs.declared.option.Option.TheVariants.{None, Some}
use Rattle.spec_image.specs.Image.{Image}
use Rattle.blk_model.specs.Holding.{rest}
use Rattle.blk_model.specs.Items.{Item}
use Rattle.blk_model.specs.State.{Object, State, part_at}
use Rattle.spec_folder.specs.Layout.{Layout, is_listed}
use Rattle.spec_folder.specs.Loads.{Loaded}
use Rattle.law_state.specs.Changes.{Finds, SameCounters, SameSession}
use Rattle.law_state.specs.Keeping.{CountsItems, KeepsUncounted}
use Rattle.law_state.specs.ListLaws.{with_used}
use Rattle.blk_sparse.specs.SparseObjects.{HasPartAt, KeepsParent}

-- The search.

-- P holds of each sparse object with this key and this generation, wherever a folder keeps a state
abbrev pub ForEachOfKey : (key : List ℕ) (signature : ℕ) → Image → (State → Layout → List ℕ → ℕ → Object → (node entry : ℕ) → Type 0) → Type 0
ForEachOfKey key signature from P =
    (state : State) (layout : Layout) (unlinked : List ℕ) (number : ℕ) (object : Object) (node entry : ℕ)
    → KeepsParent state layout unlinked number object node entry signature from → object.key ≡ key → P state layout unlinked number object node entry

-- the answer of a search for part n of an object: its record, or None where the object doesn't have the part
abbrev pub IsPartFound : Layout → Object → (n : ℕ) → Option ℕ → Type 0
IsPartFound layout object n None = part_at object n ≡ None
IsPartFound layout object n (Some entry) = HasPartAt layout object n entry

-- The access.

-- the folder keeps a state (but for the counters) in which a listed item has the record at address `entry`
pub record IsListedAt (state : State) (layout : Layout) (unlinked : List ℕ) (item : Item) (entry : ℕ) (image : Image) : Type 0 where
  pub kept : KeepsUncounted state layout unlinked image
  pub listed : is_listed state item ≡ true
  pub was : Loaded
  pub lies : layout.at (layout.place item) ≡ Some was
  pub record_is : was.contents ≡ entry

-- P holds of each listed item with the record at address `entry`, wherever a folder keeps a state
abbrev pub ForEachListedAt : (entry : ℕ) → Image → (State → Layout → List ℕ → Item → Type 0) → Type 0
ForEachListedAt entry from P = (state : State) (layout : Layout) (unlinked : List ℕ) (item : Item) → IsListedAt state layout unlinked item entry from → P state layout unlinked item

-- after an access to the item the folder keeps the state with it in front of the LRU list, counted by the index where the state was; counters and session are
-- unchanged
pub record IsUsed (state : State) (layout : Layout) (unlinked : List ℕ) (item : Item) (from image : Image) : Type 0 where
  pub kept : KeepsUncounted (with_used state item) layout unlinked image
  pub counted : CountsItems from state layout → CountsItems image (with_used state item) layout
  pub counters : SameCounters from image
  pub session : SameSession from image

-- recovery gives the durable contents before an access to the item, or those after it
abbrev pub FindsBeforeOrAfter : State → Item → Image → Type 0
FindsBeforeOrAfter state item image = Finds (rest state) image ⊎ Finds (rest (with_used state item)) image
