-- A live object without parts that a handle names is doomed: its node and its record stay, out of the list and out of the chains.
use Rattle.std.specs.Prelude.{◌≡◌, ℕ, ◌+◌, List, true, false, ◌==◌, length}
use Rattle.std.specs.List.{sum_by}
use Rattle.std.specs.declared.option.Option.TheVariants.{Some}
use Rattle.std.specs.declared.result.Result.TheVariants.{Ok}
use Rattle.blk_model.specs.Effects.{doomed}
use Rattle.blk_model.specs.Items.{main, part}
use Rattle.blk_model.specs.State.{State, Object, IsValidState, is_named}
use Rattle.spec_image.specs.Image.{Image}
use Rattle.spec_format.specs.Records as records
use Rattle.law_folder.specs.CommandLaws.{IsPlacedAsLive}
use Rattle.spec_folder.specs.Found.{charge_of}
use Rattle.spec_folder.specs.Layout.{HoldsExcept, Layout, is_listed, nodes_of, order}
use Rattle.spec_folder.specs.Tidy.{loaded_at}
use Rattle.spec_folder.specs.Loads.{Loaded, load, unchained_rule}
use Rattle.spec_folder.specs.Removal.{placed_doomed}
use Rattle.spec_folder.specs.Sound.{AreSealed}
use Rattle.spec_folder.specs.View.{list_of, store_of}
use Rattle.law_state.specs.Arranging.{LeavesFiles}
use Rattle.law_state.specs.Keeping.{KeepsUncounted}
use Rattle.law_state.specs.RemovalLaws.{IsRemovalDone, chains_without}

-- the object of a number can be doomed: it is live, a handle names it, and none of its parts is listed
pub record CanBeDoomed (state : State) (layout : Layout) (number : ℕ) (object : Object) (loaded : Loaded) : Type 0 where
  pub lies : IsPlacedAsLive state layout number object loaded
  pub named : is_named state number ≡ true
  pub alone : (n : ℕ) → is_listed state (part object.key n) ≡ false
  pub valid : IsValidState (doomed number state (Some object))

-- the record of a node is out of its chain and has state 2, and all other records are as they were
pub record IsUnchained (state : State) (layout : Layout) (node : ℕ) (loaded : Loaded) (from image : Image) : Type 0 where
  pub leaves : LeavesFiles from image
  pub list : list_of image ≡ list_of from
  pub holds : HoldsExcept (λ n. n == node) (store_of image) state (record layout { chains = chains_without layout loaded.contents })
  pub loads : load (store_of image) (unchained_rule records.entry_doomed) node ≡ Ok loaded
  pub sealed : (other : ℕ) (lies : Loaded) → layout.at other ≡ Some lies → AreSealed from lies → AreSealed image lies

-- the layout in which a node is that of a doomed object of a number, its record out of its chain
abbrev pub layout_doomed : Layout → ℕ → ℕ → Loaded → Layout
layout_doomed layout number node loaded = placed_doomed layout number node layout.at (chains_without layout loaded.contents) layout.owner

-- once an object that can be doomed is out of the list and of its chain, the state in which it is doomed is kept, with the same words unlinked
abbrev pub DoomedObjectsAreKept : Type 0
DoomedObjectsAreKept = (state : State) (layout : Layout) (unlinked : List ℕ) (number : ℕ) (object : Object) (loaded : Loaded) (from between image : Image) → KeepsUncounted state layout unlinked from → CanBeDoomed state layout number object loaded
    → IsRemovalDone from (layout.place (main object.key)) between → IsUnchained state layout (layout.place (main object.key)) loaded between image
    → KeepsUncounted (doomed number state (Some object)) (layout_doomed layout number (layout.place (main object.key)) loaded) unlinked image

-- the state in which an object is doomed has one item less, and the sum of the costs is less by the object's
pub record IsDoomedLess (state : State) (layout : Layout) (number : ℕ) (object : Object) (loaded : Loaded) : Type 0 where
  pub items : length (doomed number state (Some object)).uses + 1 ≡ length state.uses
  pub bytes : sum_by charge_of (loaded_at layout (nodes_of layout (doomed number state (Some object)).uses)) + charge_of loaded ≡ sum_by charge_of (loaded_at layout (order state layout))

-- where an object can be doomed, the state after that has one item less, and the sum of the costs is less by the object's
abbrev pub DoomedObjectsAreOneLess : Type 0
DoomedObjectsAreOneLess = (state : State) (layout : Layout) (unlinked : List ℕ) (number : ℕ) (object : Object) (loaded : Loaded) (from : Image) → KeepsUncounted state layout unlinked from → CanBeDoomed state layout number object loaded → IsDoomedLess state layout number object loaded
