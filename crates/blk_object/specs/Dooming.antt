-- An object is doomed while a handle names it: its items leave list and chains, its record gets the doomed state, and its blocks and files stay.
use Rattle.std.specs.Prelude.{◌≡◌, ℕ, List, [], ◌∷◌, ◌++◌, Ok, Option, Some, true}
use Rattle.spec_image.specs.Image.{Image}
use Rattle.blk_model.specs.Effects.{doomed}
use Rattle.blk_model.specs.Items.{main}
use Rattle.blk_model.specs.State.{Object, State, is_named}
use Rattle.spec_format.specs.Records.{entry_doomed, entry_normal}
use Rattle.law_folder.specs.CommandLaws.{IsPlacedAsLive}
use Rattle.spec_folder.specs.Layout.{Layout}
use Rattle.spec_folder.specs.Loads.{Loaded, load, unchained_rule}
use Rattle.spec_folder.specs.Removal.{is_of_another}
use Rattle.spec_folder.specs.Sound.{AreSealed, words_of}
use Rattle.spec_folder.specs.View.{store_of}
use Rattle.law_state.specs.Changes.{SameCounters, SameSession}
use Rattle.law_state.specs.DoomLaws.{CanBeDoomed, layout_doomed}
use Rattle.law_state.specs.HeldPartlyOut.{IsHeldOut}
use Rattle.law_state.specs.Keeping.{KeepsUncounted}
use Rattle.law_state.specs.PartlyOut.{KeepsPartlyOut}
use Rattle.blk_object.specs.KeptObjects.{KeptObject}
use Rattle.blk_object.specs.RemovingFound.{LiesAsFound}

-- the offset of the state word in a record
abbrev pub state_place : ℕ
state_place = 20

-- the only change of the record of an object that is doomed: its state word becomes that of a doomed entry
abbrev pub doomed_change : List (ℕ × ℕ)
doomed_change = (state_place, entry_doomed) ∷ []

-- The record.

-- all items of an object that a handle names are out of list and chains; its main item, with the record at address `entry`, still loads by itself as a live
-- entry whose checksums match, and its addresses are unlinked
pub record IsOutWhole (state : State) (layout : Layout) (number : ℕ) (object : Object) (loaded : Loaded) (chains : ℕ → List ℕ) (unlinked : List ℕ) (entry : ℕ) (image : Image) : Type 0 where
  pub placed : IsPlacedAsLive state layout number object loaded
  pub named : is_named state number ≡ true
  pub keeps : KeepsPartlyOut state layout (is_of_another object.key) chains (words_of loaded ++ unlinked) image
  pub loads : load (store_of image) (unchained_rule entry_normal) (layout.place (main object.key)) ≡ Ok loaded
  pub sealed : AreSealed image loaded
  pub entry_is : loaded.contents ≡ entry

-- P holds of each object that a handle names whose items are out of list and chains and whose record is at address `entry`
abbrev pub ForEachOut : (entry : ℕ) → Image → (KeptObject → Loaded → (chains : ℕ → List ℕ) → Type 0) → Type 0
ForEachOut entry from P =
    (state : State) (layout : Layout) (number : ℕ) (object : Object) (loaded : Loaded) (chains : ℕ → List ℕ) (unlinked : List ℕ) → IsOutWhole state layout number object loaded chains unlinked entry from
    → P (record { state = state; layout = layout; unlinked = unlinked; number = number; object = object }) loaded chains

-- the object loads as a doomed one, and neither the counters of the index nor its session have changed
pub record IsDoomedOut (state : State) (layout : Layout) (number : ℕ) (object : Object) (loaded : Loaded) (chains : ℕ → List ℕ) (unlinked : List ℕ) (from image : Image) : Type 0 where
  pub held : IsHeldOut state layout number object loaded chains unlinked image
  pub counters : SameCounters from image
  pub session : SameSession from image

-- An object without parts.

-- P holds of each object without parts that can be doomed and whose main item has this node and this record, wherever a folder keeps a state (but for the
-- counters)
abbrev pub ForEachHeld : (node entry : ℕ) (before : Option ℕ) → Image → (KeptObject → Loaded → Type 0) → Type 0
ForEachHeld node entry before from P =
    (state : State) (layout : Layout) (unlinked : List ℕ) (number : ℕ) (object : Object) (loaded : Loaded)
    → KeepsUncounted state layout unlinked from → CanBeDoomed state layout number object loaded → LiesAsFound state layout object.key node entry before
    → P (record { state = state; layout = layout; unlinked = unlinked; number = number; object = object }) loaded

-- the layout in which the object without parts is doomed: its node is that of a doomed object
abbrev pub layout_held : Layout → ℕ → Object → Loaded → Layout
layout_held layout number object loaded = layout_doomed layout number (layout.place (main object.key)) loaded

-- the folder keeps the state in which the object is doomed, but for the counters, and neither these nor the session have changed
pub record IsDoomedUncounted (state : State) (layout : Layout) (unlinked : List ℕ) (number : ℕ) (object : Object) (loaded : Loaded) (from image : Image) : Type 0 where
  pub kept : KeepsUncounted (doomed number state (Some object)) (layout_held layout number object loaded) unlinked image
  pub counters : SameCounters from image
  pub session : SameSession from image
