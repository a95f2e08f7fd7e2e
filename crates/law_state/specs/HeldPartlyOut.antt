-- An object with parts that a handle names, all of whose items were removed one after another, its parts freed or not: once its record is that of a doomed
-- object, it is kept as one.
use Rattle.std.specs.Prelude.{◌≡◌, ℕ, List, ◌++◌, true}
use Rattle.std.specs.declared.option.Option.TheVariants.{None, Some}
use Rattle.std.specs.declared.result.Result.TheVariants.{Ok}
use Rattle.blk_model.specs.Effects.{doomed}
use Rattle.blk_model.specs.Items.{main}
use Rattle.blk_model.specs.Refusals.{refused}
use Rattle.blk_model.specs.Request.{Request}
use Rattle.blk_model.specs.State.{Object, State, is_named}
use Rattle.blk_model.specs.Step.{step}
use Rattle.spec_image.specs.Image.{Image}
use Rattle.spec_format.specs.Records as records
use Rattle.law_folder.specs.CommandLaws.{IsPlacedAsLive}
use Rattle.spec_folder.specs.Layout.{Layout}
use Rattle.spec_folder.specs.Loads.{Loaded, load, unchained_rule}
use Rattle.spec_folder.specs.Removal.{is_of_another}
use Rattle.spec_folder.specs.Sound.{AreSealed, words_of}
use Rattle.spec_folder.specs.View.{store_of}
use Rattle.law_state.specs.CommandStates.{IsDoomOf}
use Rattle.law_state.specs.Keeping.{KeepsUncounted}
use Rattle.law_state.specs.PartlyOut.{KeepsPartlyOut}
use Rattle.law_state.specs.WholeRemovals.{layout_doomed_whole}

-- all items of an object with a handle are out; the words of its main item are the first unlinked ones, its node loads as that of a doomed object, and node
-- and record have their checksums
pub record IsHeldOut (state : State) (layout : Layout) (number : ℕ) (object : Object) (loaded : Loaded) (chains : ℕ → List ℕ) (unlinked : List ℕ) (image : Image) : Type 0 where
  pub placed : IsPlacedAsLive state layout number object loaded
  pub named : is_named state number ≡ true
  pub keeps : KeepsPartlyOut state layout (is_of_another object.key) chains (words_of loaded ++ unlinked) image
  pub loads : load (store_of image) (unchained_rule records.entry_doomed) (layout.place (main object.key)) ≡ Ok loaded
  pub sealed : AreSealed image loaded

-- once all items of an object with a handle are out, and its node loads as a doomed object's, the state with it doomed is kept, and its words are unlinked no
-- longer
abbrev pub HeldOutObjectsAreDoomed : Type 0
HeldOutObjectsAreDoomed = (state : State) (layout : Layout) (number : ℕ) (object : Object) (loaded : Loaded) (chains : ℕ → List ℕ) (unlinked : List ℕ) (image : Image) → IsHeldOut state layout number object loaded chains unlinked image
    → KeepsUncounted (doomed number state (Some object)) (layout_doomed_whole state layout number object.key chains) unlinked image

-- the state after a Doom or a DoomKey of an object with a handle is kept but for the counters once all its items are out, and its node loads as a doomed
-- object's
abbrev pub HeldOutDoomsEnd : Type 0
HeldOutDoomsEnd = (state : State) (moment : ℕ) (request : Request) (layout : Layout) (number : ℕ) (object : Object) (loaded : Loaded) (chains : ℕ → List ℕ) (unlinked : List ℕ) (image : Image) → refused moment request state ≡ None → IsDoomOf request state number
    → IsHeldOut state layout number object loaded chains unlinked image → KeepsUncounted (step state moment request).state (layout_doomed_whole state layout number object.key chains) unlinked image
