-- An object that is removed with its parts: where all its items are out, and what is kept then.
use Rattle.std.specs.Prelude.{◌≡◌, ℕ, ◌<◌, List, [], ◌∷◌, ◌++◌, ◌==◌, ◌||◌, Bool, None, Some, false, filter, true}
use Rattle.std.specs.List.{flat_map}
use Rattle.std.specs.declared.result.Result.TheVariants.{Ok}
use Rattle.blk_model.specs.Effects.{doomed}
use Rattle.blk_model.specs.Items.{Item, main, same_item}
use Rattle.blk_model.specs.Refusals.{refused}
use Rattle.blk_model.specs.Request.{Request}
use Rattle.blk_model.specs.Room.{Group, whole, without}
use Rattle.blk_model.specs.State.{Object, State, is_named, object_at}
use Rattle.blk_model.specs.Step.{step}
use Rattle.spec_image.specs.Image.{Image}
use Rattle.spec_format.specs.BlockFiles.{is_among}
use Rattle.spec_format.specs.Headers.{table_length}
use Rattle.spec_format.specs.Records as records
use Rattle.law_folder.specs.CommandLaws.{IsPlacedAsLive}
use Rattle.spec_folder.specs.Layout.{HoldsExcept, Layout, nodes_of}
use Rattle.spec_folder.specs.ListImages.{HasListAtRest}
use Rattle.spec_folder.specs.Loads.{Loaded, load, unchained_rule}
use Rattle.spec_folder.specs.Removal.{is_of_another, placed_doomed}
use Rattle.spec_folder.specs.Sound.{AreSealed, words_of}
use Rattle.spec_folder.specs.Tidy.{loaded_at}
use Rattle.spec_folder.specs.View.{store_of}
use Rattle.law_state.specs.Arranging.{LeavesFiles}
use Rattle.law_state.specs.CommandStates.{IsDoomOf}
use Rattle.law_state.specs.GroupLaws.{AreOut, at_without, gone_nodes, layout_less, owners_without}
use Rattle.law_state.specs.Keeping.{KeepsUncounted}

-- all items of a key are out of the list and of the chains, which are these now
abbrev pub IsWholeOut : State → Layout → List ℕ → (ℕ → List ℕ) → Image → Image → Type 0
IsWholeOut state layout key chains from image = AreOut state layout (is_of_another key) chains from image

-- the layout without the items of a key, with other chains
abbrev pub layout_without_key : State → Layout → List ℕ → (ℕ → List ℕ) → Layout
layout_without_key state layout key chains = layout_less layout (gone_nodes state layout (is_of_another key)) chains

-- the address words of what lies at the nodes of a key's items
abbrev pub words_of_key : State → Layout → List ℕ → List ℕ
words_of_key state layout key = flat_map words_of (loaded_at layout (gone_nodes state layout (is_of_another key)))

-- once an object that no handle names is out with its parts, the state with it doomed is kept, and its words are unlinked
abbrev pub WholeObjectsAreRemoved : Type 0
WholeObjectsAreRemoved = (state : State) (layout : Layout) (unlinked : List ℕ) (chains : ℕ → List ℕ) (from image : Image) (number : ℕ) (object : Object) → KeepsUncounted state layout unlinked from → object_at state number ≡ Some object → object.live ≡ true → is_named state number ≡ false
    → IsWholeOut state layout object.key chains from image → KeepsUncounted (doomed number state (Some object)) (layout_without_key state layout object.key chains) (words_of_key state layout object.key ++ unlinked) image

-- once an object that no handle names is out with its parts, the state after a DoomKey of it is kept but for the counters, and its words are unlinked
abbrev pub UnheldWholeDoomsEnd : Type 0
UnheldWholeDoomsEnd = (state : State) (moment : ℕ) (request : Request) (layout : Layout) (unlinked : List ℕ) (chains : ℕ → List ℕ) (from image : Image) (number : ℕ) (object : Object) → KeepsUncounted state layout unlinked from → refused moment request state ≡ None → IsDoomOf request state number
    → object_at state number ≡ Some object → object.live ≡ true → is_named state number ≡ false → IsWholeOut state layout object.key chains from image
    → KeepsUncounted (step state moment request).state (layout_without_key state layout object.key chains) (words_of_key state layout object.key ++ unlinked) image

-- An object that a handle names: its parts are removed, and its node and its record stay.

-- whether an item stays while the parts of a key are removed
abbrev pub is_no_part_of : List ℕ → Item → Bool
is_no_part_of key item = is_of_another key item || same_item (main key) item

-- the nodes of the parts of a key
abbrev pub part_nodes : State → Layout → List ℕ → List ℕ
part_nodes state layout key = gone_nodes state layout (is_no_part_of key)

-- the layout without the parts of a key, in which the node of its main item is that of a doomed object
abbrev pub layout_doomed_whole : State → Layout → ℕ → List ℕ → (ℕ → List ℕ) → Layout
layout_doomed_whole state layout number key chains = placed_doomed layout number (layout.place (main key)) (at_without layout (part_nodes state layout key)) chains (owners_without layout (part_nodes state layout key))

-- the address words of what lies at the nodes of a key's parts
abbrev pub words_of_parts : State → Layout → List ℕ → List ℕ
words_of_parts state layout key = flat_map words_of (loaded_at layout (part_nodes state layout key))

-- all items of a key are out of the list and of the chains, the record of its main item has state 2, and all others are as they were
pub record IsWholeUnchained (state : State) (layout : Layout) (key : List ℕ) (loaded : Loaded) (chains : ℕ → List ℕ) (from image : Image) : Type 0 where
  pub leaves : LeavesFiles from image
  pub list : HasListAtRest (nodes_of layout (filter (is_of_another key) state.uses)) image
  pub holds : HoldsExcept (is_among (gone_nodes state layout (is_of_another key))) (store_of image) state (record layout { chains = chains })
  pub loads : load (store_of image) (unchained_rule records.entry_doomed) (layout.place (main key)) ≡ Ok loaded
  pub chained : (bucket contents : ℕ) → bucket < table_length → is_among (chains bucket) contents ≡ true → is_among (layout.chains bucket) contents ≡ true
  pub out : (bucket contents : ℕ) → bucket < table_length → is_among (chains bucket) contents ≡ true → (node : ℕ) (other : Loaded) → is_among (gone_nodes state layout (is_of_another key)) node ≡ true → layout.at node ≡ Some other → (contents == other.contents) ≡ false
  pub sealed : (node : ℕ) (other : Loaded) → layout.at node ≡ Some other → is_among (part_nodes state layout key) node ≡ false → AreSealed from other → AreSealed image other

-- once an object with a handle is doomed and out with its parts, the state with it doomed is kept but for the counters, and the words of its parts are unlinked
abbrev pub WholeObjectsAreDoomed : Type 0
WholeObjectsAreDoomed = (state : State) (layout : Layout) (unlinked : List ℕ) (chains : ℕ → List ℕ) (from image : Image) (number : ℕ) (object : Object) (loaded : Loaded) → KeepsUncounted state layout unlinked from → IsPlacedAsLive state layout number object loaded → is_named state number ≡ true
    → IsWholeUnchained state layout object.key loaded chains from image → KeepsUncounted (doomed number state (Some object)) (layout_doomed_whole state layout number object.key chains) (words_of_parts state layout object.key ++ unlinked) image

-- once an object with a handle is doomed and out with its parts, the state after a Doom or a DoomKey of it is kept but for the counters, and the words of its
-- parts are unlinked
abbrev pub HeldWholeDoomsEnd : Type 0
HeldWholeDoomsEnd =
    (state : State) (moment : ℕ) (request : Request) (layout : Layout) (unlinked : List ℕ) (chains : ℕ → List ℕ) (from image : Image) (number : ℕ) (object : Object) (loaded : Loaded)
    → KeepsUncounted state layout unlinked from → refused moment request state ≡ None → IsDoomOf request state number
    → IsPlacedAsLive state layout number object loaded → is_named state number ≡ true → IsWholeUnchained state layout object.key loaded chains from image
    → KeepsUncounted (step state moment request).state (layout_doomed_whole state layout number object.key chains) (words_of_parts state layout object.key ++ unlinked) image

-- Eviction units.

-- once the object of the next eviction unit is out with its parts, the state without one eviction unit more is kept but for the counters, as in a Trim and
-- where space is made
abbrev pub WholeGroupsGo : Type 0
WholeGroupsGo = (state : State) (first : List Group) (layout : Layout) (unlinked : List ℕ) (chains : ℕ → List ℕ) (from image : Image) (number : ℕ) (object : Object) (parts : List ℕ) → KeepsUncounted (without first state) layout unlinked from → object_at (without first state) number ≡ Some object
    → object.live ≡ true → is_named (without first state) number ≡ false → IsWholeOut (without first state) layout object.key chains from image
    → KeepsUncounted (without (first ++ whole object.key parts ∷ []) state) (layout_without_key (without first state) layout object.key chains) (words_of_key (without first state) layout object.key ++ unlinked) image
