-- Several items are removed from the LRU list and unlinked from the chains, as an object with its parts: their words are unlinked then.
use Rattle.std.specs.Prelude.{◌≡◌, ℕ, ◌<◌, List, ◌++◌, Bool, true, false, not, ◌==◌, filter, if◌then◌else◌}
use Rattle.std.specs.List.{flat_map}
use Rattle.std.specs.Option.{option_map_or}
use Rattle.std.specs.declared.option.Option.{Option}
use Rattle.std.specs.declared.option.Option.TheVariants.{None, Some}
use Rattle.blk_model.specs.Items.{Item}
use Rattle.blk_model.specs.State.{State, Object, IsValidState, object_at}
use Rattle.blk_model.specs.Totals.{is_doomed_slot}
use Rattle.spec_image.specs.Image.{Image}
use Rattle.spec_format.specs.BlockFiles.{is_among}
use Rattle.spec_format.specs.Claims.{Claim}
use Rattle.spec_format.specs.Headers.{table_length}
use Rattle.spec_folder.specs.Layout.{HoldsExcept, Layout, nodes_of}
use Rattle.spec_folder.specs.ListImages.{HasListAtRest}
use Rattle.spec_folder.specs.Loads.{Loaded}
use Rattle.spec_folder.specs.Removal.{ListsLess, placed_less, without_items}
use Rattle.spec_folder.specs.Sound.{AreSealed, words_of}
use Rattle.spec_folder.specs.Tidy.{loaded_at}
use Rattle.spec_folder.specs.View.{store_of}
use Rattle.law_state.specs.Arranging.{LeavesFiles}
use Rattle.law_state.specs.Keeping.{KeepsUncounted}

-- the nodes of the listed items that aren't kept
abbrev pub gone_nodes : State → Layout → (Item → Bool) → List ℕ
gone_nodes state layout keep = nodes_of layout (filter (λ item. not (keep item)) state.uses)

-- what a layout has at its nodes, but for those that are removed
abbrev pub at_without : Layout → List ℕ → ℕ → Option Loaded
at_without layout gone node = if is_among gone node then None else layout.at node

-- the owners of a layout, but that what was of removed nodes has no owner
abbrev pub owners_without : Layout → List ℕ → Claim → Option ℕ
owners_without layout gone claim = if option_map_or (is_among gone) (layout.owner claim) false then None else layout.owner claim

-- the layout without the removed nodes, with other chains
abbrev pub layout_less : Layout → List ℕ → (ℕ → List ℕ) → Layout
layout_less layout gone chains = placed_less layout (at_without layout gone) chains (owners_without layout gone)

-- objects for a state without some items: it is valid, none is doomed in it that wasn't, and each dirty one was dirty
pub record IsLess (state : State) (objects : List (Option Object)) (keep : Item → Bool) : Type 0 where
  pub lists : ListsLess state objects keep
  pub valid : IsValidState (without_items state objects keep)
  pub dead : (number : ℕ) → is_doomed_slot (object_at (without_items state objects keep) number) ≡ is_doomed_slot (object_at state number)
  pub unsettled : (number : ℕ) (object : Object) → object_at (without_items state objects keep) number ≡ Some object → object.live ≡ true → object.settled ≡ false
      → (was : Object) × (object_at state number ≡ Some was) × (was.key ≡ object.key) × (was.live ≡ true) × (was.settled ≡ false)

-- the nodes of the items that aren't kept are out of the list and their records out of the chains, and all others are as they were
pub record AreOut (state : State) (layout : Layout) (keep : Item → Bool) (chains : ℕ → List ℕ) (from image : Image) : Type 0 where
  pub leaves : LeavesFiles from image
  pub list : HasListAtRest (nodes_of layout (filter keep state.uses)) image
  pub holds : HoldsExcept (is_among (gone_nodes state layout keep)) (store_of image) state (record layout { chains = chains })
  pub chained : (bucket contents : ℕ) → bucket < table_length → is_among (chains bucket) contents ≡ true → is_among (layout.chains bucket) contents ≡ true
  pub out : (bucket contents : ℕ) → bucket < table_length → is_among (chains bucket) contents ≡ true → (node : ℕ) (loaded : Loaded) → is_among (gone_nodes state layout keep) node ≡ true → layout.at node ≡ Some loaded → (contents == loaded.contents) ≡ false
  pub sealed : (node : ℕ) (loaded : Loaded) → layout.at node ≡ Some loaded → is_among (gone_nodes state layout keep) node ≡ false → AreSealed from loaded → AreSealed image loaded

-- once some items are out of the list and of the chains, the state without them is kept, and their words are unlinked
abbrev pub GoneItemsAreUnlinked : Type 0
GoneItemsAreUnlinked = (state : State) (layout : Layout) (unlinked : List ℕ) (objects : List (Option Object)) (keep : Item → Bool) (chains : ℕ → List ℕ) (from image : Image) → KeepsUncounted state layout unlinked from → IsLess state objects keep → AreOut state layout keep chains from image
    → KeepsUncounted (without_items state objects keep) (layout_less layout (gone_nodes state layout keep) chains) (flat_map words_of (loaded_at layout (gone_nodes state layout keep)) ++ unlinked) image
