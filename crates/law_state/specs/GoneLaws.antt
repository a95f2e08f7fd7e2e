-- When a doomed object leaves the state its addresses become unlinked (allocated, named by nothing). Nothing is written for that; they are freed afterwards.
use Rattle.std.specs.Prelude.{ℕ, List, ◌++◌, if◌then◌else◌}
use Rattle.std.specs.declared.option.Option.{Option}
use Rattle.std.specs.declared.option.Option.TheVariants.{None}
use Rattle.blk_model.specs.Effects.{with_slot}
use Rattle.blk_model.specs.State.{State, Object, IsValidState}
use Rattle.spec_image.specs.Image.{Image}
use Rattle.spec_format.specs.Claims.{Claim}
use Rattle.law_folder.specs.CommandLaws.{IsPlacedAsDoomed}
use Rattle.spec_folder.specs.Layout.{Layout, emptied_at}
use Rattle.spec_folder.specs.Loads.{Loaded}
use Rattle.spec_folder.specs.Sound.{words_of}
use Rattle.law_state.specs.CommandStates.{with_names}
use Rattle.law_state.specs.Keeping.{Keeps, KeepsUncounted}
use Rattle.law_state.specs.ObjectLaws.{is_owned_by}

-- the owners of a layout, but that what was a node's has no owner
abbrev pub owner_without : Layout → ℕ → Claim → Option ℕ
owner_without layout node claim = if is_owned_by node (layout.owner claim) then None else layout.owner claim

-- the layout with nothing at a node, and what was the node's without an owner
abbrev pub layout_without : Layout → ℕ → Layout
layout_without layout node = emptied_at layout node (owner_without layout node)

-- once a doomed object has left the state, with its handle names, the same folder keeps the state without it, and its addresses are unlinked
abbrev pub GoneObjectsAreUnlinked : Type 0
GoneObjectsAreUnlinked = (state : State) (layout : Layout) (unlinked : List ℕ) (image : Image) (number : ℕ) (object : Object) (was : Loaded) (names : List (Option ℕ)) → KeepsUncounted state layout unlinked image → IsPlacedAsDoomed state layout number object was
    → IsValidState (with_names names (with_slot number None state)) → KeepsUncounted (with_names names (with_slot number None state)) (layout_without layout (layout.place_of_doomed number)) (words_of was ++ unlinked) image

-- as `GoneObjectsAreUnlinked`, in a folder that was counted: it counts right still, as a doomed object is in none of the index's counters
abbrev pub GoneObjectsAreNotCounted : Type 0
GoneObjectsAreNotCounted = (state : State) (layout : Layout) (unlinked : List ℕ) (image : Image) (number : ℕ) (object : Object) (was : Loaded) (names : List (Option ℕ)) → Keeps state layout unlinked image → IsPlacedAsDoomed state layout number object was
    → IsValidState (with_names names (with_slot number None state)) → Keeps (with_names names (with_slot number None state)) (layout_without layout (layout.place_of_doomed number)) (words_of was ++ unlinked) image
