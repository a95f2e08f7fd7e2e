-- A plain object that no handle names, and a part that is evicted alone: where each is removed, and what is kept then.
use Rattle.std.specs.Prelude.{◌≡◌, ℕ, List, [], ◌∷◌, ◌++◌, None, Some, false, is_some, not, slice_set, true}
use Rattle.blk_model.specs.Effects.{doomed}
use Rattle.blk_model.specs.Items.{Item, main, part, same_item}
use Rattle.blk_model.specs.Room.{Group, single, whole, without}
use Rattle.blk_model.specs.State.{IsValidState, Object, State, is_named, object_at, part_at}
use Rattle.spec_folder.specs.Removal.{without_items}
use Rattle.spec_image.specs.Image.{Image}
use Rattle.blk_model.specs.Holding.{rest}
use Rattle.spec_folder.specs.Layout.{Layout}
use Rattle.spec_folder.specs.Loads.{Loaded}
use Rattle.spec_folder.specs.Sound.{AreSealed, words_of}
use Rattle.law_state.specs.Arranging.{LeavesFiles}
use Rattle.law_state.specs.Changes.{Finds}
use Rattle.law_state.specs.Keeping.{KeepsUncounted}
use Rattle.blk_model.specs.Refusals.{refused}
use Rattle.blk_model.specs.Request.{Request}
use Rattle.blk_model.specs.Step.{step}
use Rattle.law_state.specs.CommandStates.{IsDoomOf}
use Rattle.law_state.specs.DoomLaws.{CanBeDoomed, IsUnchained, layout_doomed}
use Rattle.law_state.specs.CommandEnds.{without_part}
use Rattle.law_state.specs.RemovalLaws.{IsRemovalDone, IsUnlinking, IsWithout, chains_without, layout_removed}

-- the state without a part that is evicted alone has its object without the part, and is the one without the part's eviction unit
abbrev pub PartGoneIsWithout : Type 0
PartGoneIsWithout = (state : State) (number n : ℕ) (object : Object) → IsValidState state → object_at state number ≡ Some object → object.live ≡ true → is_some (part_at object n) ≡ true
    → IsWithout state (slice_set state.objects number (Some (without_part object n))) (λ item. not (same_item item (part object.key n))) (part object.key n)
    × (without_items state (slice_set state.objects number (Some (without_part object n))) (λ item. not (same_item item (part object.key n))) ≡ without (single object.key n ∷ []) state)

-- An object or a part that is removed: its item out of the list, and its record out of its chain.

-- an item is being removed: its node is out of the list, and its record is being unlinked; the chains are these now
pub record IsRemoving (layout : Layout) (item : Item) (was : Loaded) (chains : ℕ → List ℕ) (from image : Image) : Type 0 where
  pub here : layout.at (layout.place item) ≡ Some was
  pub between : Image
  pub unlisted : IsRemovalDone from (layout.place item) between
  pub unlinking : IsUnlinking layout chains between image

-- an item is removed: its node is out of the list and its record out of its chain, and nothing else has changed
pub record IsRemoved (layout : Layout) (item : Item) (was : Loaded) (from image : Image) : Type 0 where
  pub removing : IsRemoving layout item was (chains_without layout was.contents) from image
  pub leaves : LeavesFiles removing.between image
  pub sealed : (node : ℕ) (loaded : Loaded) → layout.at node ≡ Some loaded → AreSealed removing.between loaded → AreSealed image loaded

-- while the record of an object without parts and without a handle is unlinked, the durable contents with it doomed are held, before the word
-- that takes it out and from then on
abbrev pub RemovingFindsDoomed : Type 0
RemovingFindsDoomed = (state : State) (layout : Layout) (unlinked : List ℕ) (from image : Image) (number : ℕ) (object : Object) (was : Loaded) → KeepsUncounted state layout unlinked from → object_at state number ≡ Some object → object.live ≡ true → object.parts ≡ [] → is_named state number ≡ false
    → (IsRemoving layout (main object.key) was layout.chains from image → Finds (rest (doomed number state (Some object))) image) × (IsRemoving layout (main object.key) was (chains_without layout was.contents) from image → Finds (rest (doomed number state (Some object))) image)

-- once an object without parts and without a handle is removed, the state with it doomed is kept but for the counters, and its words are unlinked
abbrev pub DoomedObjectsAreRemoved : Type 0
DoomedObjectsAreRemoved =
    (state : State) (layout : Layout) (unlinked : List ℕ) (from image : Image) (number : ℕ) (object : Object) (was : Loaded)
    → KeepsUncounted state layout unlinked from → object_at state number ≡ Some object → object.live ≡ true → object.parts ≡ []
    → is_named state number ≡ false
    → IsRemoved layout (main object.key) was from image → KeepsUncounted (doomed number state (Some object)) (layout_removed layout (layout.place (main object.key)) was.contents) (words_of was ++ unlinked) image

-- while the record of a part that is evicted alone is unlinked, the durable contents without the part are held
abbrev pub RemovingFindsPartGone : Type 0
RemovingFindsPartGone = (state : State) (layout : Layout) (unlinked : List ℕ) (from image : Image) (number n : ℕ) (object : Object) (was : Loaded) → KeepsUncounted state layout unlinked from → object_at state number ≡ Some object → object.live ≡ true → is_some (part_at object n) ≡ true
    → (IsRemoving layout (part object.key n) was layout.chains from image → Finds (rest (without (single object.key n ∷ []) state)) image) × (IsRemoving layout (part object.key n) was (chains_without layout was.contents) from image → Finds (rest (without (single object.key n ∷ []) state)) image)

-- once a part that is evicted alone is removed, the state without it is kept but for the counters, and its words are unlinked
abbrev pub LonePartsAreRemoved : Type 0
LonePartsAreRemoved = (state : State) (layout : Layout) (unlinked : List ℕ) (from image : Image) (number n : ℕ) (object : Object) (was : Loaded) → KeepsUncounted state layout unlinked from → object_at state number ≡ Some object → object.live ≡ true → is_some (part_at object n) ≡ true
    → IsRemoved layout (part object.key n) was from image → KeepsUncounted (without (single object.key n ∷ []) state) (layout_removed layout (layout.place (part object.key n)) was.contents) (words_of was ++ unlinked) image

-- Doom and DoomKey of a plain object.

-- once an object without parts and without a handle is removed, the state after a DoomKey of it is kept but for the counters, and its words are unlinked
abbrev pub UnheldDoomsEnd : Type 0
UnheldDoomsEnd = (state : State) (moment : ℕ) (request : Request) (layout : Layout) (unlinked : List ℕ) (from image : Image) (number : ℕ) (object : Object) (was : Loaded) → KeepsUncounted state layout unlinked from → refused moment request state ≡ None → IsDoomOf request state number
    → object_at state number ≡ Some object → object.live ≡ true → object.parts ≡ [] → is_named state number ≡ false → IsRemoved layout (main object.key) was from image
    → KeepsUncounted (step state moment request).state (layout_removed layout (layout.place (main object.key)) was.contents) (words_of was ++ unlinked) image

-- once an object without parts, which a handle names, is out of the list and of its chain, with state 2, the state after a Doom or a DoomKey of it is kept but
-- for the counters
abbrev pub HeldDoomsEnd : Type 0
HeldDoomsEnd = (state : State) (moment : ℕ) (request : Request) (layout : Layout) (unlinked : List ℕ) (from between image : Image) (number : ℕ) (object : Object) (was : Loaded) → KeepsUncounted state layout unlinked from → refused moment request state ≡ None → IsDoomOf request state number
    → CanBeDoomed state layout number object was → IsRemovalDone from (layout.place (main object.key)) between → IsUnchained state layout (layout.place (main object.key)) was between image
    → KeepsUncounted (step state moment request).state (layout_doomed layout number (layout.place (main object.key)) was) unlinked image

-- Eviction units.

-- once the plain object of the next eviction unit is removed, the state without one eviction unit more is kept but for the counters
abbrev pub PlainGroupsGo : Type 0
PlainGroupsGo = (state : State) (first : List Group) (layout : Layout) (unlinked : List ℕ) (from image : Image) (number : ℕ) (object : Object) (parts : List ℕ) (was : Loaded) → KeepsUncounted (without first state) layout unlinked from → object_at (without first state) number ≡ Some object
    → object.live ≡ true → object.parts ≡ [] → is_named (without first state) number ≡ false → IsRemoved layout (main object.key) was from image
    → KeepsUncounted (without (first ++ whole object.key parts ∷ []) state) (layout_removed layout (layout.place (main object.key)) was.contents) (words_of was ++ unlinked) image

-- once a part that is the next eviction unit is removed, the state without one eviction unit more is kept but for the counters
abbrev pub LonePartsGo : Type 0
LonePartsGo = (state : State) (first : List Group) (layout : Layout) (unlinked : List ℕ) (from image : Image) (number n : ℕ) (object : Object) (was : Loaded) → KeepsUncounted (without first state) layout unlinked from → object_at (without first state) number ≡ Some object
    → object.live ≡ true → is_some (part_at object n) ≡ true → IsRemoved layout (part object.key n) was from image
    → KeepsUncounted (without (first ++ single object.key n ∷ []) state) (layout_removed layout (layout.place (part object.key n)) was.contents) (words_of was ++ unlinked) image
