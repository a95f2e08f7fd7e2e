-- Where each command may crash, at each word of its calls: accesses of items, dirty flags, removals and eviction units.
use Rattle.std.specs.Prelude.{◌≡◌, ◌⊎◌, ℕ, Bool, List, [], ◌∷◌, ◌++◌, None, Some, filter, false, not, if◌then◌else◌, nat_lt, true}
use Rattle.spec_image.specs.Image.{Image}
use Rattle.blk_model.specs.EvictionLaws.{EvictsFirst}
use Rattle.blk_model.specs.Items.{Item, key_of, main, part, same_item}
use Rattle.blk_model.specs.State.{IsValidState, Object, State, is_named, object_at}
use Rattle.blk_model.specs.Effects.{doomed, used_all}
use Rattle.blk_model.specs.Holding.{rest}
use Rattle.blk_model.specs.ListSteps.{dooms, uses_of}
use Rattle.blk_model.specs.Refusals.{refused}
use Rattle.blk_model.specs.Request.{IsRequest, Request, to_close, to_flush}
use Rattle.blk_model.specs.Room.{Group, single, whole, without}
use Rattle.spec_format.specs.BlockFiles.{HasSoundHeaders}
use Rattle.spec_folder.specs.Completion.{remove}
use Rattle.spec_folder.specs.Layout.{HoldsExcept, Layout, is_listed, nodes_of}
use Rattle.spec_folder.specs.ListImages.{HasListAtRest}
use Rattle.spec_folder.specs.ListPlans.{touch_writes, writes_of}
use Rattle.spec_folder.specs.ListSteps.{IsPartly, IsTouched}
use Rattle.spec_folder.specs.Removal.{is_of_another}
use Rattle.spec_folder.specs.View.{list_of, store_of}
use Rattle.law_folder.specs.CommandLaws.{marked}
use Rattle.law_state.specs.Changes.{Finds}
use Rattle.law_state.specs.Commands.{MayStop}
use Rattle.law_state.specs.CommandStates.{IsDoomOf, IsLastHandle, IsOpened, IsUnsettled, KeepsOtherKeys, Unsettles, amidst, in_order, with_room}
use Rattle.law_state.specs.Keeping.{KeepsUncounted}

-- Accesses.

-- an image is at a word of the access of an item's node
abbrev pub IsMidUse : Layout → Item → Image → Image → Type 0
IsMidUse layout item from image = IsTouched from (layout.place item) (touch_writes (layout.place item) (list_of from)) image

-- a request that dooms nothing, as an Open, a Read and the sparse reads, may crash at each word of the access of the next item that it accesses
abbrev pub UsesMayStop : Type 0
UsesMayStop = (state : State) (moment : ℕ) (request : Request) (first others : List Item) (item : Item) (layout : Layout) (unlinked : List ℕ) (from image : Image) → IsValidState state → refused moment request state ≡ None → dooms request state ≡ []
    → uses_of request state ≡ first ++ item ∷ others → KeepsUncounted (in_order (used_all first (with_room state moment request).uses) (with_room state moment request)) layout unlinked from
    → is_listed (in_order (used_all first (with_room state moment request).uses) (with_room state moment request)) item ≡ true → IsMidUse layout item from image → MayStop state moment request image

-- a request may crash at each word of the access of an item of the object that it has made dirty
abbrev pub UnsettledUsesMayStop : Type 0
UnsettledUsesMayStop = (state : State) (moment : ℕ) (request : Request) (number : ℕ) (object changed : Object) (uses : List Item) (item : Item) (layout : Layout) (unlinked : List ℕ) (from image : Image) → IsValidState state → Unsettles state moment request number object
    → IsUnsettled changed object.key → KeepsOtherKeys (with_room state moment request) object.key uses → key_of item ≡ object.key → KeepsUncounted (amidst (with_room state moment request) number changed uses) layout unlinked from
    → is_listed (amidst (with_room state moment request) number changed uses) item ≡ true → IsMidUse layout item from image → MayStop state moment request image

-- Dirty flags.

-- a request may crash while it makes its object dirty: with the object clean or dirty, the durable contents are held
abbrev pub UnsettlingMayStop : Type 0
UnsettlingMayStop = (state : State) (moment : ℕ) (request : Request) (number : ℕ) (object : Object) (image : Image) → IsValidState state → Unsettles state moment request number object
    → Finds (rest (with_room state moment request)) image ⊎ Finds (rest (marked (with_room state moment request) number object false)) image → MayStop state moment request image

-- a Close may crash while it makes its object clean
abbrev pub SettlingMayStop : Type 0
SettlingMayStop = (state : State) (moment handle number : ℕ) (object : Object) (image : Image) → IsValidState state → IsRequest (to_close handle) → IsLastHandle state handle number object
    → Finds (rest state) image ⊎ Finds (rest (marked state number object true)) image → MayStop state moment (to_close handle) image

-- a Flush may crash while it makes its object clean
abbrev pub CleaningMayStop : Type 0
CleaningMayStop = (state : State) (moment handle number : ℕ) (object : Object) (image : Image) → IsValidState state → IsRequest (to_flush handle) → IsOpened state handle number object
    → Finds (rest state) image ⊎ Finds (rest (marked state number object true)) image → MayStop state moment (to_flush handle) image

-- Removals.

-- an image is at a word of the removal of an item's node from the list
abbrev pub IsMidRemoval : Layout → Item → Image → Image → Type 0
IsMidRemoval layout item from image = IsPartly from (writes_of remove (layout.place item) (list_of from)) image

-- at each word of the removal of an object's main item the old durable contents are held, and from the second write on the durable contents with the
-- object doomed
abbrev pub DoomsFindEither : Type 0
DoomsFindEither = (state : State) (layout : Layout) (unlinked : List ℕ) (from image : Image) (number : ℕ) (object : Object) → KeepsUncounted state layout unlinked from → object_at state number ≡ Some object → object.live ≡ true
    → (removed : IsMidRemoval layout (main object.key) from image) → Finds (if nat_lt removed.made 2 then rest state else rest (doomed number state (Some object))) image

-- some items are still listed, among them all of other keys and not the main item of this key, and what lies at their nodes is there, whatever lies at the
-- others
pub record IsOut (state : State) (layout : Layout) (key : List ℕ) (keep : Item → Bool) (image : Image) : Type 0 where
  pub sound : HasSoundHeaders image
  pub except : ℕ → Bool
  pub holds : HoldsExcept except (store_of image) state layout
  pub out : keep (main key) ≡ false
  pub others : (item : Item) → is_of_another key item ≡ true → keep item ≡ true
  pub there : (item : Item) → is_listed state item ≡ true → keep item ≡ true → except (layout.place item) ≡ false
  pub list : HasListAtRest (nodes_of layout (filter keep state.uses)) image

-- once an object's main item is out of the list, the durable contents with the object doomed are held, while its record is unlinked and made doomed or freed
abbrev pub OutIsDoomed : Type 0
OutIsDoomed = (state : State) (layout : Layout) (number : ℕ) (object : Object) (keep : Item → Bool) (image : Image) → IsValidState state → object_at state number ≡ Some object → IsOut state layout object.key keep image → Finds (rest (doomed number state (Some object))) image

-- at each word of the removal of a part, once the main item is out of the list, the durable contents with the object doomed are held
abbrev pub DoomedPartsFindTheSame : Type 0
DoomedPartsFindTheSame = (state : State) (layout : Layout) (number : ℕ) (object : Object) (keep : Item → Bool) (n : ℕ) (from image : Image) → IsValidState state → object_at state number ≡ Some object → IsOut state layout object.key keep from
    → is_listed state (part object.key n) ≡ true → keep (part object.key n) ≡ true → IsMidRemoval layout (part object.key n) from image → Finds (rest (doomed number state (Some object))) image

-- a Doom or a DoomKey may crash where the durable contents before it are held, or those with its object doomed
abbrev pub DoomsMayStop : Type 0
DoomsMayStop = (state : State) (moment : ℕ) (request : Request) (number : ℕ) (object : Object) (before : Bool) (image : Image) → IsValidState state → IsRequest request → refused moment request state ≡ None → IsDoomOf request state number → object_at state number ≡ Some object
    → Finds (if before then rest state else rest (doomed number state (Some object))) image → MayStop state moment request image

-- Parts that are evicted alone.

-- at each word of the removal of a part the old durable contents are held, and from the second write on the durable contents without the part
abbrev pub PartsFindEither : Type 0
PartsFindEither = (state : State) (layout : Layout) (unlinked : List ℕ) (from image : Image) (key : List ℕ) (n : ℕ) → KeepsUncounted state layout unlinked from → is_listed state (part key n) ≡ true
    → (removed : IsMidRemoval layout (part key n) from image) → Finds (if nat_lt removed.made 2 then rest state else rest (without (single key n ∷ []) state)) image

-- all items but a part are listed, and what lies at their nodes is there, whatever lies at the part's
pub record IsPartOut (state : State) (layout : Layout) (key : List ℕ) (n : ℕ) (image : Image) : Type 0 where
  pub sound : HasSoundHeaders image
  pub except : ℕ → Bool
  pub holds : HoldsExcept except (store_of image) state layout
  pub there : (item : Item) → is_listed state item ≡ true → same_item (part key n) item ≡ false → except (layout.place item) ≡ false
  pub list : HasListAtRest (nodes_of layout (filter (λ item. not (same_item (part key n) item)) state.uses)) image

-- once a part is out of the list the durable contents without it are held
abbrev pub PartOutIsGone : Type 0
PartOutIsGone = (state : State) (layout : Layout) (key : List ℕ) (n : ℕ) (image : Image) → IsValidState state → IsPartOut state layout key n image → Finds (rest (without (single key n ∷ []) state)) image

-- Eviction units.

-- a request may crash while its next eviction unit is evicted: the durable contents before that are held, or those without that unit
abbrev pub GroupsMayStop : Type 0
GroupsMayStop = (state : State) (moment : ℕ) (request : Request) (first others : List Group) (group : Group) (before : Bool) (image : Image) → IsValidState state → EvictsFirst state moment request first (group ∷ others)
    → Finds (if before then rest (without first state) else rest (without (group ∷ []) (without first state))) image → MayStop state moment request image

-- a request may crash while its next eviction unit, an object that no handle names, is evicted as if it were doomed
abbrev pub WholeGroupsMayStop : Type 0
WholeGroupsMayStop = (state : State) (moment : ℕ) (request : Request) (first others : List Group) (number : ℕ) (object : Object) (parts : List ℕ) (before : Bool) (image : Image) → IsValidState state → EvictsFirst state moment request first (whole object.key parts ∷ others)
    → IsValidState (without first state) → object_at (without first state) number ≡ Some object → object.live ≡ true → is_named (without first state) number ≡ false
    → Finds (if before then rest (without first state) else rest (doomed number (without first state) (Some object))) image → MayStop state moment request image
