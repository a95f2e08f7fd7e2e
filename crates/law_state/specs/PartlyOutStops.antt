-- What is found while an object is removed part after part, and where a request may crash then.
use Rattle.std.specs.Prelude.{◌≡◌, ℕ, List, ◌∷◌, Bool, false, true}
use Rattle.std.specs.declared.option.Option.TheVariants.{None, Some}
use Rattle.blk_model.specs.Effects.{doomed}
use Rattle.blk_model.specs.EvictionLaws.{EvictsFirst}
use Rattle.blk_model.specs.Holding.{rest}
use Rattle.blk_model.specs.Items.{Item, main, part}
use Rattle.blk_model.specs.Refusals.{refused}
use Rattle.blk_model.specs.Request.{IsRequest, Request}
use Rattle.blk_model.specs.Room as room
use Rattle.blk_model.specs.Room.{Group, without}
use Rattle.blk_model.specs.State.{IsValidState, Object, State, is_named, object_at}
use Rattle.spec_image.specs.Footprint.{SameOutside, whole}
use Rattle.spec_image.specs.Image.{External, Image}
use Rattle.spec_format.specs.Address.{external, external_number, kind_of}
use Rattle.spec_format.specs.Growth.{HaveGrown}
use Rattle.spec_format.specs.BlockFiles.{KeepsHeaders}
use Rattle.spec_folder.specs.Layout.{Layout, is_listed}
use Rattle.spec_folder.specs.Removal.{is_of_another}
use Rattle.law_state.specs.Changes.{Finds}
use Rattle.law_state.specs.CommandStates.{IsDoomOf}
use Rattle.law_state.specs.Commands.{MayStop}
use Rattle.law_state.specs.PartlyOut.{KeepsPartlyOut, keeps_but}
use Rattle.law_state.specs.RemovalLaws.{IsRemovalDone, IsUnlinking}
use Rattle.law_state.specs.WordStops.{IsMidRemoval, IsOut}

-- the main item of a key is out, and no item of another key
pub record LeavesOtherKeys (key : List ℕ) (keep : Item → Bool) : Type 0 where
  pub out : keep (main key) ≡ false
  pub others : (item : Item) → is_of_another key item ≡ true → keep item ≡ true

-- the main item of a key is out, and no item of another key, once that item is out alone, and after that once any part of the key is too
abbrev pub ItemsOfAKeyLeaveOthers : Type 0
ItemsOfAKeyLeaveOthers = (key : List ℕ) → LeavesOtherKeys key (keeps_but (λ item. true) (main key)) × ((keep : Item → Bool) (n : ℕ) → LeavesOtherKeys key keep → LeavesOtherKeys key (keeps_but keep (part key n)))

-- once the main item of a key is out, what lies at the nodes of the items still listed is there, with the chains as they are (`IsOut`)
abbrev pub PartlyOutIsOut : Type 0
PartlyOutIsOut = (state : State) (layout : Layout) (key : List ℕ) (keep : Item → Bool) (chains : ℕ → List ℕ) (unlinked : List ℕ) (image : Image) → LeavesOtherKeys key keep → KeepsPartlyOut state layout keep chains unlinked image
    → IsOut state (record layout { chains = chains }) key keep image

-- the durable contents with an object doomed are held while its main item is out and its parts are removed one after another
abbrev pub PartlyOutFindsDoomed : Type 0
PartlyOutFindsDoomed = (state : State) (layout : Layout) (number : ℕ) (object : Object) (keep : Item → Bool) (chains : ℕ → List ℕ) (unlinked : List ℕ) (image : Image) → object_at state number ≡ Some object → LeavesOtherKeys object.key keep
    → KeepsPartlyOut state layout keep chains unlinked image → Finds (rest (doomed number state (Some object))) image

-- the durable contents with an object doomed are held at each word of the removal of its next part, once its main item is out
abbrev pub NextPartsFindDoomed : Type 0
NextPartsFindDoomed = (state : State) (layout : Layout) (number : ℕ) (object : Object) (keep : Item → Bool) (chains : ℕ → List ℕ) (unlinked : List ℕ) (n : ℕ) (from image : Image) → object_at state number ≡ Some object → LeavesOtherKeys object.key keep
    → KeepsPartlyOut state layout keep chains unlinked from → is_listed state (part object.key n) ≡ true → keep (part object.key n) ≡ true → IsMidRemoval layout (part object.key n) from image → Finds (rest (doomed number state (Some object))) image

-- the durable contents with an object doomed are held while the record of its next item, the main one or a part, is unlinked, before it has
abbrev pub UnlinkingItemsFindsDoomed : Type 0
UnlinkingItemsFindsDoomed = (state : State) (layout : Layout) (number : ℕ) (object : Object) (keep : Item → Bool) (chains : ℕ → List ℕ) (unlinked : List ℕ) (item : Item) (from between image : Image) → object_at state number ≡ Some object → LeavesOtherKeys object.key (keeps_but keep item)
    → KeepsPartlyOut state layout keep chains unlinked from → is_listed state item ≡ true → keep item ≡ true → IsRemovalDone from (layout.place item) between → IsUnlinking (record layout { chains = chains }) chains between image
    → Finds (rest (doomed number state (Some object))) image

-- the durable contents with an object doomed are held while blocks are freed, once its main item is out
abbrev pub FreeingFindsDoomed : Type 0
FreeingFindsDoomed = (state : State) (layout : Layout) (number : ℕ) (object : Object) (keep : Item → Bool) (chains : ℕ → List ℕ) (unlinked : List ℕ) (from image : Image) → object_at state number ≡ Some object → LeavesOtherKeys object.key keep
    → KeepsPartlyOut state layout keep chains unlinked from → HaveGrown from image → KeepsHeaders from image → Finds (rest (doomed number state (Some object))) image

-- the durable contents with an object doomed are held while the external file of an unlinked word is changed or deleted, once its main item is out
abbrev pub DeletingFindsDoomed : Type 0
DeletingFindsDoomed = (state : State) (layout : Layout) (number : ℕ) (object : Object) (keep : Item → Bool) (chains : ℕ → List ℕ) (w : ℕ) (unlinked : List ℕ) (from image : Image) → object_at state number ≡ Some object → LeavesOtherKeys object.key keep
    → KeepsPartlyOut state layout keep chains (w ∷ unlinked) from → kind_of w ≡ external → SameOutside (whole (External (external_number w))) from image → Finds (rest (doomed number state (Some object))) image

-- a Doom or a DoomKey may crash once its object's main item is out, whichever of the parts are
abbrev pub PartlyOutDoomsMayStop : Type 0
PartlyOutDoomsMayStop = (state : State) (moment : ℕ) (request : Request) (layout : Layout) (number : ℕ) (object : Object) (keep : Item → Bool) (chains : ℕ → List ℕ) (unlinked : List ℕ) (image : Image) → IsRequest request → refused moment request state ≡ None → IsDoomOf request state number
    → object_at state number ≡ Some object → LeavesOtherKeys object.key keep → KeepsPartlyOut state layout keep chains unlinked image → MayStop state moment request image

-- a request may crash while its next eviction unit, an object without a handle, is evicted, once the main item is out
abbrev pub PartlyOutGroupsMayStop : Type 0
PartlyOutGroupsMayStop = (state : State) (moment : ℕ) (request : Request) (first others : List Group) (layout : Layout) (number : ℕ) (object : Object) (parts : List ℕ) (keep : Item → Bool) (chains : ℕ → List ℕ) (unlinked : List ℕ) (image : Image) → IsValidState state
    → EvictsFirst state moment request first (room.whole object.key parts ∷ others) → object_at (without first state) number ≡ Some object → object.live ≡ true → is_named (without first state) number ≡ false → LeavesOtherKeys object.key keep
    → KeepsPartlyOut (without first state) layout keep chains unlinked image → MayStop state moment request image
