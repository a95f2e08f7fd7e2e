-- Items of a sparse object are removed one after another, and freed: the effect of each on the state that is kept.
use Rattle.std.specs.Prelude.{◌≡◌, ◌⊎◌, ℕ, List, [], ◌∷◌, ◌++◌, Bool, Ok, Option, Some, is_some, true}
use Rattle.spec_image.specs.Image.{Image}
use Rattle.blk_model.specs.Effects.{doomed}
use Rattle.blk_model.specs.Holding.{rest}
use Rattle.blk_model.specs.Items.{Item, main, part}
use Rattle.blk_model.specs.Room.{single, without}
use Rattle.blk_model.specs.State.{Object, State, object_at, part_at}
use Rattle.spec_format.specs.Records.{entry_normal}
use Rattle.spec_folder.specs.Layout.{Layout}
use Rattle.spec_folder.specs.Loads.{Loaded, load, unchained_rule}
use Rattle.spec_folder.specs.Sound.{AreSealed, words_of}
use Rattle.spec_folder.specs.View.{store_of}
use Rattle.law_state.specs.Changes.{Finds}
use Rattle.law_state.specs.Keeping.{KeepsUncounted}
use Rattle.law_state.specs.PartlyOut.{KeepsPartlyOut, chains_but, keeps_but}
use Rattle.law_state.specs.PartlyOutStops.{LeavesOtherKeys}
use Rattle.blk_object.specs.Removing.{IsBeingUnlinked, IsGoingOut, IsTakenOut, LiesBehind, MayGoOut}

-- an item that isn't out lies at its node as `was`, and the record before its own in the chain (of those as they are now) is this one, or None if it is the
-- first
pub record LiesLeft (state : State) (layout : Layout) (keep : Item → Bool) (chains : ℕ → List ℕ) (item : Item) (was : Loaded) (before : Option ℕ) : Type 0 where
  pub stays : keep item ≡ true
  pub lies : LiesBehind state (record layout { chains = chains }) item was before

-- an item that isn't out may be removed, with the record before its own
abbrev pub LeftItemsMayGoOut : Type 0
LeftItemsMayGoOut =
    (state : State) (layout : Layout) (keep : Item → Bool) (chains : ℕ → List ℕ) (unlinked : List ℕ) (item : Item) (was : Loaded) (before : Option ℕ) (from : Image)
    → KeepsPartlyOut state layout keep chains unlinked from → LiesLeft state layout keep chains item was before
    → MayGoOut (layout.place item) was.contents before from

-- once an item is taken out of list and chain, the state is kept with one item more out, whose addresses are unlinked
abbrev pub TakenOutItemsAreOut : Type 0
TakenOutItemsAreOut =
    (state : State) (layout : Layout) (keep : Item → Bool) (chains : ℕ → List ℕ) (unlinked : List ℕ) (item : Item) (was : Loaded) (before : Option ℕ) (from image : Image)
    → KeepsPartlyOut state layout keep chains unlinked from → LiesLeft state layout keep chains item was before
    → IsTakenOut (layout.place item) was.contents before from image → KeepsPartlyOut state layout (keeps_but keep item) (chains_but chains was.contents) (words_of was ++ unlinked) image

-- once an item is taken out of list and chain, what lay at its node still loads by itself, and its checksums match
abbrev pub TakenOutItemsLoad : Type 0
TakenOutItemsLoad =
    (state : State) (layout : Layout) (keep : Item → Bool) (chains : ℕ → List ℕ) (unlinked : List ℕ) (item : Item) (was : Loaded) (before : Option ℕ) (from image : Image)
    → KeepsPartlyOut state layout keep chains unlinked from → LiesLeft state layout keep chains item was before
    → IsTakenOut (layout.place item) was.contents before from image → (load (store_of image) (unchained_rule entry_normal) (layout.place item) ≡ Ok was) × AreSealed image was

-- while the record of an item is unlinked, after which no main item of the object is left, recovery gives the durable contents of the state with the object
-- doomed
abbrev pub UnlinkedItemsFindDoomed : Type 0
UnlinkedItemsFindDoomed =
    (state : State) (layout : Layout) (keep : Item → Bool) (chains : ℕ → List ℕ) (unlinked : List ℕ) (item : Item) (was : Loaded) (before : Option ℕ) (number : ℕ) (object : Object) (from image : Image)
    → KeepsPartlyOut state layout keep chains unlinked from → LiesLeft state layout keep chains item was before → object_at state number ≡ Some object → LeavesOtherKeys object.key (keeps_but keep item)
    → IsBeingUnlinked (layout.place item) was.contents before from image → Finds (rest (doomed number state (Some object))) image

-- while a part of an object is removed after its main item, recovery gives the durable contents of the state with the object doomed
abbrev pub GoingPartsFindDoomed : Type 0
GoingPartsFindDoomed =
    (state : State) (layout : Layout) (keep : Item → Bool) (chains : ℕ → List ℕ) (unlinked : List ℕ) (n : ℕ) (was : Loaded) (before : Option ℕ) (number : ℕ) (object : Object) (from image : Image)
    → KeepsPartlyOut state layout keep chains unlinked from → LiesLeft state layout keep chains (part object.key n) was before → object_at state number ≡ Some object → LeavesOtherKeys object.key keep
    → IsGoingOut (layout.place (part object.key n)) was.contents before from image → Finds (rest (doomed number state (Some object))) image

-- while the main item of a live object is removed before its parts, recovery gives the durable contents of the state before, or of that with the object doomed
abbrev pub GoingMainsFindEither : Type 0
GoingMainsFindEither = (state : State) (layout : Layout) (unlinked : List ℕ) (was : Loaded) (before : Option ℕ) (number : ℕ) (object : Object) (from image : Image) → KeepsUncounted state layout unlinked from → LiesBehind state layout (main object.key) was before
    → object_at state number ≡ Some object → object.live ≡ true → IsGoingOut (layout.place (main object.key)) was.contents before from image → Finds (rest state) image ⊎ Finds (rest (doomed number state (Some object))) image

-- while a single part of a live object is removed, recovery gives the durable contents of the state before, or of that without the part
abbrev pub GoingLonePartsFindEither : Type 0
GoingLonePartsFindEither = (state : State) (layout : Layout) (unlinked : List ℕ) (n : ℕ) (was : Loaded) (before : Option ℕ) (number : ℕ) (object : Object) (from image : Image) → KeepsUncounted state layout unlinked from → LiesBehind state layout (part object.key n) was before
    → object_at state number ≡ Some object → object.live ≡ true → is_some (part_at object n) ≡ true → IsGoingOut (layout.place (part object.key n)) was.contents before from image → Finds (rest state) image ⊎ Finds (rest (without (single object.key n ∷ []) state)) image
