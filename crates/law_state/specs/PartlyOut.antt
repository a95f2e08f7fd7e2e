-- Items are removed one after another, each freed after it, while others of their object are still listed: what the folder keeps between, where no state is
-- kept.
use Rattle.std.specs.Prelude.{◌≡◌, ℕ, ◌<◌, List, [], ◌∷◌, ◌++◌, Bool, true, false, ◌==◌, ◌&&◌, filter, not}
use Rattle.std.specs.List.{AllByRecursion}
use Rattle.std.specs.List.Sorted.{IsPermutation}
use Rattle.std.specs.declared.option.Option.{Option}
use Rattle.std.specs.declared.option.Option.TheVariants.{None, Some}
use Rattle.blk_model.specs.Items.{Item, same_item}
use Rattle.blk_model.specs.Refusals.{refused}
use Rattle.blk_model.specs.Request.{Request}
use Rattle.blk_model.specs.Room.{Group, whole, without}
use Rattle.blk_model.specs.State.{State, Object, IsValidState, is_named, object_at}
use Rattle.blk_model.specs.Step.{step}
use Rattle.spec_image.specs.Image.{Image}
use Rattle.spec_format.specs.BlockFiles.{is_among, stands_in, HasSoundHeaders}
use Rattle.spec_format.specs.Claims.{Claim, claims_of_all, has_claim, repeats}
use Rattle.spec_format.specs.Headers.{table_length}
use Rattle.spec_folder.specs.Layout.{HoldsExcept, IsLayoutOf, Layout, is_listed, nodes_of}
use Rattle.spec_folder.specs.ListImages.{HasListAtRest}
use Rattle.spec_folder.specs.Loads.{Loaded}
use Rattle.spec_folder.specs.Removal.{is_of_another, without_items}
use Rattle.spec_folder.specs.Sound.{AreSealed, words_of}
use Rattle.spec_folder.specs.Tidy.{doomed_nodes, loaded_at}
use Rattle.spec_folder.specs.View.{store_of}
use Rattle.law_state.specs.Arranging.{LeavesFiles}
use Rattle.law_state.specs.Changes.{ChangesOnly, RemovesAllocation, RemovesExternal}
use Rattle.law_state.specs.CommandStates.{IsDoomOf}
use Rattle.law_state.specs.GroupLaws.{IsLess, gone_nodes, layout_less, owners_without}
use Rattle.law_state.specs.Keeping.{AreFiles, AreOwners, IsInSession, KeepsUncounted, words_in_use}
use Rattle.law_state.specs.RemovalLaws.{IsRemovalDone, IsUnlinking}

-- the nodes of the items that are still listed, and of the doomed objects
abbrev pub left_nodes : State → Layout → (Item → Bool) → List ℕ → List ℕ
left_nodes state layout keep numbers = nodes_of layout (filter keep state.uses) ++ doomed_nodes layout numbers

-- of a state that was kept the items that aren't kept are out of the list and of the chains, which are these; what lies at the other nodes is there, and maps,
-- counters and external files are those of its words and of the unlinked ones, which name what has no owner or is out
pub record KeepsPartlyOut (state : State) (layout : Layout) (keep : Item → Bool) (chains : ℕ → List ℕ) (unlinked : List ℕ) (image : Image) : Type 0 where
  pub valid : IsValidState state
  pub sound : HasSoundHeaders image
  pub lies : IsLayoutOf state layout
  pub list : HasListAtRest (nodes_of layout (filter keep state.uses)) image
  pub holds : HoldsExcept (is_among (gone_nodes state layout keep)) (store_of image) state (record layout { chains = chains })
  pub chained : (bucket contents : ℕ) → bucket < table_length → is_among (chains bucket) contents ≡ true → is_among (layout.chains bucket) contents ≡ true
  pub out : (bucket contents : ℕ) → bucket < table_length → is_among (chains bucket) contents ≡ true → (node : ℕ) (loaded : Loaded) → is_among (gone_nodes state layout keep) node ≡ true → layout.at node ≡ Some loaded → (contents == loaded.contents) ≡ false
  pub numbers : List ℕ
  pub owners : AreOwners state layout numbers
  pub files : AreFiles image (words_in_use unlinked (loaded_at layout (left_nodes state layout keep numbers)))
  pub stand : AllByRecursion (λ w. stands_in image w ≡ true) unlinked
  pub free : (claim : Claim) → has_claim (claims_of_all unlinked) claim ≡ true → owners_without layout (gone_nodes state layout keep) claim ≡ None
  pub single : repeats (claims_of_all unlinked) ≡ false
  pub sealed : (node : ℕ) (loaded : Loaded) → layout.at node ≡ Some loaded → is_among (gone_nodes state layout keep) node ≡ false → AreSealed image loaded
  pub session : IsInSession image state layout

-- a state that is kept is one of which no item is out
abbrev pub KeptStatesArePartlyOut : Type 0
KeptStatesArePartlyOut = (state : State) (layout : Layout) (unlinked : List ℕ) (image : Image) → KeepsUncounted state layout unlinked image → KeepsPartlyOut state layout (λ item. true) layout.chains unlinked image

-- once the items that are out leave a state without them, that state is kept, with those of their words unlinked that aren't freed
abbrev pub PartlyOutEndsKept : Type 0
PartlyOutEndsKept = (state : State) (layout : Layout) (unlinked : List ℕ) (objects : List (Option Object)) (keep : Item → Bool) (chains : ℕ → List ℕ) (image : Image) → KeepsPartlyOut state layout keep chains unlinked image → IsLess state objects keep
    → KeepsUncounted (without_items state objects keep) (layout_less layout (gone_nodes state layout keep) chains) unlinked image

-- Between.

-- whether an item stays that stayed before, but for one
abbrev pub keeps_but : (Item → Bool) → Item → Item → Bool
keeps_but keep item other = keep other && not (same_item item other)

-- the chains without one record
abbrev pub chains_but : (ℕ → List ℕ) → ℕ → ℕ → List ℕ
chains_but chains contents bucket = filter (λ w. not (w == contents)) (chains bucket)

-- a listed item is removed: its node is out of the list and its record out of its chain, and nothing else has changed
pub record IsOneMoreOut (layout : Layout) (chains : ℕ → List ℕ) (item : Item) (was : Loaded) (from image : Image) : Type 0 where
  pub here : layout.at (layout.place item) ≡ Some was
  pub between : Image
  pub unlisted : IsRemovalDone from (layout.place item) between
  pub unlinking : IsUnlinking (record layout { chains = chains }) (chains_but chains was.contents) between image
  pub leaves : LeavesFiles between image
  pub sealed : (node : ℕ) (loaded : Loaded) → layout.at node ≡ Some loaded → AreSealed between loaded → AreSealed image loaded

-- once a listed item is removed while others are out, it is out too, and its words are unlinked
abbrev pub OneMoreGoesOut : Type 0
OneMoreGoesOut = (state : State) (layout : Layout) (keep : Item → Bool) (chains : ℕ → List ℕ) (unlinked : List ℕ) (item : Item) (was : Loaded) (from image : Image) → KeepsPartlyOut state layout keep chains unlinked from → is_listed state item ≡ true → keep item ≡ true
    → IsOneMoreOut layout chains item was from image → KeepsPartlyOut state layout (keeps_but keep item) (chains_but chains was.contents) (words_of was ++ unlinked) image

-- unlinked blocks may be freed while some items are out
abbrev pub BlocksAreFreedPartlyOut : Type 0
BlocksAreFreedPartlyOut =
    (state : State) (layout : Layout) (keep : Item → Bool) (chains : ℕ → List ℕ) (w : ℕ) (unlinked : List ℕ) (from image : Image)
    → KeepsPartlyOut state layout keep chains (w ∷ unlinked) from → RemovesAllocation from w image
    → KeepsPartlyOut state layout keep chains unlinked image

-- an unlinked external file may be deleted while some items are out
abbrev pub FilesAreDeletedPartlyOut : Type 0
FilesAreDeletedPartlyOut =
    (state : State) (layout : Layout) (keep : Item → Bool) (chains : ℕ → List ℕ) (w : ℕ) (unlinked : List ℕ) (from image : Image)
    → KeepsPartlyOut state layout keep chains (w ∷ unlinked) from → RemovesExternal from w image
    → KeepsPartlyOut state layout keep chains unlinked image

-- the unlinked words may be put in any order while some items are out
abbrev pub PartlyOutInAnyOrder : Type 0
PartlyOutInAnyOrder =
    (state : State) (layout : Layout) (keep : Item → Bool) (chains : ℕ → List ℕ) (unlinked left : List ℕ) (image : Image)
    → KeepsPartlyOut state layout keep chains unlinked image → IsPermutation unlinked left
    → KeepsPartlyOut state layout keep chains left image

-- what is out may change, in its blocks and external files or in unlinked ones, as where its record gets state 2
abbrev pub WhatIsOutMayChange : Type 0
WhatIsOutMayChange = (touched : Claim → Bool) (state : State) (layout : Layout) (keep : Item → Bool) (chains : ℕ → List ℕ) (unlinked : List ℕ) (from image : Image) → KeepsPartlyOut state layout keep chains unlinked from → ChangesOnly touched from image
    → ((claim : Claim) (node : ℕ) → layout.owner claim ≡ Some node → is_among (gone_nodes state layout keep) node ≡ false → touched claim ≡ false) → KeepsPartlyOut state layout keep chains unlinked image

-- which items are out is said by the listed ones alone: whether another item stays doesn't matter
abbrev pub OnlyListedAreOut : Type 0
OnlyListedAreOut =
    (state : State) (layout : Layout) (keep other : Item → Bool) (chains : ℕ → List ℕ) (unlinked : List ℕ) (image : Image)
    → KeepsPartlyOut state layout keep chains unlinked image → ((item : Item) → is_listed state item ≡ true → keep item ≡ other item)
    → KeepsPartlyOut state layout other chains unlinked image

-- Where all items of an object that no handle names are out, and freed or not.

-- the state after a DoomKey of an object without a handle is kept but for the counters once all its items are out, freed or not
abbrev pub UnheldOutDoomsEnd : Type 0
UnheldOutDoomsEnd = (state : State) (moment : ℕ) (request : Request) (layout : Layout) (unlinked : List ℕ) (chains : ℕ → List ℕ) (image : Image) (number : ℕ) (object : Object) → refused moment request state ≡ None → IsDoomOf request state number
    → object_at state number ≡ Some object → object.live ≡ true → is_named state number ≡ false → KeepsPartlyOut state layout (is_of_another object.key) chains unlinked image
    → KeepsUncounted (step state moment request).state (layout_less layout (gone_nodes state layout (is_of_another object.key)) chains) unlinked image

-- the state without one eviction unit more is kept but for the counters once all items of the unit's object, which has no handle, are out, freed or not
abbrev pub OutGroupsAreGone : Type 0
OutGroupsAreGone =
    (state : State) (first : List Group) (layout : Layout) (unlinked : List ℕ) (chains : ℕ → List ℕ) (image : Image) (number : ℕ) (object : Object) (parts : List ℕ)
    → object_at (without first state) number ≡ Some object → object.live ≡ true → is_named (without first state) number ≡ false
    → KeepsPartlyOut (without first state) layout (is_of_another object.key) chains unlinked image
    → KeepsUncounted (without (first ++ whole object.key parts ∷ []) state) (layout_less layout (gone_nodes (without first state) layout (is_of_another object.key)) chains) unlinked image
