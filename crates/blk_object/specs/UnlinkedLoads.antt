-- What lies at unlinked addresses, as the main item of an object whose parts are removed after it, still loads by itself while they are removed.
use Rattle.std.specs.Prelude.{◌≡◌, ℕ, List, ◌++◌, Bool, Ok, Option, Some, false, true}
use Rattle.spec_image.specs.Image.{Image}
use Rattle.blk_model.specs.Effects.{doomed}
use Rattle.blk_model.specs.Items.{Item}
use Rattle.blk_model.specs.State.{Object, State}
use Rattle.spec_format.specs.Claims.{Claim, claims_of_all, has_claim, repeats}
use Rattle.spec_folder.specs.Layout.{Layout}
use Rattle.spec_folder.specs.Loads.{Loaded, all_claims, load, unchained_rule}
use Rattle.spec_folder.specs.Removal.{is_of_another}
use Rattle.spec_folder.specs.Sound.{AreSealed}
use Rattle.spec_folder.specs.View.{store_of}
use Rattle.law_state.specs.HeldPartlyOut.{IsHeldOut}
use Rattle.law_state.specs.Keeping.{Keeps}
use Rattle.law_state.specs.PartlyOut.{KeepsPartlyOut}
use Rattle.law_state.specs.WholeRemovals.{layout_doomed_whole}
use Rattle.blk_object.specs.Counters.{AreCountedLess}
use Rattle.blk_object.specs.Freeing.{Removes}
use Rattle.blk_object.specs.Removing.{IsTakenOut}
use Rattle.blk_object.specs.RemovingNext.{CountsLeft}
use Rattle.blk_object.specs.RemovingParts.{LiesLeft}

-- the node loads as `loaded` by itself, with a record of this state word, and checksums match; its addresses are among the unlinked ones, and none occurs twice
pub record LiesUnlinked (unlinked : List ℕ) (state node : ℕ) (loaded : Loaded) (image : Image) : Type 0 where
  pub loads : load (store_of image) (unchained_rule state) node ≡ Ok loaded
  pub sealed : AreSealed image loaded
  pub among : (claim : Claim) → has_claim (all_claims loaded) claim ≡ true → has_claim (claims_of_all unlinked) claim ≡ true
  pub once : repeats (all_claims loaded) ≡ false

-- what loaded by itself from unlinked addresses still does
abbrev pub KeepsUnlinked : List ℕ → Image → Image → Type 0
KeepsUnlinked unlinked from image = (state node : ℕ) (loaded : Loaded) → LiesUnlinked unlinked state node loaded from → LiesUnlinked unlinked state node loaded image

-- taking an item out of list and chain keeps what loads from unlinked addresses
abbrev pub TakenOutItemsKeepUnlinked : Type 0
TakenOutItemsKeepUnlinked =
    (state : State) (layout : Layout) (keep : Item → Bool) (chains : ℕ → List ℕ) (unlinked : List ℕ) (item : Item) (was : Loaded) (before : Option ℕ) (from image : Image)
    → KeepsPartlyOut state layout keep chains unlinked from → LiesLeft state layout keep chains item was before
    → IsTakenOut (layout.place item) was.contents before from image → KeepsUnlinked unlinked from image

-- freeing other unlinked addresses keeps what loads from the unlinked addresses that are left
abbrev pub FreedWordsKeepUnlinked : Type 0
FreedWordsKeepUnlinked = (state : State) (layout : Layout) (keep : Item → Bool) (chains : ℕ → List ℕ) (words unlinked : List ℕ) (from image : Image) → Removes words from image
    → KeepsPartlyOut state layout keep chains (words ++ unlinked) from → KeepsUnlinked unlinked from image

-- lowering the counters of the index keeps what loads from unlinked addresses
abbrev pub CountedLessKeepsUnlinked : Type 0
CountedLessKeepsUnlinked = (charge : ℕ) (unlinked : List ℕ) (from image : Image) → AreCountedLess charge from image → KeepsUnlinked unlinked from image

-- once all items of an object that a handle names are out and its record is that of a doomed entry, the folder keeps the state in which it is doomed, if the
-- index counts the items that are left
abbrev pub HeldOutObjectsAreCounted : Type 0
HeldOutObjectsAreCounted = (state : State) (layout : Layout) (number : ℕ) (object : Object) (loaded : Loaded) (chains : ℕ → List ℕ) (unlinked : List ℕ) (image : Image) → IsHeldOut state layout number object loaded chains unlinked image
    → CountsLeft state layout (is_of_another object.key) image → Keeps (doomed number state (Some object)) (layout_doomed_whole state layout number object.key chains) unlinked image
