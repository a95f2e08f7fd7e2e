-- What a search for a key finds, in a kept state and while some of its items are out of list and chains.
use Rattle.std.specs.Prelude.{◌≡◌, ℕ, List, Bool, Option, Some, false, true}
use Rattle.spec_image.specs.Image.{Image}
use Rattle.blk_model.specs.Items.{Item, main, part}
use Rattle.blk_model.specs.State.{State}
use Rattle.spec_folder.specs.Layout.{Layout, is_listed}
use Rattle.spec_folder.specs.Loads.{Loaded}
use Rattle.blk_chain.specs.declared.found.Found.{Found}
use Rattle.blk_chain.specs.Finding.{CanBeSearched, IsAnswer}
use Rattle.law_state.specs.Keeping.{KeepsUncounted}
use Rattle.law_state.specs.PartlyOut.{KeepsPartlyOut}
use Rattle.blk_object.specs.Removing.{LiesBehind}
use Rattle.blk_object.specs.RemovingParts.{LiesLeft}

-- precondition of `find`: while some items of a state are out, the chain of each key can be searched
abbrev pub PartlyOutCanBeSearched : Type 0
PartlyOutCanBeSearched = (state : State) (layout : Layout) (keep : Item → Bool) (chains : ℕ → List ℕ) (unlinked : List ℕ) (image : Image) (key : List ℕ) → KeepsPartlyOut state layout keep chains unlinked image → CanBeSearched key image

-- an item has a record with the child flag: a part does, a main item doesn't
abbrev pub is_child_item : Item → Bool
is_child_item (main key) = false
is_child_item (part key n) = true

-- the search found the record of an item that isn't out; the answer names the record before it in its chain, or none if it is the first
pub record IsFoundLeft (state : State) (layout : Layout) (keep : Item → Bool) (chains : ℕ → List ℕ) (item : Item) (was : Loaded) (answer : Option Found) : Type 0 where
  pub found : Found
  pub is : answer ≡ Some found
  pub entry_is : was.contents ≡ found.entry
  pub lies : LiesLeft state layout keep chains item was found.before

-- while some items of a state are out, a search for the key of another item's record (with its child flag) finds that record
abbrev pub LeftItemsAreFound : Type 0
LeftItemsAreFound =
    (state : State) (layout : Layout) (keep : Item → Bool) (chains : ℕ → List ℕ) (unlinked : List ℕ) (item : Item) (was : Loaded) (answer : Option Found) (image : Image)
    → KeepsPartlyOut state layout keep chains unlinked image → is_listed state item ≡ true → keep item ≡ true → layout.at (layout.place item) ≡ Some was
    → IsAnswer was.key (is_child_item item) answer image → IsFoundLeft state layout keep chains item was answer

-- the search found the record of a listed item of a state; the answer names the record before it in its chain, or none if it is the first
pub record IsFoundListed (state : State) (layout : Layout) (item : Item) (was : Loaded) (answer : Option Found) : Type 0 where
  pub found : Found
  pub is : answer ≡ Some found
  pub entry_is : was.contents ≡ found.entry
  pub lies : LiesBehind state layout item was found.before

-- where a folder keeps a state, a search for the key of a listed item's record (with its child flag) finds that record
abbrev pub ListedItemsAreFound : Type 0
ListedItemsAreFound =
    (state : State) (layout : Layout) (unlinked : List ℕ) (item : Item) (was : Loaded) (answer : Option Found) (image : Image)
    → KeepsUncounted state layout unlinked image → is_listed state item ≡ true → layout.at (layout.place item) ≡ Some was
    → IsAnswer was.key (is_child_item item) answer image → IsFoundListed state layout item was answer
