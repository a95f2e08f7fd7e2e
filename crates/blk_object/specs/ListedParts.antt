-- The parts of a key in the LRU list, and the search for the first of them.
use Rattle.std.specs.Prelude.{◌≡◌, ℕ, ◌<◌, List, [], ◌∷◌, ◌++◌, Bool, Option, None, Some, Ok, false, filter, true, if◌then◌else◌}
use Rattle.std.specs.List.{AllByRecursion}
use Rattle.std.specs.Option.{option_map, ForSome}
use Rattle.std.specs.Str.{bytes_eq}
use Rattle.spec_image.specs.Image.{Image}
use Rattle.blk_model.specs.Items.{Item, main, part}
use Rattle.blk_model.specs.Sizes.{part_count}
use Rattle.blk_model.specs.State.{State}
use Rattle.spec_format.specs.Address.{blocks_256, kind_of}
use Rattle.spec_format.specs.Names.{Name, child_name, read_name}
use Rattle.spec_format.specs.SparseIndex.{ParentIndex}
use Rattle.spec_folder.specs.Entries.{IsParent, IsPart, IsPlain, Role}
use Rattle.spec_folder.specs.Layout.{Layout, is_listed}
use Rattle.spec_folder.specs.Loads.{Loaded, Rule, load}
use Rattle.spec_folder.specs.View.{store_of, node_at}
use Rattle.blk_disk.specs.declared.tables.BlockFiles.{BlockFiles}
use Rattle.blk_disk.specs.Tables.{is_node_among, stands_among}
use Rattle.law_state.specs.PartlyOut.{KeepsPartlyOut}
use Rattle.law_state.specs.PartlyOutStops.{LeavesOtherKeys}
use Rattle.blk_chain.specs.Finding.{IsFound}
use Rattle.blk_chain.specs.Unlinking.{StandsBehind}
use Rattle.spec_folder.specs.Removal.{is_of_another}
use Rattle.spec_folder.specs.Searches.{bucket_of_key}
use Rattle.blk_entry.specs.Keys.{key_bytes}
use Rattle.blk_object.specs.NextItems.{LiesNext}
use Rattle.blk_object.specs.RemovingNext.{CountsLeft}
use Rattle.blk_object.specs.declared.listed_parts.ListedPart.{ListedPart}
use Rattle.spec_image.specs.Told.{Told}

-- What is read at a node.

-- the node loads as `loaded`, by some rule of recovery
pub record LoadsAt (node : ℕ) (loaded : Loaded) (image : Image) : Type 0 where
  pub rule : Rule
  pub loads : load (store_of image) rule node ≡ Ok loaded

-- P holds of whatever the folder loads at the node
abbrev pub ForLoadedAt : Told → (node : ℕ) → (Loaded → Type 0) → Type 0
ForLoadedAt told node P = ForSome told.files (λ image. (loaded : Loaded) → LoadsAt node loaded image → P loaded)

-- something is loaded at the node
abbrev pub LoadsSomeAt : (node : ℕ) → Image → Type 0
LoadsSomeAt node image = (loaded : Loaded) × LoadsAt node loaded image

-- the part's number, where a key reads as the name of a part of `key`
abbrev pub number_said : List ℕ → Option Name → Option ℕ
number_said key None = None
number_said key (Some name) = if bytes_eq name.key key then Some name.part else None

-- the number of the part of `key` that an entry of this role is, or None where it is none
abbrev pub number_of_role : List ℕ → Role → Option ℕ
number_of_role key IsPlain = None
number_of_role key (IsParent index) = None
number_of_role key (IsPart name index) = number_said key (Some name)

-- the record at address `entry` has as its key the name of part `number` of `key`
abbrev pub SaysPart : (entry : ℕ) (key : List ℕ) (number : ℕ) → Image → Type 0
SaysPart entry key number image = number_said key (read_name (key_bytes image entry)) ≡ Some number

-- the part of `key` that the node has, by what is loaded there, or None where it has none
abbrev pub part_loaded : List ℕ → ℕ → Loaded → Option ListedPart
part_loaded key node loaded = option_map (λ number. record { node = node; entry = loaded.contents; number = number }) (number_of_role key loaded.role)

-- the record of the part is the one that its node names
abbrev pub IsAtItsNode : Told → ListedPart → Type 0
IsAtItsNode told found = ForSome told.files (λ image. found.entry ≡ (node_at image found.node).contents)

-- the node and the record of a part that was found are valid, and its number is one that a part may have
pub record IsPartThere (files : BlockFiles) (found : ListedPart) : Type 0 where
  pub node : is_node_among files found.node ≡ true
  pub kind : kind_of found.entry ≡ blocks_256
  pub stands : stands_among files found.entry ≡ true
  pub number : found.number < part_count

-- What a search finds in a state.

-- whether an item is a part of a key
abbrev pub is_part_of : List ℕ → Item → Bool
is_part_of key (main other) = false
is_part_of key (part other n) = bytes_eq other key

-- none of some items is a part of a key
abbrev pub HaveNoPart : List ℕ → List Item → Type 0
HaveNoPart key items = AllByRecursion (λ item. is_part_of key item ≡ false) items

-- `found` is the first part of `key` among the items: its number, and the node and the record where it lies
pub record IsFirstPart (layout : Layout) (key : List ℕ) (items : List Item) (found : ListedPart) : Type 0 where
  pub passed : List Item
  pub behind : List Item
  pub split : items ≡ passed ++ part key found.number ∷ behind
  pub none : HaveNoPart key passed
  pub node_is : layout.place (part key found.number) ≡ found.node
  pub was : Loaded
  pub here : layout.at (layout.place (part key found.number)) ≡ Some was
  pub entry_is : was.contents ≡ found.entry

-- the answer of a search among the items: their first part of `key`, or None where they have none
abbrev pub IsFoundPart : Layout → List ℕ → List Item → Option ListedPart → Type 0
IsFoundPart layout key items None = HaveNoPart key items
IsFoundPart layout key items (Some found) = IsFirstPart layout key items found

-- `items` are those that are searched of all: all of them, or those after the item whose node this is
abbrev pub AreSearched : Layout → Option ℕ → (all items : List Item) → Type 0
AreSearched layout None all items = all ≡ items
AreSearched layout (Some node) all items = (first : List Item) × (item : Item) × (all ≡ first ++ item ∷ items) × (layout.place item ≡ node)

-- P holds, with the layout and the items to be searched, wherever a folder keeps a state, perhaps with some items out of list and chains
abbrev pub ForEachSearch : Option ℕ → Image → (Layout → List Item → Type 0) → Type 0
ForEachSearch from image P =
    (state : State) (layout : Layout) (keep : Item → Bool) (chains : ℕ → List ℕ) (unlinked : List ℕ) (items : List Item)
    → KeepsPartlyOut state layout keep chains unlinked image → AreSearched layout from (filter keep state.uses) items
    → P layout items

-- P holds of each such search of the list of the folder
abbrev pub ForSearch : Told → (from : Option ℕ) → (Layout → List Item → Type 0) → Type 0
ForSearch told from P = ForSome told.files (λ image. ForEachSearch from image P)

-- the node of the first of the items, or None where there are none
abbrev pub first_node : Layout → List Item → Option ℕ
first_node layout [] = None
first_node layout (item ∷ items) = Some (layout.place item)

-- The effect on a state that is kept.

-- when the main item of a key is out of list and chain, and the list has no part of the key any more, then all items of the key are out, and the index counts
-- the others
abbrev pub NoPartsLeftAreAllOut : Type 0
NoPartsLeftAreAllOut =
    (state : State) (layout : Layout) (keep : Item → Bool) (chains : ℕ → List ℕ) (unlinked key : List ℕ) (image : Image)
    → KeepsPartlyOut state layout keep chains unlinked image → CountsLeft state layout keep image → LeavesOtherKeys key keep → HaveNoPart key (filter keep state.uses)
    → KeepsPartlyOut state layout (is_of_another key) chains unlinked image × CountsLeft state layout (is_of_another key) image

-- the first part that a search of the list finds is listed and not out; with the record before it in its chain it may be removed next
abbrev pub FirstPartsLieNext : Type 0
FirstPartsLieNext =
    (state : State) (layout : Layout) (keep : Item → Bool) (chains : ℕ → List ℕ) (unlinked key : List ℕ) (from : Option ℕ) (items : List Item) (found : ListedPart) (before : Option ℕ) (prefix suffix : List ℕ) (image : Image)
    → KeepsPartlyOut state layout keep chains unlinked image → AreSearched layout from (filter keep state.uses) items → (first : IsFirstPart layout key items found)
    → StandsBehind (chains (bucket_of_key first.was.key)) found.entry before prefix suffix
    → LiesNext state layout keep chains (part key found.number) found.node found.entry before

-- the first part that a search of the list finds may be removed next, where a search for its name finds its record and the one before
abbrev pub FoundPartsLieNext : Type 0
FoundPartsLieNext =
    (state : State) (layout : Layout) (keep : Item → Bool) (chains : ℕ → List ℕ) (unlinked key : List ℕ) (from : Option ℕ) (items : List Item) (found : ListedPart) (name : List ℕ) (before : Option ℕ) (image : Image)
    → KeepsPartlyOut state layout keep chains unlinked image → AreSearched layout from (filter keep state.uses) items → (first : IsFirstPart layout key items found)
    → first.was.key ≡ name → IsFound name true found.entry before image
    → LiesNext state layout keep chains (part key found.number) found.node found.entry before

-- the record that a search for the name of a listed part finds is that of the part: no other record of the chain has this name
abbrev pub FoundNamesAreTheParts : Type 0
FoundNamesAreTheParts =
    (state : State) (layout : Layout) (keep : Item → Bool) (chains : ℕ → List ℕ) (unlinked key : List ℕ) (n : ℕ) (was : Loaded) (entry : ℕ) (before : Option ℕ) (image : Image)
    → KeepsPartlyOut state layout keep chains unlinked image → is_listed state (part key n) ≡ true → keep (part key n) ≡ true → layout.at (layout.place (part key n)) ≡ Some was
    → IsFound was.key true entry before image → entry ≡ was.contents

-- the name of a listed part is made of its key, the generation in the index of its parent (which may be out of the list) and its number
abbrev pub PartsHaveTheirNames : Type 0
PartsHaveTheirNames =
    (state : State) (layout : Layout) (keep : Item → Bool) (chains : ℕ → List ℕ) (unlinked key : List ℕ) (n : ℕ) (was main_was : Loaded) (index : ParentIndex) (image : Image)
    → KeepsPartlyOut state layout keep chains unlinked image → is_listed state (part key n) ≡ true → keep (part key n) ≡ true → layout.at (layout.place (part key n)) ≡ Some was
    → layout.at (layout.place (main key)) ≡ Some main_was → main_was.role ≡ IsParent index → was.key ≡ child_name key index.signature n
