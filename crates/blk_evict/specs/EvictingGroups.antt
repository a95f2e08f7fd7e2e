-- An eviction unit is removed from a folder: what its item is, by its record, and what is left.
use Rattle.std.specs.Prelude.{◌≡◌, ◌==◌, ℕ, Bool, List, [], ◌∷◌, if◌then◌else◌, length, map, sum_by, take, true}
use Rattle.std.specs.List.{flat_map}
use Rattle.blk_script.specs.Reply.{evicted_line}
use Rattle.std.specs.declared.option.Option.TheVariants.{Some}
use Rattle.spec_image.specs.Image.{Image}
use Rattle.blk_model.specs.Items.{Item, part}
use Rattle.blk_model.specs.Room.{Group, items_of_group, without}
use Rattle.blk_model.specs.State.{State}
use Rattle.spec_format.specs.Records.{child, parent}
use Rattle.spec_folder.specs.Entries.{IsParent, IsPart, IsPlain, Role}
use Rattle.spec_folder.specs.Found.{charge_of}
use Rattle.spec_folder.specs.Layout.{Layout, is_listed}
use Rattle.spec_folder.specs.Loads.{Loaded}
use Rattle.blk_entry.specs.Keys.{key_bytes}
use Rattle.law_state.specs.Changes.{SameSession}
use Rattle.law_state.specs.Keeping.{Keeps, KeepsUncounted}
use Rattle.blk_object.specs.FindingOut.{is_child_item}
use Rattle.blk_sparse.specs.declared.dropping.Gone.{Gone}
use Rattle.blk_evict.specs.declared.item_names.EntryKind.{EntryKind}
use Rattle.blk_evict.specs.declared.item_names.EntryKind.TheVariants.{Parent, Part, Plain}
use Rattle.blk_evict.specs.declared.item_names.Named.{Named}
use Rattle.blk_evict.specs.declared.list_places.Unpinned.{Unpinned}
use Rattle.blk_evict.specs.RoomLaws.{NamedObjectsStay, group_for, item_charge}
use Rattle.blk_evict.specs.ListPlaces.{MayGoAt}

-- Items by their records.

-- the kind of entry that a role is: plain, parent or part
abbrev pub kind_of_role : Role → EntryKind
kind_of_role IsPlain = Plain
kind_of_role (IsParent index) = Parent
kind_of_role (IsPart name index) = Part

-- the kind of entry by the flags of its record
abbrev pub kind_said : ℕ → EntryKind
kind_said flags = if flags == parent then Parent else if flags == child then Part else Plain

-- the record's key, or its name if it is a part's, has these bytes
abbrev pub IsItemName : (entry : ℕ) → List ℕ → Image → Type 0
IsItemName entry name image = key_bytes image entry ≡ name

-- `named` has the kind and the cost of an entry, and its key is at the front of `bytes`
pub record IsNamedAs (loaded : Loaded) (named : Named) (bytes : List ℕ) : Type 0 where
  pub kind : named.kind ≡ kind_of_role loaded.role
  pub charge : named.owned.charge ≡ charge_of loaded
  pub key : take named.len bytes ≡ loaded.key

-- P holds of each listed item whose record has this key (or this name of a part), wherever a folder keeps a state
abbrev pub ForEachListed : (key : List ℕ) (is_child : Bool) → Image → (State → Layout → Item → Loaded → Type 0) → Type 0
ForEachListed key is_child image P =
    (state : State) (layout : Layout) (unlinked : List ℕ) (item : Item) (was : Loaded)
    → KeepsUncounted state layout unlinked image → is_listed state item ≡ true → layout.at (layout.place item) ≡ Some was → was.key ≡ key → is_child_item item ≡ is_child → P state layout item was

-- The eviction unit.

-- the folder keeps a state in which the item that was found may be evicted; its entry has this kind and this key or name
pub record GoesAs (state : State) (layout : Layout) (found : Unpinned) (kind : EntryKind) (key : List ℕ) (image : Image) : Type 0 where
  pub kept : Keeps state layout [] image
  pub last : MayGoAt state layout found
  pub kind_is : kind_of_role last.loaded.role ≡ kind
  pub key_is : last.loaded.key ≡ key

-- P holds, with layout and eviction unit, wherever a folder keeps a state in which the item that was found may be evicted and has this kind and this key
abbrev pub ForEachOfKind : Unpinned → EntryKind → List ℕ → Image → (State → Layout → Group → Type 0) → Type 0
ForEachOfKind found kind key image P = (state : State) (layout : Layout) (is : GoesAs state layout found kind key image) → P state layout (group_for is.last.item is.last.front)

-- P holds, with layout and eviction unit, wherever a folder keeps a state in which the item that was found may be evicted
abbrev pub ForEachGoing : Unpinned → Image → (State → Layout → Group → Type 0) → Type 0
ForEachGoing found image P = (state : State) (layout : Layout) → Keeps state layout [] image → (last : MayGoAt state layout found) → P state layout (group_for last.item last.front)

-- the kind of an entry that is evicted alone: a part, or an entry without parts
abbrev pub alone_kind : Bool → EntryKind
alone_kind is_child = if is_child then Part else Plain

-- the printed lines of parts of a key that are evicted
abbrev pub text_of_parts : List ℕ → List ℕ → List ℕ
text_of_parts key numbers = flat_map evicted_line (map (part key) numbers)

-- `gone` has the number of items of an eviction unit, and the sum of their costs
pub record AreOfGroup (state : State) (group : Group) (gone : Gone) : Type 0 where
  pub items : gone.items ≡ length (items_of_group group)
  pub bytes : gone.bytes ≡ sum_by (item_charge state) (items_of_group group)

-- the eviction unit is removed: the folder keeps the state without it in the same session, the other items and the objects that handles name have the nodes
-- that they had, and `gone` has the counts of what was removed
pub record IsGroupOut (state : State) (layout : Layout) (group : Group) (gone : Gone) (from image : Image) : Type 0 where
  pub left : Layout
  pub kept : Keeps (without (group ∷ []) state) left [] image
  pub places : left.place ≡ layout.place
  pub stay : NamedObjectsStay (without (group ∷ []) state) layout left
  pub told : AreOfGroup state group gone
  pub session : SameSession from image
