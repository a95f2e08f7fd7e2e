-- Where the items and the doomed objects of a state lie, and what then holds of what an image shows.
use Rattle.std.specs.Prelude.{◌≡◌, ℕ, ◌<◌, List, map, Bool, true, false, ◌==◌, IfSome}
use Rattle.std.specs.Option.{option_map}
use Rattle.std.specs.List.{list_any}
use Rattle.std.specs.declared.option.Option.{Option}
use Rattle.std.specs.declared.option.Option.TheVariants.{None, Some}
use Rattle.std.specs.declared.result.Result.TheVariants.{Ok}
use Rattle.blk_model.specs.Items.{Item, main, part, main_row, same_item, key_of}
use Rattle.blk_model.specs.State.{State, Object, object_at}
use Rattle.blk_model.specs.Holding as model
use Rattle.spec_format.specs.Hash.{hash}
use Rattle.spec_format.specs.Headers.{table_length}
use Rattle.spec_format.specs.Names.{Name, read_name}
use Rattle.spec_format.specs.SparseIndex.{PartIndex}
use Rattle.spec_format.specs.Claims.{Claim, has_claim, repeats}
use Rattle.spec_format.specs.BlockFiles.{is_among}
use Rattle.spec_folder.specs.ListView.{IsList, put}
use Rattle.spec_folder.specs.View.{View, StoreView}
use Rattle.spec_folder.specs.Chains.{bucket_of_hash, IsChain}
use Rattle.spec_folder.specs.Entries.{IsPart}
use Rattle.spec_folder.specs.Loads.{Rule, held_rule, unchained_rule, is_part, Loaded, load, all_claims}
use Rattle.spec_folder.specs.Audit.{is_parent_of}
use Rattle.spec_folder.specs.Found.{row_of_loaded}

-- the node of each listed item, and of each doomed object by its number; what each node that is somebody's names, and the state of its record;
-- the records of each chain, in order; the node that each block and external number belongs to
pub record Layout : Type 0 where
  pub place : Item → ℕ
  pub place_of_doomed : ℕ → ℕ
  pub at : ℕ → Option Loaded
  pub state : ℕ → ℕ
  pub chains : ℕ → List ℕ
  pub owner : Claim → Option ℕ

-- whether an item is among some
abbrev pub is_in : List Item → Item → Bool
is_in items item = list_any (same_item item) items

-- whether a state lists an item
abbrev pub is_listed : State → Item → Bool
is_listed state item = is_in state.uses item

-- the nodes of some items
abbrev pub nodes_of : Layout → List Item → List ℕ
nodes_of layout items = map layout.place items

-- the nodes of the LRU list, in its order
abbrev pub order : State → Layout → List ℕ
order state layout = nodes_of layout state.uses

-- the rule for a node's record by itself: it has the state that the layout says, and neither dirty flag nor chain matters
abbrev pub rule_of : Layout → ℕ → Rule
rule_of layout node = unchained_rule (layout.state node)

-- whether the live object with a key is clean, if there is one
abbrev pub settled_with : State → List ℕ → Option Bool
settled_with state key = option_map (λ object. object.settled) (model.owner_object state (main key))

-- the dirty flag of a main item is 0 exactly where its object is clean, and that of a part is 0
abbrev pub HasDirtyMark : State → Item → Loaded → Type 0
HasDirtyMark state (main key) loaded = IfSome (model.owner_object state (main key)) (λ object. (loaded.dirty == 0) ≡ object.settled)
HasDirtyMark state (part key n) loaded = loaded.dirty ≡ 0

-- a record is a part of this key, whose main item is listed and has the parent that the part's name says
pub record IsPartAt (state : State) (layout : Layout) (key : List ℕ) (loaded : Loaded) : Type 0 where
  pub name : Name
  pub index : PartIndex
  pub role : loaded.role ≡ IsPart name index
  pub of_key : name.key ≡ key
  pub listed : is_listed state (main key) ≡ true
  pub parent : Loaded
  pub at_parent : layout.at (layout.place (main key)) ≡ Some parent
  pub of : is_parent_of name parent ≡ true

-- the parent of a part is its key's main item, which is listed; of a main item nothing is asked
abbrev pub HasParentAt : State → Layout → Item → Loaded → Type 0
HasParentAt state layout (main key) loaded = Unit {0}
HasParentAt state layout (part key n) loaded = IsPartAt state layout key loaded

-- an item lies at its node: the record there has its row, dirty flag and parent
pub record IsPlacedAt (state : State) (layout : Layout) (item : Item) : Type 0 where
  pub loaded : Loaded
  pub here : layout.at (layout.place item) ≡ Some loaded
  pub row : model.row_of state item ≡ Some (row_of_loaded loaded)
  pub mark : HasDirtyMark state item loaded
  pub parent : HasParentAt state layout item loaded

-- a doomed object lies at its node, which isn't listed and is no other doomed object's: the record there has its row and dirty flag
pub record IsDoomedAt (state : State) (layout : Layout) (number : ℕ) (object : Object) : Type 0 where
  pub loaded : Loaded
  pub here : layout.at (layout.place_of_doomed number) ≡ Some loaded
  pub row : row_of_loaded loaded ≡ main_row object.key object.shape object.streams
  pub mark : (loaded.dirty == 0) ≡ object.settled
  pub unlisted : is_among (order state layout) (layout.place_of_doomed number) ≡ false
  pub alone : (other : ℕ) (object : Object) → object_at state other ≡ Some object → object.live ≡ false
      → layout.place_of_doomed other ≡ layout.place_of_doomed number → other ≡ number

-- a record of a chain is that of a listed node
pub record IsListedRecord (state : State) (layout : Layout) (contents : ℕ) : Type 0 where
  pub node : ℕ
  pub loaded : Loaded
  pub listed : is_among (order state layout) node ≡ true
  pub here : layout.at node ≡ Some loaded
  pub record_is : loaded.contents ≡ contents

-- the layout fits the state, whatever an image has: items and doomed objects lie at their nodes, the chains have exactly the records of listed nodes, and each
-- block has one owner
pub record IsLayoutOf (state : State) (layout : Layout) : Type 0 where
  pub laid : (item : Item) → is_listed state item ≡ true → IsPlacedAt state layout item
  pub normal : (node : ℕ) → is_among (order state layout) node ≡ true → layout.state node ≡ 0
  pub chained : (node : ℕ) (loaded : Loaded) → is_among (order state layout) node ≡ true → layout.at node ≡ Some loaded
      → is_among (layout.chains (bucket_of_hash (hash loaded.key))) loaded.contents ≡ true
  pub unchained : (bucket contents : ℕ) → bucket < table_length → is_among (layout.chains bucket) contents ≡ true → IsListedRecord state layout contents
  pub own : (node : ℕ) (loaded : Loaded) (claim : Claim) → layout.at node ≡ Some loaded → has_claim (all_claims loaded) claim ≡ true
      → layout.owner claim ≡ Some node
  pub single : (node : ℕ) (loaded : Loaded) → layout.at node ≡ Some loaded → repeats (all_claims loaded) ≡ false
  pub doomed_objects : (number : ℕ) (object : Object) → object_at state number ≡ Some object → object.live ≡ false → IsDoomedAt state layout number object

-- a store view agrees with the layout, whatever the state: each node loads by itself as the layout has it, and each chain is whole, with the layout's records
pub record Shows (store : StoreView) (layout : Layout) : Type 0 where
  pub no_record : store.entry 0 ≡ None
  pub each : (node : ℕ) (loaded : Loaded) → layout.at node ≡ Some loaded → load store (rule_of layout node) node ≡ Ok loaded
  pub chains : (bucket : ℕ) → bucket < table_length → IsChain store bucket (layout.chains bucket)

-- a store view agrees with a layout that fits a state
pub record Holds (store : StoreView) (state : State) (layout : Layout) : Type 0 where
  pub shows : Shows store layout
  pub lies : IsLayoutOf state layout

-- a view represents the state by a layout: its store agrees with a layout that fits the state, its LRU list is whole, with the items' nodes in the state's
-- order, and it is idle
pub record Represents (view : View) (state : State) (layout : Layout) : Type 0 where
  pub holds : Holds view.store state layout
  pub list : IsList view.list (order state layout)
  pub idle : view.list.transaction ≡ 0

-- Records in the midst of a change.

-- as much of `Holds` as recovery needs, but for some nodes, whose records are in the midst of a change or removed
pub record HoldsExcept (except : ℕ → Bool) (store : StoreView) (state : State) (layout : Layout) : Type 0 where
  pub no_record : store.entry 0 ≡ None
  pub each : (node : ℕ) (loaded : Loaded) → layout.at node ≡ Some loaded → except node ≡ false → load store (rule_of layout node) node ≡ Ok loaded
  pub chains : (bucket : ℕ) → bucket < table_length → IsChain store bucket (layout.chains bucket)
  pub laid : (item : Item) → is_listed state item ≡ true → IsPlacedAt state layout item
  pub normal : (node : ℕ) → is_among (order state layout) node ≡ true → layout.state node ≡ 0
  pub chained : (node : ℕ) (loaded : Loaded) → is_among (order state layout) node ≡ true → layout.at node ≡ Some loaded → except node ≡ false
      → is_among (layout.chains (bucket_of_hash (hash loaded.key))) loaded.contents ≡ true
  pub own : (node : ℕ) (loaded : Loaded) (claim : Claim) → layout.at node ≡ Some loaded → has_claim (all_claims loaded) claim ≡ true
      → layout.owner claim ≡ Some node
  pub single : (node : ℕ) (loaded : Loaded) → layout.at node ≡ Some loaded → repeats (all_claims loaded) ≡ false

-- the excepted records are those of one dirty object: the main item's node is dirty, so recovery doesn't keep it, and the parts keep their keys
pub record IsInProgress (except : ℕ → Bool) (store : StoreView) (state : State) (layout : Layout) (key : List ℕ) : Type 0 where
  pub of_key : (item : Item) → is_listed state item ≡ true → except (layout.place item) ≡ true → key_of item ≡ key
  pub unsettled : (loaded : Loaded) → layout.at (layout.place (main key)) ≡ Some loaded → (loaded.dirty == 0) ≡ false
  pub dirty : (loaded : Loaded) → load store held_rule (layout.place (main key)) ≡ Ok loaded → ⊥
  pub parts : (n : ℕ) (was now : Loaded) → is_listed state (part key n) ≡ true → except (layout.place (part key n)) ≡ true
      → layout.at (layout.place (part key n)) ≡ Some was → load store held_rule (layout.place (part key n)) ≡ Ok now
      → (is_part now ≡ true) × (now.key ≡ was.key)
  pub names : (n : ℕ) (was : Loaded) (name : Name) → is_listed state (part key n) ≡ true → except (layout.place (part key n)) ≡ true
      → layout.at (layout.place (part key n)) ≡ Some was → read_name was.key ≡ Some name → name.key ≡ key

-- One object changed.

-- with these objects a state differs in the value of one item at most: other rows and dirty flags are the same, and there is no other doomed object
pub record OneChanged (state : State) (objects : List (Option Object)) (item : Item) : Type 0 where
  pub rows : (other : Item) → same_item other item ≡ false → model.row_of (record state { objects = objects }) other ≡ model.row_of state other
  pub settled : (key : List ℕ) → same_item (main key) item ≡ false → settled_with (record state { objects = objects }) key ≡ settled_with state key
  pub doomed_same : (number : ℕ) (object : Object) → object_at (record state { objects = objects }) number ≡ Some object → object.live ≡ false
      → object_at state number ≡ Some object

-- the layout with another record at one node, and other owners
abbrev pub changed_at : Layout → ℕ → Loaded → (Claim → Option ℕ) → Layout
changed_at layout node loaded owner = record layout { at = put layout.at node (Some loaded); owner = owner }

-- another record fits at an item's node: it has the old key and address, and the item's new row, dirty flag and parent; its blocks are the node's, and those of
-- other nodes stay theirs
pub record IsChange (state : State) (objects : List (Option Object)) (layout : Layout) (item : Item) (was now : Loaded) (owner : Claim → Option ℕ) : Type 0 where
  pub key : now.key ≡ was.key
  pub contents : now.contents ≡ was.contents
  pub row : model.row_of (record state { objects = objects }) item ≡ Some (row_of_loaded now)
  pub mark : HasDirtyMark (record state { objects = objects }) item now
  pub parent : HasParentAt state layout item now
  pub of : (name : Name) → is_parent_of name was ≡ true → is_parent_of name now ≡ true
  pub own : (claim : Claim) → has_claim (all_claims now) claim ≡ true → owner claim ≡ Some (layout.place item)
  pub others : (claim : Claim) (node : ℕ) → layout.owner claim ≡ Some node → (layout.place item == node) ≡ false → owner claim ≡ Some node
  pub single : repeats (all_claims now) ≡ false

-- another record fits at a doomed object's node: it has the object's row and dirty flag; its blocks are the node's, and those of other nodes stay theirs
pub record IsDoomedChange (layout : Layout) (node : ℕ) (object : Object) (now : Loaded) (owner : Claim → Option ℕ) : Type 0 where
  pub dead : object.live ≡ false
  pub row : row_of_loaded now ≡ main_row object.key object.shape object.streams
  pub mark : (now.dirty == 0) ≡ object.settled
  pub own : (claim : Claim) → has_claim (all_claims now) claim ≡ true → owner claim ≡ Some node
  pub others : (claim : Claim) (other : ℕ) → layout.owner claim ≡ Some other → (node == other) ≡ false → owner claim ≡ Some other
  pub single : repeats (all_claims now) ≡ false

-- the layout with nothing at one node, and other owners
abbrev pub emptied_at : Layout → ℕ → (Claim → Option ℕ) → Layout
emptied_at layout node owner = record layout { at = put layout.at node None; owner = owner }
