-- A part that is made: its node comes into the LRU list, its record in front of its chain, and then its parent has its bit. The laws on what is shown.
use Rattle.std.specs.Prelude.{◌≡◌, ℕ, ◌<◌, List, length, map, take, Bool, true, false, ◌||◌, ◌==◌, nat_lt, if◌then◌else◌}
use Rattle.std.specs.declared.option.Option.{Option}
use Rattle.std.specs.declared.option.Option.TheVariants.{None, Some}
use Rattle.std.specs.declared.result.Result.TheVariants.{Ok}
use Rattle.blk_model.specs.Items.{main, part}
use Rattle.blk_model.specs.State.{State, Object, IsValidState}
use Rattle.blk_model.specs.Holding.{rest}
use Rattle.spec_format.specs.BlockFiles.{is_among}
use Rattle.spec_format.specs.Claims.{Claim, has_claim}
use Rattle.spec_format.specs.Headers.{table_length}
use Rattle.spec_format.specs.Records.{entry_normal}
use Rattle.spec_format.specs.SparseIndex.{ParentIndex}
use Rattle.spec_folder.specs.Audit.{kept_among, kept_by}
use Rattle.spec_folder.specs.Chains.{IsChain}
use Rattle.spec_folder.specs.Completion.{insert}
use Rattle.spec_folder.specs.Creation.{IsFrontOfChain, IsNewItem, linked_front, with_first, with_item}
use Rattle.spec_folder.specs.Entries.{IsParent, stream}
use Rattle.spec_folder.specs.Footprint.{IsClear, IsFreeBut, SameStore}
use Rattle.spec_folder.specs.Found.{completed, row_of_loaded}
use Rattle.spec_folder.specs.Layout.{HoldsExcept, IsChange, IsLayoutOf, Layout, OneChanged, Represents, changed_at, is_listed, order, rule_of}
use Rattle.spec_folder.specs.ListPlans.{writes_of}
use Rattle.spec_folder.specs.ListView.{after_writes, most_nodes}
use Rattle.spec_folder.specs.Loads.{Loaded, all_claims, held_rule, load, unchained_rule}
use Rattle.spec_folder.specs.ShownChanges.{ShowsTheSame}
use Rattle.spec_folder.specs.View.{NodeFields, StoreView, View}

-- the layout in which a parent's record is seen with a part's bit
abbrev pub with_bit : Layout → List ℕ → Loaded → Layout
with_bit layout key seen = changed_at layout (layout.place (main key)) seen layout.owner

-- the layout with a new part, and with its bit in the parent's record
abbrev pub with_new_part : Layout → List ℕ → ℕ → Loaded → Loaded → Layout
with_new_part layout key n seen loaded = with_item (with_bit layout key seen) (part key n) loaded

-- a part is made of a dirty object, whose parent record was one thing and shall be seen with the part's bit; its own record and node are written, outside what
-- any node of the layout owns
pub record IsPartWritten (view : View) (state : State) (objects : List (Option Object)) (layout : Layout) (key : List ℕ) (n : ℕ) (was seen loaded : Loaded) : Type 0 where
  pub represents : Represents view state layout
  pub valid : IsValidState state
  pub valid_after : IsValidState (with_first state objects (part key n))
  pub listed : is_listed state (main key) ≡ true
  pub at_parent : layout.at (layout.place (main key)) ≡ Some was
  pub noted : IsChange state state.objects layout (main key) was seen layout.owner
  pub same_dirty : seen.dirty ≡ was.dirty
  pub unsettled : (was.dirty == 0) ≡ false
  pub changed : OneChanged state objects (part key n)
  pub new : IsNewItem state objects (with_bit layout key seen) (part key n) loaded
  pub loads : load view.store (unchained_rule entry_normal) loaded.node ≡ Ok loaded
  pub prefix : IsFrontOfChain view.store layout loaded
  pub good : view.list.checks loaded.node ≡ true
  pub few : length (order state layout) < most_nodes

-- whether a node is the new part's or its parent's
abbrev pub is_part_or_parent : Layout → List ℕ → Loaded → ℕ → Bool
is_part_or_parent layout key loaded node = (loaded.node == node) || (layout.place (main key) == node)

-- a store view in the midst of making a part: all nodes but the part's and its parent's load as before, the part's loads, the parent's is dirty, and the chains
-- are these
pub record IsMidPart (store : StoreView) (layout : Layout) (key : List ℕ) (loaded : Loaded) (chains : ℕ → List ℕ) : Type 0 where
  pub no_record : store.entry 0 ≡ None
  pub others : (node : ℕ) (other : Loaded) → layout.at node ≡ Some other → is_part_or_parent layout key loaded node ≡ false → load store (rule_of layout node) node ≡ Ok other
  pub part_loads : load store (unchained_rule entry_normal) loaded.node ≡ Ok loaded
  pub dirty : (node_fields : NodeFields) → store.node_fields (layout.place (main key)) ≡ Some node_fields → (node_fields.dirty == 0) ≡ false
  pub whole : (bucket : ℕ) → bucket < table_length → IsChain store bucket (chains bucket)
  pub chained : (bucket contents : ℕ) → is_among (layout.chains bucket) contents ≡ true → is_among (chains bucket) contents ≡ true

-- in the midst of making a part, the store view represents the state with the part but for the part's node and its parent's
abbrev pub NewPartsHoldTheOthers : Type 0
NewPartsHoldTheOthers = (view : View) (state : State) (objects : List (Option Object)) (layout : Layout) (key : List ℕ) (n : ℕ) (was seen loaded : Loaded) → IsPartWritten view state objects layout key n was seen loaded
    → (store : StoreView) (chains : ℕ → List ℕ) → IsMidPart store layout key loaded chains
    → HoldsExcept (is_part_or_parent layout key loaded) store (with_first state objects (part key n)) (record (with_new_part layout key n seen loaded) { chains = chains })

-- in the midst of making a part that is listed, what is kept is the durable contents, whatever the parent's record says
abbrev pub NewPartsAreAtRest : Type 0
NewPartsAreAtRest = (view : View) (state : State) (objects : List (Option Object)) (layout : Layout) (key : List ℕ) (n : ℕ) (was seen loaded : Loaded) → IsPartWritten view state objects layout key n was seen loaded
    → (store : StoreView) (chains : ℕ → List ℕ) → IsMidPart store layout key loaded chains
    → map row_of_loaded (kept_among store held_rule (order (with_first state objects (part key n)) (with_new_part layout key n seen loaded))) ≡ rest (with_first state objects (part key n))

-- the insert of a new part's node commits at its second write: what is kept is the durable contents before, and from then on those with the part, whatever
-- store view shows the same
abbrev pub NewPartsAtEachWrite : Type 0
NewPartsAtEachWrite = (view : View) (state : State) (objects : List (Option Object)) (layout : Layout) (key : List ℕ) (n : ℕ) (was seen loaded : Loaded) → IsPartWritten view state objects layout key n was seen loaded
    → (store : StoreView) → ShowsTheSame view.store store → (count : ℕ) → map row_of_loaded (kept_by held_rule (completed (record { list = after_writes (take count (writes_of insert loaded.node view.list)) view.list; store = store })))
    ≡ (if nat_lt count 2 then rest state else rest (with_first state objects (part key n)))

-- once a new part's record is linked and its parent is seen with its bit, the state with the part is represented
abbrev pub NewPartsEnd : Type 0
NewPartsEnd = (view : View) (state : State) (objects : List (Option Object)) (layout : Layout) (key : List ℕ) (n : ℕ) (was seen loaded : Loaded) → IsPartWritten view state objects layout key n was seen loaded
    → (store : StoreView) → IsMidPart store layout key loaded (with_new_part layout key n seen loaded).chains → load store (rule_of layout (layout.place (main key))) (layout.place (main key)) ≡ Ok seen
    → Represents (record { list = after_writes (writes_of insert loaded.node view.list) view.list; store = store }) (with_first state objects (part key n)) (with_new_part layout key n seen loaded)

-- While a part is added.

-- once a new part's record is linked, all other nodes still load as before
abbrev pub NewPartsAreLinked : Type 0
NewPartsAreLinked = (view : View) (state : State) (objects : List (Option Object)) (layout : Layout) (key : List ℕ) (n : ℕ) (was seen loaded : Loaded) → IsPartWritten view state objects layout key n was seen loaded
    → IsMidPart (linked_front view.store loaded) layout key loaded (with_new_part layout key n seen loaded).chains

-- a change of a parent's own data alone: it touches neither the parent's node nor the part's blocks, no record of a chain, and nothing of any other node
pub record IsOfParent (touched : Claim → Bool) (layout : Layout) (key : List ℕ) (loaded : Loaded) (chains : ℕ → List ℕ) : Type 0 where
  pub others : IsFreeBut (layout.place (main key)) touched layout
  pub part_clear : (claim : Claim) → has_claim (all_claims loaded) claim ≡ true → touched claim ≡ false
  pub node_clear : IsClear touched (layout.place (main key))
  pub chains_clear : (bucket contents : ℕ) → bucket < table_length → is_among (chains bucket) contents ≡ true → IsClear touched contents

-- in the midst of making a part, a change of the parent's own data alone leaves all else as it is in the midst of it
abbrev pub ParentsDataMayChange : Type 0
ParentsDataMayChange = (view : View) (state : State) (objects : List (Option Object)) (layout : Layout) (key : List ℕ) (n : ℕ) (was seen loaded : Loaded) → IsPartWritten view state objects layout key n was seen loaded
    → (old new : StoreView) (chains : ℕ → List ℕ) → IsMidPart old layout key loaded chains → (touched : Claim → Bool) → SameStore touched old new → ((bucket : ℕ) → old.table bucket ≡ new.table bucket)
    → IsOfParent touched layout key loaded chains → IsMidPart new layout key loaded chains

-- A parent with one bit more.

-- a parent's record with the bit of a part, and other bytes in its index
abbrev pub with_bit_of : Loaded → ParentIndex → ℕ → List (List ℕ) → Loaded
with_bit_of loaded index n streams = record loaded { role = IsParent (record index { has_part = λ k. (k == n) || index.has_part k }); streams = streams }

-- a parent's record with one bit more fits at its main item's node: the state says nothing of these bits
abbrev pub NotedParentsAreChanges : Type 0
NotedParentsAreChanges = (state : State) (layout : Layout) (key : List ℕ) (was : Loaded) (index : ParentIndex) (n : ℕ) (streams : List (List ℕ)) → IsLayoutOf state layout → is_listed state (main key) ≡ true → layout.at (layout.place (main key)) ≡ Some was
    → was.role ≡ IsParent index → stream 0 streams ≡ stream 0 was.streams → IsChange state state.objects layout (main key) was (with_bit_of was index n streams) layout.owner
