-- A state and a layout without some items, or with one of their objects doomed.
use Rattle.std.specs.Prelude.{◌≡◌, ℕ, ◌<◌, List, Bool, true, false, not}
use Rattle.std.specs.Str.{bytes_eq}
use Rattle.std.specs.List.{filter}
use Rattle.std.specs.declared.option.Option.{Option}
use Rattle.std.specs.declared.option.Option.TheVariants.{Some}
use Rattle.blk_model.specs.Items.{Item, main, part, key_of}
use Rattle.blk_model.specs.State.{State, Object, object_at}
use Rattle.blk_model.specs.Holding as model
use Rattle.spec_format.specs.Hash.{hash}
use Rattle.spec_format.specs.Headers.{table_length}
use Rattle.spec_format.specs.Records as records
use Rattle.spec_format.specs.Claims.{Claim, has_claim}
use Rattle.spec_format.specs.BlockFiles.{is_among}
use Rattle.spec_folder.specs.ListView.{put}
use Rattle.spec_folder.specs.View.{StoreView}
use Rattle.spec_folder.specs.Chains.{bucket_of_hash, IsChain}
use Rattle.spec_folder.specs.Loads.{Loaded, all_claims}
use Rattle.spec_folder.specs.Layout.{Layout, settled_with, is_listed, nodes_of, order, IsListedRecord}

-- the state with other objects and without the items that are not kept
abbrev pub without_items : State → List (Option Object) → (Item → Bool) → State
without_items state objects keep = record state { objects = objects; uses = filter keep state.uses }

-- with these objects and without some items a state has the same rows and dirty flags of what is kept, no part without its main item, and no other doomed
-- object
pub record ListsLess (state : State) (objects : List (Option Object)) (keep : Item → Bool) : Type 0 where
  pub rows : (item : Item) → keep item ≡ true → is_listed state item ≡ true → model.row_of (without_items state objects keep) item ≡ model.row_of state item
  pub settled : (key : List ℕ) → keep (main key) ≡ true → settled_with (without_items state objects keep) key ≡ settled_with state key
  pub closed : (key : List ℕ) (n : ℕ) → keep (part key n) ≡ true → keep (main key) ≡ true
  pub doomed_same : (number : ℕ) (object : Object) → object_at (without_items state objects keep) number ≡ Some object → object.live ≡ false
      → object_at state number ≡ Some object

-- the layout with other records at the nodes, other chains and other owners
abbrev pub placed_less : Layout → (ℕ → Option Loaded) → (ℕ → List ℕ) → (Claim → Option ℕ) → Layout
placed_less layout at chains owner = record layout { at = at; chains = chains; owner = owner }

-- records, chains and owners for a layout without some items: what is kept, or wasn't listed, is there, chained and owned as before, and nothing is new
pub record HasLess (state : State) (objects : List (Option Object)) (keep : Item → Bool) (layout : Layout) (at : ℕ → Option Loaded) (chains : ℕ → List ℕ) (owner : Claim → Option ℕ) : Type 0 where
  pub stays : (item : Item) (loaded : Loaded) → keep item ≡ true → is_listed state item ≡ true → layout.at (layout.place item) ≡ Some loaded
      → at (layout.place item) ≡ Some loaded
  pub others : (node : ℕ) (loaded : Loaded) → is_among (order state layout) node ≡ false → layout.at node ≡ Some loaded → at node ≡ Some loaded
  pub was : (node : ℕ) (loaded : Loaded) → at node ≡ Some loaded → layout.at node ≡ Some loaded
  pub chain_stays : (node : ℕ) (loaded : Loaded) → is_among (nodes_of layout (filter keep state.uses)) node ≡ true → at node ≡ Some loaded
      → is_among (layout.chains (bucket_of_hash (hash loaded.key))) loaded.contents ≡ true
      → is_among (chains (bucket_of_hash (hash loaded.key))) loaded.contents ≡ true
  pub chain_was : (bucket contents : ℕ) → bucket < table_length → is_among (chains bucket) contents ≡ true
      → IsListedRecord (without_items state objects keep) (placed_less layout at chains owner) contents
  pub own : (node : ℕ) (loaded : Loaded) (claim : Claim) → at node ≡ Some loaded → has_claim (all_claims loaded) claim ≡ true
      → layout.owner claim ≡ Some node → owner claim ≡ Some node

-- An object that is doomed.

-- an item is of another key
abbrev pub is_of_another : List ℕ → Item → Bool
is_of_another key item = not (bytes_eq key (key_of item))

-- the layout without some items, where a node is that of the doomed object of a number, with a record of state 2
abbrev pub placed_doomed : Layout → ℕ → ℕ → (ℕ → Option Loaded) → (ℕ → List ℕ) → (Claim → Option ℕ) → Layout
placed_doomed layout number node at chains owner = record (placed_less layout at chains owner) { place_of_doomed = put layout.place_of_doomed number node; state = put layout.state node records.entry_doomed }

-- each chain is whole, and has the records of the listed nodes but for the excepted ones
pub record HasChains (except : ℕ → Bool) (store : StoreView) (state : State) (layout : Layout) (chains : ℕ → List ℕ) : Type 0 where
  pub whole : (bucket : ℕ) → bucket < table_length → IsChain store bucket (chains bucket)
  pub chained : (node : ℕ) (loaded : Loaded) → is_among (order state layout) node ≡ true → layout.at node ≡ Some loaded → except node ≡ false
      → is_among (chains (bucket_of_hash (hash loaded.key))) loaded.contents ≡ true
