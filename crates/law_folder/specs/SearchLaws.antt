-- The laws of the chains of what represents a state, and of what is found in them.
use Rattle.std.specs.Prelude.{◌≡◌, ℕ, ◌<◌, ◌≤◌, List, length, true, false}
use Rattle.std.specs.declared.option.Option.TheVariants.{None}
use Rattle.blk_model.specs.State.{State, IsValidState, live_with}
use Rattle.spec_format.specs.Headers.{table_length}
use Rattle.spec_format.specs.BlockFiles.{is_among}
use Rattle.spec_folder.specs.ListView.{most_nodes}
use Rattle.spec_folder.specs.View.{View}
use Rattle.spec_folder.specs.Chains.{chain}
use Rattle.spec_folder.specs.Layout.{Layout, order, Represents}
use Rattle.spec_folder.specs.Searches.{bucket_of_key, chained_for, IsWholeChain, HasKey, NoneHasKey, HasCheckedKey, IsOfLive}

-- where a view represents a state, each chain is the layout's
abbrev pub ChainsAreTheLayouts : Type 0
ChainsAreTheLayouts = (view : View) (state : State) (layout : Layout) → Represents view state layout → (bucket : ℕ) → bucket < table_length → (chain view.store bucket).reached ≡ layout.chains bucket

-- where a view represents a state, no chain has more records than there are listed nodes: each record is that of another node
abbrev pub RepresentedChainsAreShort : Type 0
RepresentedChainsAreShort = (view : View) (state : State) (layout : Layout) → Represents view state layout → (bucket : ℕ) → bucket < table_length → (length (layout.chains bucket) ≤ length (order state layout)) × (length (layout.chains bucket) ≤ most_nodes)

-- the chain of a key can be searched: it is whole, it isn't too long, and each of its records has a key
pub record IsSearchable (view : View) (key : List ℕ) : Type 0 where
  pub whole : IsWholeChain view.store (bucket_of_key key)
  pub few : length (chained_for view.store key) ≤ most_nodes
  pub keys : (w : ℕ) → is_among (chained_for view.store key) w ≡ true → HasCheckedKey view.store w

-- where a view represents a state, the chain of any key can be searched
abbrev pub RepresentedChainsCanBeSearched : Type 0
RepresentedChainsCanBeSearched = (view : View) (state : State) (layout : Layout) → Represents view state layout → (key : List ℕ) → IsSearchable view key

-- where a view represents a state, a record in a key's chain that has the key and is no part is that of the live object with the key, and so is the node that
-- it names
abbrev pub FoundRecordsAreLive : Type 0
FoundRecordsAreLive = (view : View) (state : State) (layout : Layout) → Represents view state layout → (key : List ℕ) (entry : ℕ) → is_among (chained_for view.store key) entry ≡ true → (found : HasKey view.store key false entry)
    → IsOfLive state layout key entry found.fields.rankings_node

-- where a view represents a state, and no record in a key's chain has the key and is no part, no live object has the key
abbrev pub NoneFoundIsMissing : Type 0
NoneFoundIsMissing = (view : View) (state : State) (layout : Layout) → Represents view state layout → IsValidState state → (key : List ℕ) → NoneHasKey view.store (chained_for view.store key) key false → live_with state key ≡ None
