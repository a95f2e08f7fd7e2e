-- One more item of a state, in front of its list, and in a layout; and a new object.
use Rattle.std.specs.Prelude.{◌≡◌, ℕ, List, [], ◌∷◌, map, true, false, ◌==◌, if◌then◌else◌}
use Rattle.std.specs.declared.option.Option.{Option}
use Rattle.std.specs.declared.option.Option.TheVariants.{None, Some}
use Rattle.std.specs.declared.result.Result.TheVariants.{Ok}
use Rattle.blk_model.specs.Items.{Item, main, same_item}
use Rattle.blk_model.specs.State.{State, Object}
use Rattle.blk_model.specs.Holding as model
use Rattle.spec_format.specs.Hash.{hash}
use Rattle.spec_format.specs.Records.{entry_normal}
use Rattle.spec_format.specs.Claims.{Claim, has_claim, repeats}
use Rattle.spec_format.specs.BlockFiles.{is_among}
use Rattle.spec_folder.specs.ListView.{put}
use Rattle.spec_folder.specs.View.{StoreView}
use Rattle.spec_folder.specs.Chains.{bucket_of_hash, file_and_block}
use Rattle.spec_folder.specs.Entries.{IsPlain}
use Rattle.spec_folder.specs.Loads.{unchained_rule, Loaded, load, all_claims}
use Rattle.spec_folder.specs.Found.{row_of_loaded}
use Rattle.spec_folder.specs.Layout.{Layout, is_listed, HasDirtyMark, HasParentAt}

-- the state with other objects, and an item in front of its LRU list
abbrev pub with_first : State → List (Option Object) → Item → State
with_first state objects item = record state { objects = objects; uses = item ∷ state.uses }

-- the layout with an item at a loaded node: its record is the first of its chain, and its blocks and external numbers are the node's
abbrev pub with_item : Layout → Item → Loaded → Layout
with_item layout item loaded = record layout {
  place = λ other. if same_item other item then loaded.node else layout.place other;
  at = put layout.at loaded.node (Some loaded);
  state = put layout.state loaded.node entry_normal;
  chains = put layout.chains (bucket_of_hash (hash loaded.key)) (loaded.contents ∷ layout.chains (bucket_of_hash (hash loaded.key)));
  owner = λ claim. if has_claim (all_claims loaded) claim then Some loaded.node else layout.owner claim;
}

-- an item may come to a state at a loaded node: it isn't listed, the record there has its row, dirty flag and parent, and node and blocks have no owner
pub record IsNewItem (state : State) (objects : List (Option Object)) (layout : Layout) (item : Item) (loaded : Loaded) : Type 0 where
  pub unlisted : is_listed state item ≡ false
  pub row : model.row_of (record state { objects = objects }) item ≡ Some (row_of_loaded loaded)
  pub mark : HasDirtyMark (record state { objects = objects }) item loaded
  pub parent : HasParentAt state layout item loaded
  pub nobody : layout.at loaded.node ≡ None
  pub free : (claim : Claim) → has_claim (all_claims loaded) claim ≡ true → layout.owner claim ≡ None
  pub single : repeats (all_claims loaded) ≡ false

-- A new object.

-- a dirty plain record with this key and empty streams is valid by itself, and its node and blocks have no owner
pub record IsNewEntry (store : StoreView) (layout : Layout) (key : List ℕ) (loaded : Loaded) : Type 0 where
  pub loads : load store (unchained_rule entry_normal) loaded.node ≡ Ok loaded
  pub key_is : loaded.key ≡ key
  pub role : loaded.role ≡ IsPlain
  pub streams : loaded.streams ≡ [] ∷ [] ∷ [] ∷ []
  pub dirty : (loaded.dirty == 0) ≡ false
  pub nobody : layout.at loaded.node ≡ None
  pub free : (claim : Claim) → has_claim (all_claims loaded) claim ≡ true → layout.owner claim ≡ None
  pub single : repeats (all_claims loaded) ≡ false

-- a new record may become the first of its chain: its link is the first one now, and no record of the chain has its first block
pub record IsFrontOfChain (store : StoreView) (layout : Layout) (loaded : Loaded) : Type 0 where
  pub follows : store.chain_next loaded.contents ≡ store.table (bucket_of_hash (hash loaded.key))
  pub fresh : is_among (map file_and_block (layout.chains (bucket_of_hash (hash loaded.key)))) (file_and_block loaded.contents) ≡ false

-- the layout with a new object of a key, at a loaded node
abbrev pub with_new : Layout → List ℕ → Loaded → Layout
with_new layout key loaded = with_item layout (main key) loaded

-- the store view with a record in the table as the first of its chain
abbrev pub linked_front : StoreView → Loaded → StoreView
linked_front store loaded = record store { table = put store.table (bucket_of_hash (hash loaded.key)) loaded.contents }
