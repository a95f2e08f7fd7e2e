-- An image that represents a state.
use Rattle.std.specs.Prelude.{◌≡◌, ℕ, ◌<◌, ◌^◌, List, [], ◌++◌, map, true, false, ◌==◌, IsSomeAnd, is_some}
use Rattle.std.specs.Option.{option_map}
use Rattle.std.specs.List.{filter_map, AllByRecursion}
use Rattle.std.specs.declared.option.Option.TheVariants.{Some}
use Rattle.std.specs.declared.result.Result.TheVariants.{Ok}
use Rattle.blk_model.specs.Items.{main_row, item_of}
use Rattle.blk_model.specs.State.{Object, State, IsValidState, object_at}
use Rattle.blk_model.specs.Holding as model
use Rattle.spec_image.specs.Image.{External, Image, Index, byte, has_file}
use Rattle.spec_format.specs.Headers.{index_version, table_length, version_of}
use Rattle.spec_format.specs.Records as records
use Rattle.spec_format.specs.Claims.{Claim, BlockOf, ExternalOf, has_claim}
use Rattle.spec_format.specs.BlockFiles.{is_among, linked_as, most_blocks, IsWellFormed}
use Rattle.spec_format.specs.Maps.{is_block_marked}
use Rattle.spec_folder.specs.ListView.{Distinct}
use Rattle.spec_folder.specs.Walk.{walk}
use Rattle.spec_folder.specs.View.{View, view_of}
use Rattle.spec_folder.specs.Chains.{chain}
use Rattle.spec_folder.specs.Loads.{listed_rule, unchained_rule, Loaded, load, all_claims, claims_of_loaded}
use Rattle.spec_folder.specs.Audit.{kept_by, dropped_by}
use Rattle.spec_folder.specs.Found.{row_of_loaded}
use Rattle.spec_folder.specs.Sound.{EndsWhole, ChainsEnd, AreOwned, IsInOrder}
use Rattle.spec_folder.specs.Layout.{Layout, order, HasDirtyMark}

-- a node and a record of state 2 keep a doomed object, with its key, shape, streams and dirty flag; they are neither listed nor chained
pub record KeepsDoomed (view : View) (object : Object) (loaded : Loaded) : Type 0 where
  pub doomed : object.live ≡ false
  pub loads : load view.store (unchained_rule records.entry_doomed) loaded.node ≡ Ok loaded
  pub row : row_of_loaded loaded ≡ main_row object.key object.shape object.streams
  pub mark : (loaded.dirty == 0) ≡ object.settled
  pub unlisted : is_among (walk view.list) loaded.node ≡ false
  pub unchained : (bucket : ℕ) → bucket < table_length → is_among (chain view.store bucket).reached loaded.contents ≡ false

-- each doomed object of a state has one node and record that keep it, given by its number, and there are no others
pub record AreDoomed (view : View) (state : State) (numbered : List (ℕ × Loaded)) : Type 0 where
  pub each : AllByRecursion (λ doomed. IsSomeAnd (object_at state doomed.0) (λ object. KeepsDoomed view object doomed.1)) numbered
  pub once : Distinct (map (λ doomed. doomed.0) numbered)
  pub all : (number : ℕ) (object : Object) → object_at state number ≡ Some object → object.live ≡ false
      → is_among (map (λ doomed. doomed.0) numbered) number ≡ true

-- what a view shows of a valid state: what is listed, dirty or not, is its items in their order, each with the dirty flag of its item, nothing is
-- dropped, and no operation is in flight
pub record ShowsState (view : View) (state : State) : Type 0 where
  pub valid : IsValidState state
  pub transaction : view.list.transaction ≡ 0
  pub list_end : EndsWhole view.list
  pub chain_ends : ChainsEnd view.store
  pub nothing_dropped : dropped_by listed_rule view ≡ []
  pub rows : map row_of_loaded (kept_by listed_rule view) ≡ model.rows state
  pub marks : AllByRecursion (λ loaded. HasDirtyMark state (item_of (row_of_loaded loaded)) loaded) (kept_by listed_rule view)

-- an image represents a state, as a folder in use does between two commands
pub record StandsFor (image : Image) (state : State) : Type 0 where
  pub well_formed : IsWellFormed image
  -- the index has the version that is made now
  pub version : version_of (byte image Index) ≡ index_version
  pub shows : ShowsState (view_of image) state
  pub doomed : List (ℕ × Loaded)
  pub are_doomed : AreDoomed (view_of image) state doomed
  pub owned : AreOwned image (claims_of_loaded (kept_by listed_rule (view_of image) ++ map (λ d. d.1) doomed))
  pub in_order : IsInOrder image (kept_by listed_rule (view_of image)) (map (λ d. d.1) doomed)

-- What a layout has of the doomed objects.

-- what lies at the nodes of the doomed objects of these numbers, each with its number
abbrev pub doomed_of : Layout → List ℕ → List (ℕ × Loaded)
doomed_of layout numbers = filter_map (λ number. option_map (λ loaded. (number, loaded)) (layout.at (layout.place_of_doomed number))) numbers

-- a node of the layout, listed or a doomed object's, has a record that uses this block or external number
pub record IsOwner (state : State) (layout : Layout) (doomed_nodes : List ℕ) (claim : Claim) (node : ℕ) : Type 0 where
  pub among : is_among (order state layout ++ doomed_nodes) node ≡ true
  pub loaded : Loaded
  pub here : layout.at node ≡ Some loaded
  pub claims : has_claim (all_claims loaded) claim ≡ true

-- these are the numbers of the doomed objects, whose records have state 2
pub record AreNumbers (state : State) (layout : Layout) (numbers : List ℕ) : Type 0 where
  pub each : AllByRecursion (λ number. IsSomeAnd (object_at state number) (λ object. object.live ≡ false)) numbers
  pub once : Distinct numbers
  pub all : (number : ℕ) (object : Object) → object_at state number ≡ Some object → object.live ≡ false → is_among numbers number ≡ true
  pub records : (number : ℕ) → is_among numbers number ≡ true → layout.state (layout.place_of_doomed number) ≡ records.entry_doomed

-- the blocks that are marked and the external files that are there are the owned ones, and each owner is a node of the layout, listed or of a doomed
-- object of these numbers
pub record AllIsOwned (image : Image) (state : State) (layout : Layout) (numbers : List ℕ) : Type 0 where
  pub blocks : (n b : ℕ) → is_some (linked_as image n) ≡ true → b < most_blocks → is_block_marked image n b ≡ is_some (layout.owner (BlockOf n b))
  pub files : (n : ℕ) → n < 2 ^ 32 → has_file image (External n) ≡ is_some (layout.owner (ExternalOf n))
  pub exact : (claim : Claim) (node : ℕ) → layout.owner claim ≡ Some node → IsOwner state layout (map layout.place_of_doomed numbers) claim node
  pub once : Distinct (order state layout ++ map layout.place_of_doomed numbers)
  pub doomed : AreNumbers state layout numbers
