-- Links that are repaired: the LRU list and the chains hold what is kept, and nothing else; and what such a folder represents.
use Rattle.std.specs.Prelude.{◌≡◌, ℕ, ◌<◌, List, [], ◌∷◌, Bool, ◌==◌, if◌then◌else◌}
use Rattle.std.specs.Option.{option_map, option_map_or}
use Rattle.std.specs.declared.option.Option.{Option}
use Rattle.std.specs.declared.option.Option.TheVariants.{None, Some}
use Rattle.spec_image.specs.Image.{Image, AreBytes}
use Rattle.blk_model.specs.Items.{item_of, same_item}
use Rattle.blk_model.specs.State.{Bounds}
use Rattle.blk_model.specs.Holding.{open_state}
use Rattle.spec_format.specs.Headers.{table_length}
use Rattle.spec_format.specs.Claims.{has_claim}
use Rattle.spec_format.specs.BlockFiles.{IsWellFormed}
use Rattle.spec_folder.specs.View.{view_of, store_of}
use Rattle.spec_folder.specs.Chains.{IsChain}
use Rattle.spec_folder.specs.Loads.{held_rule, Loaded, all_claims}
use Rattle.spec_folder.specs.Found.{kept, found, row_of_loaded}
use Rattle.spec_folder.specs.Layout.{Layout, Represents}
use Rattle.spec_folder.specs.ListImages.{walked, HasListAtRest}
use Rattle.spec_folder.specs.Audit.{kept_nodes}
use Rattle.law_recovery.specs.ChainRepair.{kept_records}

-- the list is whole and idle, all its nodes are kept, and each chain is that of the kept records of its bucket
pub record HasMendedLinks (image : Image) : Type 0 where
  pub well_formed : IsWellFormed image
  pub rests : HasListAtRest (walked image) image
  pub all_kept : kept_nodes (store_of image) held_rule (walked image) ≡ walked image
  pub chains : (bucket : ℕ) → bucket < table_length → IsChain (store_of image) bucket (kept_records image bucket)

-- the first of some records that passes a test, None where none does
abbrev pub first_that : (Loaded → Bool) → List Loaded → Option Loaded
first_that test [] = None
first_that test (k ∷ ks) = if test k then Some k else first_that test ks

-- the node of the first of some records that passes a test, None where none does
abbrev pub node_with : (Loaded → Bool) → List Loaded → Option ℕ
node_with test ks = option_map (λ k. k.node) (first_that test ks)

-- the layout of what a folder keeps
unfoldable pub kept_layout : Image → Layout
kept_layout image = record {
  place = λ item. option_map_or (λ k. k.node) (first_that (λ k. same_item item (item_of (row_of_loaded k))) (kept image)) 0;
  place_of_doomed = λ number. 0;
  at = λ node. first_that (λ k. k.node == node) (kept image);
  state = λ node. 0;
  chains = kept_records image;
  owner = λ claim. node_with (λ k. has_claim (all_claims k) claim) (kept image);
}

-- a folder whose links are repaired represents the state that is opened on its recovered contents, by the layout of what it keeps
abbrev pub MendedLinksRepresent : Type 0
MendedLinksRepresent = (image : Image) (limits : Bounds) → HasMendedLinks image → AreBytes image → Represents (view_of image) (open_state (found image) limits) (kept_layout image)
