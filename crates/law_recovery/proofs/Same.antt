-- What is held where the store view is the same.
use Rattle.std.proofs.Common.{◌≡◌, ℕ, zero, suc, ◌^◌, List, [], ◌∷◌, refl, ap, sym, ◌∙◌, Bool, false, Option, Some, None}
use Rattle.std.specs.Prelude.{◌&&◌, ◌==◌, is_some, IfSome}
use Rattle.std.specs.Option.{option_map_or}
use Rattle.std.specs.List.{AllByRecursion}
use Rattle.spec_image.specs.Image.{Image}
use Rattle.spec_format.specs.BlockFiles.{is_among, IsWellFormed}
use Rattle.spec_format.specs.Claims.{Claim}
use Rattle.spec_folder.specs.View.{StoreView, NodeFields, RecordFields, store_of}
use Rattle.spec_folder.specs.Chains.{Chain, chain, chain_from, is_of_bucket, file_and_block, bucket_of_hash}
use Rattle.spec_folder.specs.Loads.{Rule, held_rule}
use Rattle.spec_folder.specs.Audit.{kept_among}
use Rattle.spec_folder.specs.Candidates.{checked_fields, SameRecord, SameNamed}
use Rattle.spec_folder.specs.Found.{kept, found, row_of_loaded}
use Rattle.std.specs.Prelude.{map}
use Rattle.spec_folder.specs.ShownChanges.{ShowsTheSame}
use Rattle.spec_folder.specs.ListImages.{IsWritable, completed_walk}
use Rattle.spec_format.proofs.Finished.{well_formed-finished}
use Rattle.law_folder.proofs.walks.FoundFrames.{kept_among-same}
use Rattle.law_folder.proofs.claims.Outside.{key-same, streams-same}
use Rattle.law_recovery.specs.ListRepair.{HoldsTheSame}

module _ (v u : StoreView) (entry : (w : ℕ) → v.entry w ≡ u.entry w) (chain_next : (w : ℕ) → v.chain_next w ≡ u.chain_next w) where
  pub of_bucket-same : (b w : ℕ) → is_of_bucket u b w ≡ is_of_bucket v b w
  of_bucket-same b w = ap (λ (o : Option RecordFields). option_map_or (λ fields. fields.checks && (bucket_of_hash fields.hash == b)) o false) (sym (entry w))

  pub chain_from-same : (b most : ℕ) (met : List ℕ) (w : ℕ) → chain_from u b most met w ≡ chain_from v b most met w
  unfolding chain_from
  chain_from-same b zero met w = refl
  chain_from-same b (suc most) met w = rw (of_bucket-same b w, ← chain_next w, chain_from-same b most (file_and_block w ∷ met) (v.chain_next w)) refl

pub chain-same : (v u : StoreView) → ShowsTheSame v u → (b : ℕ) → chain u b ≡ chain v b
chain-same v u same b =
    ap (chain_from u b (2 ^ 24) []) (sym (same.table b)) ∙ chain_from-same v u (λ w. same.store.entry w (λ c h. refl)) (λ w. same.store.chain_next w (λ c h. refl)) b (2 ^ 24) [] (v.table b)

none : Claim → Bool
none claim = false

pub same-node_fields : (v u : StoreView) → ShowsTheSame v u → (w : ℕ) → SameNamed v u w
same-node_fields v u same w = record { node_fields = same.store.node_fields w (λ c h. refl); record_same = if_some (v.node_fields w) } where
  record-same : (c : ℕ) → SameRecord v u c
  record-same c = record {
    there = ap is_some (same.store.entry c (λ c h. refl));
    checked = ap checked_fields (same.store.entry c (λ c h. refl));
    data_same = λ fields is good. record {
      key = λ fits. sym (key-same (λ claim. false) v u same.store c fields (λ c h. refl) (λ c h. refl) is fits);
      chained = ap (λ (x : Chain). is_among x.reached c) (sym (chain-same v u same (bucket_of_hash fields.hash)));
      streams = sym (streams-same (λ claim. false) v u same.store fields (λ i c h. refl));
    };
  }

  if_some : (o : Option NodeFields) → IfSome o (λ said. SameRecord v u said.contents)
  if_some None = tt
  if_some (Some said) = record-same said.contents

pub shown-same : (v u : StoreView) (rule : Rule) (nodes : List ℕ) → ShowsTheSame v u → kept_among v rule nodes ≡ kept_among u rule nodes
shown-same v u rule nodes same = kept_among-same v u rule nodes (each nodes) where
  each : (ws : List ℕ) → AllByRecursion (SameNamed v u) ws
  each [] = tt
  each (w ∷ ws) = (same-node_fields v u same w, each ws)

-- the same is held where what the redo leaves keeps the same
pub holds-from : (from image : Image) → IsWellFormed from → IsWellFormed image → IsWritable image → ShowsTheSame (store_of from) (store_of image) → kept_among (store_of from) held_rule (completed_walk image) ≡ kept from → HoldsTheSame from image
unfolding found kept
holds-from from image well_from well ready same is =
    let keeps : kept image ≡ kept from = one ∙ is in
    record {
      well_formed = well;
      writable = ready;
      kept_same = keeps;
      found_same = rw (well_formed-finished image well, well_formed-finished from well_from) (ap (map row_of_loaded) keeps);
    } where
      one : kept image ≡ kept_among (store_of from) held_rule (completed_walk image)
      one = sym (shown-same (store_of from) (store_of image) held_rule (completed_walk image) same)
