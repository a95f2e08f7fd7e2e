-- A record that is removed from the list and unlinked from its chain loads as before, and once its state is 2 it loads as that of a doomed object.
use Rattle.std.proofs.Common.{◌≡◌, ℕ, [], ◌∷◌, refl, sym, subst, true, false, Ok, Some}
use Rattle.spec_image.specs.Footprint.{SameOutside}
use Rattle.spec_image.specs.Image.{Image}
use Rattle.spec_format.specs.Claims.{claims_of, has_claim, repeats}
use Rattle.spec_format.specs.Records.{entry_is_sealed}
use Rattle.spec_format.specs.Sealed.{record_range}
use Rattle.spec_folder.specs.ListImages.{IsWritable}
use Rattle.spec_folder.specs.Loads.{Loaded, all_claims, load, unchained_rule}
use Rattle.spec_folder.specs.View.{entry_at, list_of, store_of}
use Rattle.law_folder.proofs.states.OthersHold.{another-state, records-outside}
use Rattle.law_folder.proofs.walks.Loads.{load-then}
use Rattle.law_state.specs.Arranging.{LeavesFiles}
use Rattle.law_state.specs.Changes.{ChangesOnly}
use Rattle.law_state.specs.RemovalLaws.{IsRemovalDone}
use Rattle.law_state.proofs.RecordSteps.{doomed-leaves, doomed-only, doomed-outside, doomed-sealed, doomed-shown, rewritten}

-- while a node is removed from the list each record loads as before
pub loads-unlisted : (from between : Image) (node other : ℕ) (loaded : Loaded) → IsRemovalDone from other between → load (store_of from) (unchained_rule 0) node ≡ Ok loaded → load (store_of between) (unchained_rule 0) node ≡ Ok loaded
loads-unlisted from between node other loaded done loads = records-outside (λ claim. false) (store_of from) (store_of between) 0 node loaded loads done.partly.shown.store.store (λ claim has. refl)

-- the folder once a record has state 2
abbrev pub with_doomed : Image → Loaded → Image
with_doomed from loaded = rewritten from loaded.contents ((20, 2) ∷ [])

-- its record is that of a doomed object, with its checksum, and nothing else has changed
pub record IsDoomedRecord (from : Image) (node : ℕ) (loaded : Loaded) : Type 0 where
  pub outside : SameOutside (record_range loaded.contents) from (with_doomed from loaded)
  pub only : ChangesOnly (has_claim (claims_of loaded.contents)) from (with_doomed from loaded)
  pub leaves : LeavesFiles from (with_doomed from loaded)
  pub list : list_of (with_doomed from loaded) ≡ list_of from
  pub loads : load (store_of (with_doomed from loaded)) (unchained_rule 2) node ≡ Ok loaded
  pub sealed : entry_is_sealed (entry_at (with_doomed from loaded) loaded.contents) ≡ true

pub doomed-record : (from : Image) (node : ℕ) (loaded : Loaded) → IsWritable from → load (store_of from) (unchained_rule 0) node ≡ Ok loaded → repeats (all_claims loaded) ≡ false → IsDoomedRecord from node loaded
doomed-record from node loaded ready loads once = load-then (store_of from) (unchained_rule 0) node loaded loads (λ n e f.
    let here : (store_of from).entry loaded.contents ≡ Some e = subst (λ (w : ℕ). (store_of from).entry w ≡ Some e) (sym f.facts.contents_is) f.entry in
    let shown = doomed-shown from loaded.contents e ready here f.checks in
    record {
      outside = doomed-outside from loaded.contents e ready here f.checks;
      only = doomed-only from loaded.contents e ready here f.checks;
      leaves = doomed-leaves from loaded.contents e ready here f.checks;
      list = shown.0.rest.list;
      loads = another-state (store_of from) (store_of (with_doomed from loaded)) 0 2 node loaded e loads once
          (record { node_fields = shown.0.rest.node_fields; key_place = shown.0.rest.key_place; stored = shown.0.rest.stored }) here shown.1;
      sealed = doomed-sealed from loaded.contents e ready here f.checks;
    })
