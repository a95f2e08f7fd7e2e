-- A repaired folder represents the state of what it holds.
use Rattle.std.proofs.Common.{◌≡◌, ℕ, true, List, [], ◌++◌, ◌∷◌, ◌%◌, ◌^◌, ◌==◌, Bool, false, Option, Some, length, refl, sym, ap, ◌∙◌, subst}
use Rattle.std.specs.List.{AllByRecursion, flat_map, sum_by}
use Rattle.std.proofs.lemmas.List.{length-map}
use Rattle.spec_image.specs.Image.{Image}
use Rattle.spec_format.specs.Headers.{counting}
use Rattle.blk_model.specs.Items.{IsValidHolding, item_of}
use Rattle.blk_model.specs.State.{Bounds, State}
use Rattle.blk_model.specs.Holding.{open_state}
use Rattle.blk_model.proofs.Opened.{open_valid}
use Rattle.spec_folder.specs.Loads.{Loaded}
use Rattle.spec_folder.specs.Found.{charge_of, kept, found, row_of_loaded}
use Rattle.spec_folder.specs.Layout.{Layout, order}
use Rattle.spec_folder.specs.Sound.{AreSealed, CountersAgree, words_of}
use Rattle.spec_folder.specs.Tidy.{IsTidy, loaded_at}
use Rattle.law_folder.proofs.states.Standing.{kept-at}
use Rattle.law_recovery.specs.Mended.{IsMended}
use Rattle.law_recovery.specs.MendedLinks.{first_that, kept_layout}
use Rattle.law_recovery.specs.MendedStates.{MendedFoldersHaveTheirState}
use Rattle.law_recovery.proofs.FoundHolding.{found-holding}
use Rattle.law_recovery.proofs.Mended.{allocated-here, append-none, listed-same}
use Rattle.law_recovery.proofs.MendedLinks.{mended-represents, rows-are}

-- the first of some that passes a test has its checksum, as all have
first-sealed : (image : Image) (test : Loaded → Bool) (ks : List Loaded) (k : Loaded) → AllByRecursion (AreSealed image) ks → first_that test ks ≡ Some k → AreSealed image k
first-sealed image test [] k all is = cc
first-sealed image test (x ∷ xs) k all is = go (test x) refl (first-sealed image test xs k all.1) is where
  same : {a b : Loaded} → ◌≡◌ {A = Option Loaded} (Some a) (Some b) → a ≡ b
  same e = cc

  go : (b : Bool) → test x ≡ b → (first_that test xs ≡ Some k → AreSealed image k) → first_that test (x ∷ xs) ≡ Some k → AreSealed image k
  go true t more h = let one : ◌≡◌ {A = Option Loaded} (Some x) (Some k) = rw t at h in subst (AreSealed image) (same one) all.0
  go false f more h = more (rw f at h)

module _ (image : Image) (limits : Bounds) (mended : IsMended image) (valid : IsValidHolding (found image)) where
  abbrev state : State
  state = open_state (found image) limits

  abbrev layout : Layout
  layout = kept_layout image

  loaded-is : loaded_at layout (order state layout) ≡ kept image
  loaded-is = sym (kept-at image state layout (mended-represents image limits mended.links valid) (open_valid (found image) limits valid)) ∙ listed-same image limits mended valid

  all-loaded : loaded_at layout (order state layout ++ []) ≡ kept image
  all-loaded = ap (loaded_at layout) (append-none (order state layout)) ∙ loaded-is

  many : length (kept image) ≡ length state.uses
  unfolding open_state
  many = sym (length-map (kept image) row_of_loaded) ∙ ap length (sym (rows-are image limits mended.links valid)) ∙ sym (length-map (found image) item_of)

  sealed-at : (node : ℕ) (loaded : Loaded) → layout.at node ≡ Some loaded → AreSealed image loaded
  unfolding kept_layout
  sealed-at node loaded here = first-sealed image (λ k. k.node == node) (kept image) loaded mended.sealed here

  tidy : IsTidy image state layout []
  tidy = record {
    only_linked = mended.only.only_linked;
    long_enough = mended.files.long_enough;
    counted = λ n linked. subst (λ (ks : List Loaded). CountersAgree image (flat_map words_of ks) n) (sym all-loaded) (mended.files.counted n linked);
    counts = mended.counters ∙ ap (λ (n : ℕ). counting n (sum_by charge_of (kept image))) many ∙ ap (λ (ks : List Loaded). counting (length state.uses) (sum_by charge_of ks)) (sym loaded-is);
    sealed = sealed-at;
  }

pub mended-state : MendedFoldersHaveTheirState
mended-state image limits mended are =
    let valid : IsValidHolding (found image) = found-holding image are in
    record {
      valid = open_valid (found image) limits valid;
      well_formed = mended.links.well_formed;
      represents = mended-represents image limits mended.links valid;
      allocated = allocated-here image limits mended valid;
      tidy = tidy image limits mended valid;
    }
