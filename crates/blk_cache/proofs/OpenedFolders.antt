-- A recovered folder keeps what it held, opened, and a made one may be recovered.
use Rattle.std.proofs.Common.{◌≡◌, ◌≢◌, ◌⊎◌, inl, inr, ℕ, ◌+◌, ◌%◌, ◌^◌, Bool, true, false, ◌&&◌, List, [], ◌∷◌, length, map, Option, Some, IfSome, refl, sym, ap, subst, ◌∙◌, arith}
use Rattle.std.specs.Prelude.{◌==◌, if◌then◌else◌}
use Rattle.std.specs.List.{flat_map, sum_by}
use Rattle.std.proofs.lemmas.Bool.{eq-eqb}
use Rattle.std.proofs.lemmas.List.{length-map}
use Rattle.std.proofs.lemmas.List.Elements.{All-nil}
use Rattle.spec_image.specs.Image.{Image, Index, byte}
use Rattle.spec_image.specs.Footprint.{one_word}
use Rattle.spec_image.proofs.Footprints.{outside-refl}
use Rattle.blk_model.specs.Items.{IsValidHolding, Row}
use Rattle.blk_model.specs.Room.{items, total}
use Rattle.blk_model.specs.State.{State, Object, Bounds, is_named, object_at}
use Rattle.blk_model.specs.Holding.{open_state}
use Rattle.blk_model.proofs.Opened.{open_valid}
use Rattle.spec_format.specs.BlockFiles.{is_among, IsWellFormed}
use Rattle.spec_format.specs.Session.{session_after}
use Rattle.spec_format.proofs.Counts.{its-version}
use Rattle.spec_format.proofs.Finished.{well_formed-finished, sound-of}
use Rattle.spec_folder.specs.Audit.{kept_by}
use Rattle.spec_folder.specs.Found.{charge_of, found, kept, row_of_loaded}
use Rattle.spec_folder.specs.ListImages.{completed_walk}
use Rattle.spec_folder.specs.Loads.{Loaded, listed_rule}
use Rattle.spec_folder.specs.Sound.{words_of}
use Rattle.spec_folder.specs.Tidy.{HasState}
use Rattle.spec_folder.specs.View.{list_of, view_of}
use Rattle.law_folder.specs.BareLaws.{HasNoEntries}
use Rattle.law_folder.specs.ChargeLaws.{AreOpenedTotals}
use Rattle.law_folder.proofs.states.Bare.{bare-found, bare-sound}
use Rattle.law_folder.proofs.states.Central.{walk-idle}
use Rattle.law_folder.proofs.states.Charges.{opened-totals}
use Rattle.law_folder.proofs.states.NewFolders.{new-bare, new-formed}
use Rattle.law_state.specs.Keeping.{IsInSession, KeepsSome}
use Rattle.law_state.proofs.Opened.{opened-kept}
use Rattle.law_recovery.specs.ChainRepair.{is_kept_record}
use Rattle.law_recovery.specs.Mended.{IsMended}
use Rattle.law_recovery.specs.MendedLinks.{kept_layout}
use Rattle.law_recovery.proofs.FoundHolding.{found-holding}
use Rattle.law_recovery.proofs.LinkRepair.{kept-walked}
use Rattle.law_recovery.proofs.Mended.{listed-same}
use Rattle.law_recovery.proofs.MendedLinks.{mended-represents}
use Rattle.law_recovery.proofs.MendedStates.{mended-state}
use Rattle.law_recovery.proofs.SoundFolders.{sound-mended}
use Rattle.blk_addr.specs.Claims.{IsClaimsOf}
use Rattle.blk_scan.specs.declared.chains.KeptChains.{KeptChains}
use Rattle.blk_scan.specs.declared.scan.Dropped.{Dropped}
use Rattle.blk_scan.specs.declared.scan.Scan.{Scan}
use Rattle.blk_scan.specs.Scans.{AreBare, AreChainsTold, IsEmptyScan, IsScanOf, dropped_by_told, kept_as_told}
use Rattle.blk_repair.specs.Repair.{IsRepaired}
use Rattle.blk_cache.specs.OpeningLaws.{MadeFoldersAreRepairable, RepairedFoldersHaveTheToldTotals, RepairedFoldersKeepTheirState}
use Rattle.blk_cache.proofs.Unnamed.{opened-unnamed}

-- ---- a recovered folder

next-some : (id : ℕ) → session_after id ≢ 0
next-some id = go ((id + 1) % 2 ^ 32 == 0) refl where
  go : (b : Bool) → ((id + 1) % 2 ^ 32 == 0) ≡ b → (if b then 1 else (id + 1) % 2 ^ 32) ≢ 0
  go true is e = absurd (omega (arith, e))
  go false is e = let c : true ≡ false = sym (eq-eqb ((id + 1) % 2 ^ 32) 0 e) ∙ is in cc

-- all objects of an opened state are clean
all-settled : (rows : List Row) (limits : Bounds) → IsValidHolding rows → (number : ℕ) (object : Object) → object_at (open_state rows limits) number ≡ Some object → object.live ≡ true → object.settled ≡ false → ⊥
all-settled rows limits valid number object here live unsettled =
    let held : IfSome (Some object) (λ o. (o.live && o.settled ≡ false) → is_named (open_state rows limits) number ≡ true) =
    subst (λ (o : Option Object). IfSome o (λ o. (o.live && o.settled ≡ false) → is_named (open_state rows limits) number ≡ true)) here ((open_valid rows limits valid).held number) in
    let loose : object.live && object.settled ≡ false = rw (live, unsettled) refl in
    let c : false ≡ true = sym (opened-unnamed rows limits number) ∙ held loose in
    cc

in-session : (entry image : Image) (limits : Bounds) → IsRepaired entry image → IsValidHolding (found image) → IsInSession image (open_state (found image) limits) (kept_layout image)
in-session entry image limits r valid = record {
  crash = r.crash;
  id = λ e. next-some _ (sym r.id_is ∙ e);
  marked = λ number object here live unsettled. absurd (all-settled (found image) limits valid number object here live unsettled);
}

pub repaired-kept : RepairedFoldersKeepTheirState
repaired-kept entry image limits r are =
    let state : State = open_state (found image) limits in
    let has : HasState state (kept_layout image) [] image = mended-state image limits r.mended are in
    let here : KeepsSome state image = (
      kept_layout image,
      opened-kept image image image state (kept_layout image) [] has.valid (sound-of image has.well_formed) has.represents has.allocated has.tidy (outside-refl (one_word Index 20) image) (outside-refl (one_word Index 32) image)
          (in-session entry image limits r (found-holding image are)),
    ) in
    subst (λ (rows : List Row). KeepsSome (open_state rows limits) image) r.found_same here

pub told-totals : RepairedFoldersHaveTheToldTotals
told-totals scan entry image limits told r are =
    let valid : IsValidHolding (found image) = found-holding image are in
    let state : State = open_state (found image) limits in
    let t : AreOpenedTotals image state = opened-totals image limits (kept_layout image) (mended-represents image limits r.mended.links valid) (open_valid (found image) limits valid) in
    let ks : kept_by listed_rule (view_of image) ≡ kept entry = listed-same image limits r.mended valid ∙ r.kept_same in
    record {
      items_told = ap length told.kept_told ∙ length-map (kept entry) kept_as_told ∙ sym (ap length ks) ∙ sym t.count ∙ ap (λ (rows : List Row). items (open_state rows limits)) r.found_same;
      bytes_told = told.bytes ∙ sym (ap (λ (l : List Loaded). sum_by charge_of l) ks) ∙ sym t.bytes ∙ ap (λ (rows : List Row). total (open_state rows limits)) r.found_same;
    }

-- ---- a made folder

no-rows : (ks : List Loaded) → map row_of_loaded ks ≡ [] → ks ≡ []
no-rows [] e = refl
no-rows (k ∷ ks) e = cc

of-none : (ks : List Loaded) → ks ≡ [] → (w : ℕ) → (is_among (map (λ k. k.node) ks) w ≡ true) ⊎ (is_kept_record ks w ≡ true) → ⊥
of-none [] e w (inl among) = cc
of-none [] e w (inr good) = cc
of-none (k ∷ ks) e w of = cc

module _ (image : Image) (bare : HasNoEntries image) (formed : IsWellFormed image) where
  kept-none : kept image ≡ []
  unfolding found
  kept-none = no-rows (kept image) (sym (rows image formed) ∙ bare-found image bare) where
    rows : (i : Image) → IsWellFormed i → found i ≡ map row_of_loaded (kept i)
    rows i f = rw (well_formed-finished i f) refl

  mended : IsMended image
  mended = sound-mended image (bare-sound image bare formed) (its-version (byte image Index) 0 0 bare.index.counts)

  walk-none : completed_walk image ≡ []
  walk-none = walk-idle (list_of image) mended.links.rests.idle ∙ sym (kept-walked image mended.links) ∙ ap (λ (ks : List Loaded). map (λ k. k.node) ks) kept-none

  bare-none : AreBare image []
  bare-none = record { are_kept = All-nil _; others = λ w of. absurd (of-none (kept image) kept-none w of) }

  scanned : (scan : Scan) → IsEmptyScan scan → IsScanOf image scan
  scanned scan empty = record {
    walked = empty.walked ∙ sym walk-none;
    kept_told = empty.kept_told ∙ ap (λ (ks : List Loaded). map kept_as_told ks) (sym kept-none);
    kept_nodes = empty.kept_nodes ∙ ap (λ (ks : List Loaded). map (λ k. k.node) ks) (sym kept-none);
    dropped_told = ap (λ (ds : List Dropped). map dropped_by_told ds) empty.dropped ∙ sym (bare-sound image bare formed).nothing_dropped;
    claims = subst (λ (ks : List Loaded). IsClaimsOf scan.claims (flat_map words_of ks)) (sym kept-none) empty.claims;
    bytes = empty.bytes ∙ ap (λ (ks : List Loaded). sum_by charge_of ks) (sym kept-none);
    chains = subst (λ (o : Option KeptChains). AreChainsTold image o) (sym empty.chains) mended.links.chains;
    bare = subst (AreBare image) (sym empty.bare) bare-none;
  }

pub made-repairable : MadeFoldersAreRepairable
made-repairable moment image scan made empty =
    let bare : HasNoEntries image = new-bare moment image made in
    let formed : IsWellFormed image = new-formed moment image made in
    record { well_formed = formed; scanned = scanned image bare formed scan empty }
