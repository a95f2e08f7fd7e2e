-- What lies in unlinked places loads yet, by itself, while others are freed and counted no longer.
use Rattle.std.proofs.Common.{◌≡◌, ◌⊎◌, inl, inr, ⊎_elim, ℕ, List, [], ◌∷◌, ◌++◌, refl, ap, sym, ◌∙◌, subst, lit≤, Bool, true, false, None, Ok}
use Rattle.std.proofs.lemmas.Bool.{cases_Bool, or_right}
use Rattle.std.proofs.lemmas.Grind.{flat_map-append}
use Rattle.spec_image.specs.Image.{Image}
use Rattle.blk_model.specs.Items.{Item}
use Rattle.blk_model.specs.State.{State}
use Rattle.spec_format.specs.Address.{external_number}
use Rattle.spec_format.specs.Claims.{Claim, ExternalOf, claims_of, claims_of_all, has_claim, same_claim}
use Rattle.spec_folder.specs.Footprint.{AgreeBut, is_absent}
use Rattle.spec_folder.specs.Layout.{Layout}
use Rattle.spec_folder.specs.Loads.{Loaded, load, unchained_rule}
use Rattle.spec_folder.specs.View.{store_of}
use Rattle.law_folder.proofs.claims.ByteChanges.{agreeing-views}
use Rattle.law_folder.proofs.claims.ClaimLists.{claim-append}
use Rattle.law_folder.proofs.claims.Files.{growth-absent, words-there}
use Rattle.law_folder.proofs.claims.Outside.{AreClear, all-clear, load-outside}
use Rattle.law_folder.proofs.states.Marking.{repeats-apart}
use Rattle.law_state.specs.Changes.{ChangesOnly, RemovesAllocation, RemovesExternal}
use Rattle.law_state.specs.PartlyOut.{KeepsPartlyOut}
use Rattle.law_state.proofs.Free.{AreStanding, sealed-same, standing-loaded}
use Rattle.law_state.proofs.MakingFiles as making
use Rattle.law_state.proofs.Writes.{index-words}
use Rattle.blk_object.specs.Freeing.{RemovesPlace}
use Rattle.blk_object.specs.UnlinkedLoads.{CountedLessKeepsUnlinked, FreedWordsKeepUnlinked, KeepsUnlinked, LiesUnlinked}
use Rattle.blk_object.proofs.FreedPlaces.{place-out}

-- a layout in which each record has one state
abbrev bare : ℕ → Layout
bare state = record { place = λ item. 0; place_of_doomed = λ n. 0; at = λ n. None; state = λ n. state; chains = λ n. []; owner = λ claim. None }

pub unlinked-stands : (image : Image) (state node : ℕ) (l : Loaded) → load (store_of image) (unchained_rule state) node ≡ Ok l → AreStanding image l
unlinked-stands image state node l loads = standing-loaded image (bare state) node l loads

-- a change outside unlinked places
pub agrees-keep : (touched : Claim → Bool) (from image : Image) → AgreeBut touched from image → (unlinked : List ℕ) → ((c : Claim) → has_claim (claims_of_all unlinked) c ≡ true → touched c ≡ false) → KeepsUnlinked unlinked from image
agrees-keep touched from image agree unlinked apart state node l u = record {
  loads = load-outside touched (store_of from) (store_of image) (agreeing-views touched from image agree).store (unchained_rule state) node l refl u.loads clear;
  sealed = sealed-same touched from image agree l (unlinked-stands from state node l u.loads) clear.node clear.contents u.sealed;
  among = u.among;
  once = u.once;
} where
  clear : AreClear touched l
  clear = all-clear touched l (λ c has. apart c (u.among c has))

-- ---- freed

place-keeps : (state : State) (layout : Layout) (keep : Item → Bool) (chains : ℕ → List ℕ) (w : ℕ) (unlinked : List ℕ) (from image : Image) → KeepsPartlyOut state layout keep chains (w ∷ unlinked) from → RemovesPlace w from image → KeepsUnlinked unlinked from image
place-keeps state layout keep chains w unlinked from image k r = by r.removed where
  by : RemovesAllocation from w image ⊎ RemovesExternal from w image → KeepsUnlinked unlinked from image
  by (inl a) = agrees-keep (is_absent from) from image (growth-absent from image a.grown) unlinked (λ c has. words-there from unlinked c k.stand.1 has)
  by (inr a) = agrees-keep (λ claim. same_claim claim (ExternalOf (external_number w))) from image a.agree unlinked (λ c has. ⊎_elim
      (λ (t : same_claim c (ExternalOf (external_number w)) ≡ true). absurd (let z : true ≡ false = sym has ∙ repeats-apart (claims_of w) (claims_of_all unlinked) c k.single (making.claims-it w from image a c ∙ t) in cc))
      (λ (t : same_claim c (ExternalOf (external_number w)) ≡ false). t)
      (cases_Bool (same_claim c (ExternalOf (external_number w)))))

pub freed-keeps : FreedWordsKeepUnlinked
freed-keeps state layout keep chains [] unlinked from image is k = λ s n l u. subst (LiesUnlinked unlinked s n l) (sym is) u
freed-keeps state layout keep chains (w ∷ words) unlinked from image r k = λ s n l u.
    let wider : LiesUnlinked (words ++ unlinked) s n l from = record {
      loads = u.loads;
      sealed = u.sealed;
      among = λ c has. ap (λ (cs : List Claim). has_claim cs c) (flat_map-append claims_of words unlinked) ∙ claim-append (claims_of_all words) (claims_of_all unlinked) c ∙ or_right (has_claim (claims_of_all words) c) (has_claim (claims_of_all unlinked) c) (u.among c has);
      once = u.once;
    } in
    let then_there = place-keeps state layout keep chains w (words ++ unlinked) from r.0 k r.1.0 s n l wider in
    freed-keeps state layout keep chains words unlinked r.0 image r.1.1 (place-out state layout keep chains w (words ++ unlinked) from r.0 r.1.0 k) s n l
    (record { loads = then_there.loads; sealed = then_there.sealed; among = u.among; once = u.once })

-- ---- counted less

abbrev none : Claim → Bool
none claim = false

hidden-keeps : (unlinked : List ℕ) (from image : Image) → ChangesOnly none from image → KeepsUnlinked unlinked from image
hidden-keeps unlinked from image only = agrees-keep none from image only.agree unlinked (λ c has. refl)

pub counted-keeps : CountedLessKeepsUnlinked
counted-keeps charge unlinked from image a s n l u =
    let sum = a.written.sum_written in
    hidden-keeps unlinked a.written.second image (index-words a.written.second image 268 refl (lit≤ tt) refl refl refl a.written.nodes_written.outside) s n l
    (hidden-keeps unlinked sum.between a.written.second (index-words sum.between a.written.second 52 refl (lit≤ tt) refl refl refl sum.high.outside) s n l
    (hidden-keeps unlinked a.written.first sum.between (index-words a.written.first sum.between 48 refl (lit≤ tt) refl refl refl sum.low.outside) s n l
    (hidden-keeps unlinked from a.written.first (index-words from a.written.first 8 refl (lit≤ tt) refl refl refl a.written.items_written.outside) s n l u)))
