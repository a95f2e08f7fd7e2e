-- What is found while an object is removed part after part.
use Rattle.std.proofs.Common.{◌≡◌, ℕ, List, [], ◌∷◌, refl, ap, sym, ◌∙◌, subst, Bool, true, false, Option, Some, None, ⊎_elim}
use Rattle.std.proofs.lemmas.Bool.{and_parts, cases_Bool, eq-eqb, or_left}
use Rattle.spec_image.specs.Image.{Image}
use Rattle.blk_model.proofs.Same.{same_item_self}
use Rattle.blk_model.specs.Effects.{doomed}
use Rattle.blk_model.specs.Holding.{rest}
use Rattle.blk_model.specs.Items.{Item, key_of, main, part, same_item}
use Rattle.blk_model.specs.Room.{without}
use Rattle.blk_model.specs.State.{Object, State, object_at}
use Rattle.spec_format.specs.Address.{external, external_number, kind_of}
use Rattle.spec_format.specs.BlockFiles.{is_among, HasSoundHeaders}
use Rattle.spec_format.specs.Claims.{Claim, ExternalOf, claims_of, claims_of_all, has_claim, same_claim}
use Rattle.spec_folder.specs.Footprint.{AgreeBut, is_absent}
use Rattle.spec_folder.specs.Layout.{HoldsExcept, Layout, is_listed, nodes_of}
use Rattle.law_folder.proofs.claims.ClaimLists.{claim-append, claim-head}
use Rattle.law_folder.proofs.claims.Files.{growth-absent}
use Rattle.law_folder.proofs.states.Laid.{same_claim-eq, same_claim-self}
use Rattle.law_folder.proofs.claims.ByteChanges.{not_equal, stands-some}
use Rattle.law_folder.proofs.states.OthersHold.{others-outside}
use Rattle.law_folder.proofs.states.OthersHold.{others-unlinked}
use Rattle.law_folder.proofs.states.OthersHold.{chained-only}
use Rattle.spec_folder.specs.ListView.{ListView}
use Rattle.spec_folder.specs.ListView.{IsAtRest}
use Rattle.spec_folder.specs.View.{list_of}
use Rattle.spec_folder.specs.View.{store_of}
use Rattle.std.specs.Prelude.{◌&&◌, ◌==◌, filter, not}
use Rattle.std.specs.Str.{bytes_eq}
use Rattle.spec_folder.specs.Removal.{is_of_another}
use Rattle.law_state.proofs.NextOut as next
use Rattle.law_state.specs.Changes.{Finds}
use Rattle.law_state.specs.GroupLaws.{gone_nodes, owners_without}
use Rattle.law_state.specs.PartlyOut.{KeepsPartlyOut, keeps_but}
use Rattle.law_state.specs.PartlyOutStops.{DeletingFindsDoomed, FreeingFindsDoomed, ItemsOfAKeyLeaveOthers, LeavesOtherKeys, NextPartsFindDoomed, PartlyOutDoomsMayStop, PartlyOutFindsDoomed, PartlyOutGroupsMayStop, PartlyOutIsOut, UnlinkingItemsFindsDoomed}
use Rattle.law_state.proofs.Externals.{file-agrees, file-headers}
use Rattle.law_state.proofs.Groups as groups
use Rattle.law_state.proofs.MakingFiles.{its-claims}
use Rattle.law_state.proofs.PartlyFreed.{holds-still, idle-still, left-there, list-still}
use Rattle.law_state.proofs.WordStops.{doomed-parts-find, dooms-stop, out-doomed, whole-groups-stop}

-- the node of an item that is kept isn't out
listed-there : (state : State) (layout : Layout) (keep : Item → Bool) (chains : ℕ → List ℕ) (unlinked : List ℕ) (image : Image) → KeepsPartlyOut state layout keep chains unlinked image
    → (item : Item) → is_listed state item ≡ true → keep item ≡ true → is_among (gone_nodes state layout keep) (layout.place item) ≡ false
listed-there state layout keep chains unlinked image k item listed stays = groups.stay-apart state layout keep k.numbers k.lies k.owners (layout.place item) (groups.stays-in state layout keep k.numbers k.lies k.owners item listed stays)

pub partly-out-is-out : PartlyOutIsOut
partly-out-is-out state layout key keep chains unlinked image leaves k = record {
  sound = k.sound;
  except = is_among (gone_nodes state layout keep);
  holds = k.holds;
  out = leaves.out;
  others = leaves.others;
  there = listed-there state layout keep chains unlinked image k;
  list = k.list;
}

pub partly-out-finds : PartlyOutFindsDoomed
partly-out-finds state layout number object keep chains unlinked image here leaves k =
    out-doomed state (record layout { chains = chains }) number object keep image k.valid here (partly-out-is-out state layout object.key keep chains unlinked image leaves k)

pub next-parts-find : NextPartsFindDoomed
next-parts-find state layout number object keep chains unlinked n from image here leaves k listed stays removed =
    doomed-parts-find state (record layout { chains = chains }) number object keep n from image k.valid here (partly-out-is-out state layout object.key keep chains unlinked from leaves k) listed stays removed

not-true : (b : Bool) → not b ≡ true → b ≡ false
not-true true e = absurd (let z : false ≡ true = e in cc)
not-true false e = refl

-- an item of another key is none of this one
other-item : (key : List ℕ) (own other : Item) → key_of own ≡ key → is_of_another key other ≡ true → same_item own other ≡ false
other-item key (main k) (main b) is e = ap (λ (x : List ℕ). bytes_eq x b) is ∙ not-true (bytes_eq key b) e
other-item key (main k) (part b m) is e = refl
other-item key (part k n) (main b) is e = refl
other-item key (part k n) (part b m) is e = ap (λ (x : List ℕ). bytes_eq x b && n == m) is ∙ ap (λ (t : Bool). t && n == m) (not-true (bytes_eq key b) e)

pub own-items-leave : ItemsOfAKeyLeaveOthers
own-items-leave key = (
  record { out = ap not (same_item_self (main key)); others = λ i other. ap not (other-item key (main key) i refl other) },
  λ keep n leaves. record {
    out = ap (λ (b : Bool). b && not (same_item (part key n) (main key))) leaves.out;
    others = λ i other. let a = leaves.others i other in let b = other-item key (part key n) i refl other in rw (a, b) refl;
  },
)

pub unlinking-items-find : UnlinkingItemsFindsDoomed
unlinking-items-find state layout number object keep chains unlinked item from between image here leaves k listed stays done u =
    out-doomed state now number object (keeps_but keep item) image k.valid here (record {
      sound = u.headers.sound (done.partly.headers.sound k.sound);
      except = gone;
      holds = others-unlinked gone (store_of between) (store_of image) state now between-holds u.word u.only (chained-only state layout k.lies u.bucket u.word u.small (k.chained u.bucket u.word u.small u.chained)) chains (record { whole = u.whole; chained = λ m l ordered is kept. k.holds.chained m l ordered is kept });
      out = leaves.out;
      others = leaves.others;
      there = λ i among kept. listed-there state layout keep chains unlinked from k i among (and_parts (keep i) (not (same_item item i)) kept).0;
      list = subst (λ (ls : ListView). IsAtRest ls (nodes_of layout (filter (keeps_but keep item) state.uses))) (sym u.list)
          (subst (IsAtRest (list_of between)) (sym (next.new-nodes state layout keep item k.valid listed stays))
          (done.removed (next.prefix state layout keep item k.valid listed stays) (next.suffix state layout keep item k.valid listed stays) (subst (IsAtRest (list_of from)) (next.old-nodes state layout keep item k.valid listed stays) k.list)));
    })
  where
    gone : ℕ → Bool
    gone = is_among (gone_nodes state layout keep)

    now : Layout
    now = record layout { chains = chains }

    between-holds : HoldsExcept gone (store_of between) state now
    between-holds = others-outside (λ claim. false) gone (store_of from) (store_of between) state now k.holds done.partly.shown.store.store done.partly.shown.store.table (λ claim node own excepted. refl) (λ bucket contents below among claim has. refl)

-- a change outside what is left leaves what is found
outside-finds : (touched : Claim → Bool) (state : State) (layout : Layout) (number : ℕ) (object : Object) (keep : Item → Bool) (chains : ℕ → List ℕ) (unlinked : List ℕ) (from image : Image) → object_at state number ≡ Some object → LeavesOtherKeys object.key keep
    → KeepsPartlyOut state layout keep chains unlinked from → AgreeBut touched from image → ((claim : Claim) (node : ℕ) → layout.owner claim ≡ Some node → is_among (gone_nodes state layout keep) node ≡ false → touched claim ≡ false) → HasSoundHeaders image
    → Finds (rest (doomed number state (Some object))) image
outside-finds touched state layout number object keep chains unlinked from image here leaves k agree apart formed =
    out-doomed state (record layout { chains = chains }) number object keep image k.valid here (record {
      sound = formed;
      except = is_among (gone_nodes state layout keep);
      holds = holds-still touched state layout keep chains unlinked from image k agree apart;
      out = leaves.out;
      others = leaves.others;
      there = listed-there state layout keep chains unlinked from k;
      list = record { whole = list-still touched state layout keep chains unlinked from image k agree apart; idle = idle-still touched state layout keep chains unlinked from image k agree apart };
    })

pub freeing-finds : FreeingFindsDoomed
freeing-finds state layout number object keep chains unlinked from image here leaves k grown formed =
    outside-finds (is_absent from) state layout number object keep chains unlinked from image here leaves k (growth-absent from image grown) (left-there state layout keep chains unlinked from k) (formed.sound k.sound)

pub deleting-doomed : DeletingFindsDoomed
deleting-doomed state layout number object keep chains w unlinked from image here leaves k kind same =
    outside-finds touched state layout number object keep chains (w ∷ unlinked) from image here leaves k (file-agrees from image (external_number w) same) apart ((file-headers from image (external_number w) same).sound k.sound)
  where
    touched : Claim → Bool
    touched claim = same_claim claim (ExternalOf (external_number w))

    claims : has_claim (claims_of w) (ExternalOf (external_number w)) ≡ true
    claims = ap (λ (cs : List Claim). has_claim cs (ExternalOf (external_number w))) (its-claims w (not_equal w 0 (stands-some from w k.stand.0)) (eq-eqb (kind_of w) external kind))
        ∙ claim-head (ExternalOf (external_number w)) [] (ExternalOf (external_number w)) ∙ or_left (same_claim (ExternalOf (external_number w)) (ExternalOf (external_number w))) _ (same_claim-self (ExternalOf (external_number w)))

    none : owners_without layout (gone_nodes state layout keep) (ExternalOf (external_number w)) ≡ None
    none = k.free (ExternalOf (external_number w)) (claim-append (claims_of w) (claims_of_all unlinked) (ExternalOf (external_number w)) ∙ or_left (has_claim (claims_of w) (ExternalOf (external_number w))) (has_claim (claims_of_all unlinked) (ExternalOf (external_number w))) claims)

    apart : (claim : Claim) (node : ℕ) → layout.owner claim ≡ Some node → is_among (gone_nodes state layout keep) node ≡ false → touched claim ≡ false
    apart claim node is stays = ⊎_elim
        (λ (e : touched claim ≡ true).
        let its : owners_without layout (gone_nodes state layout keep) claim ≡ None = ap (owners_without layout (gone_nodes state layout keep)) (same_claim-eq claim (ExternalOf (external_number w)) e) ∙ none in
        absurd (let z : ◌≡◌ {A = Option ℕ} (Some node) None = sym (groups.still-owned state layout keep k.numbers k.lies k.owners claim node is stays) ∙ its in cc))
        (λ (e : touched claim ≡ false). e)
        (cases_Bool (touched claim))

pub partly-out-dooms-stop : PartlyOutDoomsMayStop
partly-out-dooms-stop state moment request layout number object keep chains unlinked image can passes is here leaves k =
    dooms-stop state moment request number object false image k.valid can passes is here (partly-out-finds state layout number object keep chains unlinked image here leaves k)

pub partly-out-groups-stop : PartlyOutGroupsMayStop
partly-out-groups-stop state moment request first others layout number object parts keep chains unlinked image valid evicts here live unnamed leaves k =
    whole-groups-stop state moment request first others number object parts false image valid evicts k.valid here live unnamed (partly-out-finds (without first state) layout number object keep chains unlinked image here leaves k)
