-- States without one item, as a removal asks for them.
use Rattle.std.proofs.Common.{◌++◌, ◌≡◌, ◌≢◌, ℕ, List, [], ◌∷◌, refl, ap, sym, ◌∙◌, subst, Bool, true, false, arith, get_or, set, Option, None, Some, ⊎_elim, not}
use Rattle.std.specs.Prelude.{◌&&◌, is_some, slice_set}
use Rattle.std.specs.List.{filter}
use Rattle.std.specs.Str.{bytes_eq}
use Rattle.std.proofs.lemmas.Bool.{and_from, and_parts, cases_Bool}
use Rattle.std.proofs.lemmas.Bool.Decides.{eqb_tells}
use Rattle.std.proofs.Math.Dec.{eqb}
use Rattle.std.proofs.lemmas.List.{get_or-set_other, get_or-set_same}
use Rattle.blk_model.specs.Effects.{doomed}
use Rattle.blk_model.specs.Holding.{rest}
use Rattle.blk_model.specs.Items.{Item, main, part, same_item}
use Rattle.blk_model.specs.Room.{single, whole, without}
use Rattle.blk_model.specs.State.{IsValidState, Object, State, has_item, is_named, object_at, part_at}
use Rattle.blk_model.specs.Totals.{is_doomed_slot}
use Rattle.blk_model.proofs.Chosen.{Owner, has_owner, owned_at}
use Rattle.blk_model.proofs.Doomed.{state_doomed}
use Rattle.blk_model.proofs.Evicted.{state_without}
use Rattle.blk_model.proofs.Same.{bytes_eq_self, one_item, same_bytes, same_item_self}
use Rattle.blk_model.proofs.States.{has_main}
use Rattle.blk_model.proofs.StopRests.{owner_live}
use Rattle.spec_folder.specs.Layout.{is_listed}
use Rattle.spec_folder.specs.Removal.{is_of_another, without_items}
use Rattle.law_folder.proofs.commands.Opening.{first-some}
use Rattle.law_folder.proofs.claims.Owner.{its-key}
use Rattle.law_folder.proofs.commands.Touches.{in-times}
use Rattle.spec_folder.specs.Sound.{words_of}
use Rattle.law_state.specs.Changes.{Finds}
use Rattle.law_state.specs.Keeping.{KeepsUncounted}
use Rattle.law_state.specs.CommandEnds.{without_part}
use Rattle.law_state.specs.RemovalLaws.{IsWithout, layout_removed}
use Rattle.law_state.specs.PlainRemovals.{DoomedObjectsAreRemoved, HeldDoomsEnd, LonePartsAreRemoved, LonePartsGo, PlainGroupsGo, PartGoneIsWithout, RemovingFindsDoomed, RemovingFindsPartGone, UnheldDoomsEnd}
use Rattle.law_state.specs.DoomLaws.{layout_doomed}
use Rattle.law_state.proofs.ChangedStates.{unheld-go}
use Rattle.law_state.proofs.CommandEnding.{dooms-end, groups-turn}
use Rattle.law_state.proofs.Doomed.{objects-doomed}
use Rattle.law_state.proofs.GroupsGone.{parts-go-alone, whole-groups-go}
use Rattle.law_state.proofs.NotAtRest.{within-slots}
use Rattle.law_state.proofs.PartChanges.{parts-left-out}
use Rattle.law_state.proofs.Removals.{removed-unlinked, unlinking-finds}

same-sym : (i j : Item) → same_item i j ≡ same_item j i
same-sym i j = ⊎_elim
    (λ (e : same_item i j ≡ true). e ∙ sym (subst (λ (k : Item). same_item j k ≡ true) (sym (one_item i j e)) (same_item_self j)))
    (λ (e : same_item i j ≡ false). e ∙ sym (⊎_elim
    (λ (h : same_item j i ≡ true). absurd (let z : true ≡ false = sym (subst (λ (k : Item). same_item i k ≡ true) (sym (one_item j i h)) (same_item_self i)) ∙ e in cc))
    (λ (h : same_item j i ≡ false). h)
    (cases_Bool (same_item j i))))
    (cases_Bool (same_item i j))

-- another slot under the number of a live object
module _ (state : State) (number : ℕ) (object : Object) (slot : Option Object) (here : object_at state number ≡ Some object) (live : object.live ≡ true) where
  abbrev after : List (Option Object)
  after = set state.objects number slot

  there : get_or after number None ≡ slot
  there = get_or-set_same state.objects number slot None (within-slots state.objects number object here)

  elsewhere : (m : ℕ) → m ≢ number → get_or after m None ≡ object_at state m
  elsewhere m apart = get_or-set_other state.objects number m slot None apart

  same-dead : is_doomed_slot slot ≡ false → (m : ℕ) → is_doomed_slot (get_or after m None) ≡ is_doomed_slot (object_at state m)
  same-dead none m = ⊎_elim
      (λ (q : (eqb m number ≡ true) × (m ≡ number)).
      let was : is_doomed_slot (object_at state m) ≡ false = ap (λ (k : ℕ). is_doomed_slot (object_at state k)) q.1 ∙ ap is_doomed_slot here ∙ ap not live in
      ap (λ (k : ℕ). is_doomed_slot (get_or after k None)) q.1 ∙ ap is_doomed_slot there ∙ none ∙ sym was)
      (λ (q : (eqb m number ≡ false) × (m ≢ number)). ap is_doomed_slot (elsewhere m q.1))
      (eqb_tells m number)

-- an object without parts has no part
no-part : (object : Object) (k : List ℕ) (m : ℕ) → object.parts ≡ [] → has_item object (part k m) ≡ true → ⊥
no-part object k m none has =
    let e : is_some (part_at object m) ≡ false = ap (λ ps. is_some (part_at (record object { parts = ps }) m)) none in
    let some : is_some (part_at object m) ≡ true = (and_parts (object.live && bytes_eq k object.key) (is_some (part_at object m)) has).1 in
    (let z : true ≡ false = sym some ∙ e in cc)

-- ---- an object without parts and handles

module _ (state : State) (number : ℕ) (object : Object) (valid : IsValidState state) (here : object_at state number ≡ Some object) (live : object.live ≡ true) where
  abbrev keep : Item → Bool
  keep = is_of_another object.key

  -- a listed item of its key is its main item, if it has no parts
  own-main : object.parts ≡ [] → (k : List ℕ) (m : ℕ) → is_listed state (part k m) ≡ true → bytes_eq object.key k ≡ false
  own-main none k m listed = ⊎_elim
      (λ (e : bytes_eq object.key k ≡ true).
      let some = in-times (part k m) state.uses listed in let all = valid.listed (part k m) in
      let o : Owner state (part k m) = has_owner state (part k m) (omega (arith, some, all)) in
      let key : object.key ≡ o.object.key = same_bytes object.key k e ∙ its-key o.object (part k m) o.has in
      let mine = owned_at state valid number object (main object.key) here (has_main object live) in
      let theirs = owned_at state valid o.number o.object (main object.key) o.here (subst (λ (x : List ℕ). has_item o.object (main x) ≡ true) (sym key) (has_main o.object (owner_live o.object (part k m) o.has))) in
      let n : ◌≡◌ {A = Option ℕ} (Some o.number) (Some number) = sym theirs ∙ mine in
      let number_is : o.number ≡ number = cc in
      let c : ◌≡◌ {A = Option Object} (Some o.object) (Some object) = sym o.here ∙ ap (object_at state) number_is ∙ here in
      let same : o.object ≡ object = cc in
      absurd (no-part object k m none (subst (λ (x : Object). has_item x (part k m) ≡ true) same o.has)))
      (λ (e : bytes_eq object.key k ≡ false). e)
      (cases_Bool (bytes_eq object.key k))

-- so without parts and handles an object is removed whole
doomed-without : (state : State) (number : ℕ) (object : Object) → IsValidState state → object_at state number ≡ Some object → object.live ≡ true → object.parts ≡ [] → is_named state number ≡ false
    → IsWithout state (doomed number state (Some object)).objects (is_of_another object.key) (main object.key) × (doomed number state (Some object) ≡ without_items state (doomed number state (Some object)).objects (is_of_another object.key))
doomed-without state number object valid here live none unnamed = unheld-go state number object valid here live unnamed
    (λ n. ⊎_elim (λ (e : is_listed state (part object.key n) ≡ true). absurd (let z : true ≡ false = sym (bytes_eq_self object.key) ∙ own-main state number object valid here live none object.key n e in cc)) (λ (e : is_listed state (part object.key n) ≡ false). e) (cases_Bool (is_listed state (part object.key n))))
    (state_doomed state valid number object here live)

-- ---- a part

module _ (state : State) (number n : ℕ) (object : Object) (valid : IsValidState state) (here : object_at state number ≡ Some object) (live : object.live ≡ true) where
  part-gone-is : without_items state (slice_set state.objects number (Some (without_part object n))) (λ item. not (same_item item (part object.key n))) ≡ without (single object.key n ∷ []) state
  part-gone-is = (λ i. record state { objects = slice_set state.objects number (Some (without_part object n)); uses = filter (λ item. not (same-sym item (part object.key n) i)) state.uses }) ∙ sym (parts-go-alone state number object n valid here live)

  part-gone-valid : IsValidState (without_items state (slice_set state.objects number (Some (without_part object n))) (λ item. not (same_item item (part object.key n))))
  part-gone-valid = subst IsValidState (sym part-gone-is) (state_without state valid [] (single object.key n ∷ []) (refl, tt))

pub part-gone-without : PartGoneIsWithout
part-gone-without state number n object valid here live some = (
  record {
    listed = first-some state (part object.key n) number valid (owned_at state valid number object (part object.key n) here (and_from (object.live && bytes_eq object.key object.key) (is_some (part_at object n)) (and_from object.live (bytes_eq object.key object.key) live (bytes_eq_self object.key)) some));
    but = λ other listed. ap not (same-sym other (part object.key n));
    less = parts-left-out state valid number object here live n;
    valid = part-gone-valid state number n object valid here live;
    dead = same-dead state number object (Some (without_part object n)) here live (ap not live);
    unsettled = λ m o is lives loose. ⊎_elim
        (λ (q : (eqb m number ≡ true) × (m ≡ number)).
        let c : ◌≡◌ {A = Option Object} (Some (without_part object n)) (Some o) = sym (there state number object (Some (without_part object n)) here live) ∙ ap (λ (k : ℕ). get_or (set state.objects number (Some (without_part object n))) k None) (sym q.1) ∙ is in
        let same : without_part object n ≡ o = cc in
        (object, ap (object_at state) q.1 ∙ here, ap (λ (x : Object). x.key) same, live, ap (λ (x : Object). x.settled) same ∙ loose))
        (λ (q : (eqb m number ≡ false) × (m ≢ number)). (o, sym (elsewhere state number object (Some (without_part object n)) here live m q.1) ∙ is, refl, lives, loose))
        (eqb_tells m number);
  },
  part-gone-is state number n object valid here live,
)

-- ---- removals

abbrev part_slots : State → ℕ → Object → ℕ → List (Option Object)
part_slots state number object n = slice_set state.objects number (Some (without_part object n))

abbrev keeps_but : Object → ℕ → Item → Bool
keeps_but object n item = not (same_item item (part object.key n))

pub removing-doomed : RemovingFindsDoomed
removing-doomed state layout unlinked from image number object was k here live none unnamed =
    let w = doomed-without state number object k.valid here live none unnamed in
    let keep = is_of_another object.key in (
      λ r. subst (λ (m : State). Finds (rest m) image) (sym w.1) ((unlinking-finds state layout unlinked (doomed number state (Some object)).objects keep (main object.key) was from r.between image k w.0 r.here r.unlisted).0 r.unlinking),
      λ r. subst (λ (m : State). Finds (rest m) image) (sym w.1) ((unlinking-finds state layout unlinked (doomed number state (Some object)).objects keep (main object.key) was from r.between image k w.0 r.here r.unlisted).1 r.unlinking),
    )

pub doomed-removed : DoomedObjectsAreRemoved
doomed-removed state layout unlinked from image number object was k here live none unnamed r =
    let w = doomed-without state number object k.valid here live none unnamed in
    subst (λ (m : State). KeepsUncounted m (layout_removed layout (layout.place (main object.key)) was.contents) (words_of was ++ unlinked) image) (sym w.1)
    (removed-unlinked state layout unlinked (doomed number state (Some object)).objects (is_of_another object.key) (main object.key) was from r.removing.between image k w.0 r.removing.here r.removing.unlisted r.removing.unlinking r.leaves r.sealed)

pub removing-part : RemovingFindsPartGone
removing-part state layout unlinked from image number n object was k here live some =
    let w = part-gone-without state number n object k.valid here live some in
    let keep = keeps_but object n in (
      λ r. subst (λ (m : State). Finds (rest m) image) w.1 ((unlinking-finds state layout unlinked (part_slots state number object n) keep (part object.key n) was from r.between image k w.0 r.here r.unlisted).0 r.unlinking),
      λ r. subst (λ (m : State). Finds (rest m) image) w.1 ((unlinking-finds state layout unlinked (part_slots state number object n) keep (part object.key n) was from r.between image k w.0 r.here r.unlisted).1 r.unlinking),
    )

pub part-removed : LonePartsAreRemoved
part-removed state layout unlinked from image number n object was k here live some r =
    let w = part-gone-without state number n object k.valid here live some in
    subst (λ (m : State). KeepsUncounted m (layout_removed layout (layout.place (part object.key n)) was.contents) (words_of was ++ unlinked) image) w.1
    (removed-unlinked state layout unlinked (part_slots state number object n) (keeps_but object n) (part object.key n) was from r.removing.between image k w.0 r.removing.here r.removing.unlisted r.removing.unlinking r.leaves r.sealed)

-- ---- Doom and DoomKey

pub unheld-dooms-end : UnheldDoomsEnd
unheld-dooms-end state moment request layout unlinked from image number object was k passes is here live none unnamed removed =
    subst (λ (m : State). KeepsUncounted m (layout_removed layout (layout.place (main object.key)) was.contents) (words_of was ++ unlinked) image) (sym (dooms-end state moment request number object passes is here))
    (doomed-removed state layout unlinked from image number object was k here live none unnamed removed)

pub held-dooms-end : HeldDoomsEnd
held-dooms-end state moment request layout unlinked from between image number object was k passes is can done unchained =
    subst (λ (m : State). KeepsUncounted m (layout_doomed layout number (layout.place (main object.key)) was) unlinked image) (sym (dooms-end state moment request number object passes is can.lies.here))
    (objects-doomed state layout unlinked number object was from between image k can done unchained)

-- ---- eviction units

pub plain-groups-go : PlainGroupsGo
plain-groups-go state first layout unlinked from image number object parts was k here live none unnamed removed =
    subst (λ (m : State). KeepsUncounted m (layout_removed layout (layout.place (main object.key)) was.contents) (words_of was ++ unlinked) image)
    (sym (whole-groups-go (without first state) number object parts k.valid here live unnamed) ∙ groups-turn state first (whole object.key parts ∷ []))
    (doomed-removed (without first state) layout unlinked from image number object was k here live none unnamed removed)

pub lone-parts-go : LonePartsGo
lone-parts-go state first layout unlinked from image number n object was k here live some removed =
    subst (λ (m : State). KeepsUncounted m (layout_removed layout (layout.place (part object.key n)) was.contents) (words_of was ++ unlinked) image) (groups-turn state first (single object.key n ∷ []))
    (part-removed (without first state) layout unlinked from image number n object was k here live some removed)
