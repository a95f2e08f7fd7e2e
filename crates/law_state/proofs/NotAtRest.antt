-- What is no matter for the durable contents: handles, doomed objects, and what a dirty object is.
use Rattle.std.proofs.Common.{◌≡◌, ◌≢◌, ℕ, zero, suc, ◌+◌, ◌<◌, ◌≤◌, List, [], ◌∷◌, length, refl, ap, ap₂, sym, ◌∙◌, Bool, true, false, arith, cond, get_or, set, Option, Some, None, ⊎_elim, not}
use Rattle.std.specs.Option.{option_and_then}
use Rattle.std.specs.List.{filter, filter_map, cons_option}
use Rattle.std.specs.Str.{bytes_eq}
use Rattle.std.proofs.lemmas.Bool.{cases_Bool}
use Rattle.std.proofs.lemmas.Bool.Decides.{eqb_tells}
use Rattle.std.proofs.Math.Dec.{eqb}
use Rattle.std.proofs.lemmas.List.{get_or-set_same, get_or-set_other}
use Rattle.std.proofs.lemmas.Slice.Eq.{bytes_eq-Decides}
use Rattle.blk_model.specs.Items.{Item, Row, key_of, main, same_item}
use Rattle.blk_model.specs.State.{IsValidState, Object, State, has_item, object_at, owners, slot_has_item}
use Rattle.blk_model.specs.Effects.{with_slot}
use Rattle.blk_model.specs.Holding.{owner, rest, row_in, settled_row}
use Rattle.blk_model.specs.Stops.{is_live}
use Rattle.blk_model.proofs.Doomed.{dead_has}
use Rattle.blk_model.proofs.Same.{one_item}
use Rattle.blk_model.proofs.Slots.{first_with_found}
use Rattle.spec_folder.specs.Removal.{is_of_another}
use Rattle.law_folder.proofs.states.Changing.{first_with-set}
use Rattle.law_folder.proofs.claims.Owner.{IsOwned, filter_map-same, its-key, live, owned}
use Rattle.law_state.specs.CommandStates.{IsUnsettled, KeepsOtherKeys, amidst, with_names}
use Rattle.law_state.specs.StopLaws.{DoomedObjectsAreNotAtRest, HandlesAreNotAtRest, OwnUsesKeepOthers, UnsettledObjectsAreNotAtRest}

-- ---- handles

pub handles-rest : HandlesAreNotAtRest
unfolding rest settled_row
handles-rest state names = filter_map-same (settled_row (with_names names state)) (settled_row state) (λ item. refl) state.uses

-- ---- doomed objects

-- the durable contents of an object
abbrev at_rest_in : Item → Object → Option Row
at_rest_in item object = cond object.settled (row_in object item) None

module _ (state : State) (number : ℕ) (object : Object) (slot : Option Object) (here : object_at state number ≡ Some object) (dead : object.live ≡ false) (dead_after : is_live slot ≡ false) where
  none-here : (item : Item) → slot_has_item item slot ≡ slot_has_item item (get_or state.objects number None)
  none-here item = gone slot dead_after ∙ sym (ap (slot_has_item item) here ∙ dead_has object item dead) where
    gone : (s : Option Object) → is_live s ≡ false → slot_has_item item s ≡ false
    gone None e = refl
    gone (Some o) e = dead_has o item e

  same-owner : (item : Item) → owner (with_slot number slot state) item ≡ owner state item
  same-owner item = first_with-set item 0 state.objects number slot (none-here item)

  doomed-row : (item : Item) → settled_row (with_slot number slot state) item ≡ settled_row state item
  unfolding settled_row
  doomed-row item = ap (λ (w : Option ℕ). option_and_then (at_rest_in item) (option_and_then (object_at (with_slot number slot state)) w)) (same-owner item) ∙ go (owner state item) refl where
    go : (w : Option ℕ) → owner state item ≡ w → option_and_then (at_rest_in item) (option_and_then (object_at (with_slot number slot state)) w) ≡ option_and_then (at_rest_in item) (option_and_then (object_at state) w)
    go None e = refl
    go (Some j) e =
        let own : IsOwned state item j = owned state item j e in
        ap (option_and_then (at_rest_in item)) (⊎_elim
        (λ (q : (eqb j number ≡ true) × (j ≡ number)).
        let c : ◌≡◌ {A = Option Object} (Some own.object) (Some object) = sym own.here ∙ ap (object_at state) q.1 ∙ here in
        let same : own.object ≡ object = cc in
        absurd (let z : true ≡ false = sym own.has ∙ ap (λ (y : Object). has_item y item) same ∙ dead_has object item dead in cc))
        (λ (q : (eqb j number ≡ false) × (j ≢ number)). get_or-set_other state.objects number j slot None q.1)
        (eqb_tells j number))

pub doomed-rest : DoomedObjectsAreNotAtRest
unfolding rest
doomed-rest state number object slot here dead dead_after = filter_map-same (settled_row (with_slot number slot state)) (settled_row state) (doomed-row state number object slot here dead dead_after) state.uses

-- ---- a dirty object

-- what gives nothing may be left out
filter_map-out : (f : Item → Option Row) (p : Item → Bool) → ((i : Item) → p i ≡ false → f i ≡ None) → (items : List Item) → filter_map f items ≡ filter_map f (filter p items)
filter_map-out f p none [] = refl
filter_map-out f p none (i ∷ items) = ⊎_elim
    (λ (e : p i ≡ true). rw e (ap (cons_option (f i)) (filter_map-out f p none items)))
    (λ (e : p i ≡ false). rw (e, none i e) (filter_map-out f p none items))
    (cases_Bool (p i))

pub filter_map-on : (f g : Item → Option Row) (p : Item → Bool) → ((i : Item) → p i ≡ true → f i ≡ g i) → (items : List Item) → filter_map f (filter p items) ≡ filter_map g (filter p items)
filter_map-on f g p same [] = refl
filter_map-on f g p same (i ∷ items) = ⊎_elim
    (λ (e : p i ≡ true). rw e (ap₂ cons_option (same i e) (filter_map-on f g p same items)))
    (λ (e : p i ≡ false). rw e (filter_map-on f g p same items))
    (cases_Bool (p i))

-- two that agree on what passes, and give nothing else
filter_map-both : (f g : Item → Option Row) (p : Item → Bool) (items others : List Item) → ((i : Item) → p i ≡ true → f i ≡ g i) → ((i : Item) → p i ≡ false → f i ≡ None) → ((i : Item) → p i ≡ false → g i ≡ None)
    → filter p items ≡ filter p others → filter_map f items ≡ filter_map g others
filter_map-both f g p items others same none nothing order =
    filter_map-out f p none items ∙ filter_map-on f g p same items ∙ ap (filter_map g) order ∙ sym (filter_map-out g p nothing others)

pub within-slots : (slots : List (Option Object)) (k : ℕ) (o : Object) → get_or slots k None ≡ Some o → k < length slots
within-slots [] k o e = absurd (let c : ◌≡◌ {A = Option Object} None (Some o) = e in cc)
within-slots (s ∷ slots) zero o e = omega arith
within-slots (s ∷ slots) (suc k) o e = let more = within-slots slots k o e in omega (arith, more)

module _ (m : State) (valid : IsValidState m) (number : ℕ) (o : Object) (here : object_at m number ≡ Some o) (alive : o.live ≡ true) where
  -- an item of another key is not the object's
  not-its : (x : Object) (i : Item) → x.key ≡ o.key → is_of_another o.key i ≡ true → has_item x i ≡ false
  not-its x i key apart = ⊎_elim
      (λ (e : has_item x i ≡ true).
      let k : key_of i ≡ o.key = its-key x i e ∙ key in
      let b : bytes_eq o.key (key_of i) ≡ true = (bytes_eq-Decides o.key (key_of i)).1 (sym k) in
      absurd (let c : true ≡ false = sym apart ∙ ap not b in cc))
      (λ (e : has_item x i ≡ false). e)
      (cases_Bool (has_item x i))

  module _ (x : Object) (uses : List Item) (is : IsUnsettled x o.key) where
    at-number : get_or (set m.objects number (Some x)) number None ≡ Some x
    at-number = get_or-set_same m.objects number (Some x) None (within-slots m.objects number o here)

    -- others have what they had
    row-others : (i : Item) → is_of_another o.key i ≡ true → settled_row (amidst m number x uses) i ≡ settled_row m i
    unfolding settled_row
    row-others i apart = ap (λ (w : Option ℕ). option_and_then (at_rest_in i) (option_and_then (object_at (amidst m number x uses)) w)) owner-is ∙ go (owner m i) refl
      where
        owner-is : owner (amidst m number x uses) i ≡ owner m i
        owner-is = first_with-set i 0 m.objects number (Some x) (not-its x i is.key_is apart ∙ sym (ap (slot_has_item i) here ∙ not-its o i refl apart))

        go : (w : Option ℕ) → owner m i ≡ w → option_and_then (at_rest_in i) (option_and_then (object_at (amidst m number x uses)) w) ≡ option_and_then (at_rest_in i) (option_and_then (object_at m) w)
        go None e = refl
        go (Some j) e =
            let own : IsOwned m i j = owned m i j e in
            ap (option_and_then (at_rest_in i)) (⊎_elim
            (λ (q : (eqb j number ≡ true) × (j ≡ number)).
            let c : ◌≡◌ {A = Option Object} (Some own.object) (Some o) = sym own.here ∙ ap (object_at m) q.1 ∙ here in
            let same : own.object ≡ o = cc in
            absurd (let z : true ≡ false = sym own.has ∙ ap (λ (y : Object). has_item y i) same ∙ not-its o i refl apart in cc))
            (λ (q : (eqb j number ≡ false) × (j ≢ number)). get_or-set_other m.objects number j (Some x) None q.1)
            (eqb_tells j number))

    -- and no object has anything durable of this one's items
    row-none : (i : Item) → is_of_another o.key i ≡ false → settled_row (amidst m number x uses) i ≡ None
    unfolding settled_row
    row-none i its = go (owner (amidst m number x uses) i) refl
      where
        key-is : o.key ≡ key_of i
        key-is = ⊎_elim (λ (e : bytes_eq o.key (key_of i) ≡ true). (bytes_eq-Decides o.key (key_of i)).0 e) (λ (e : bytes_eq o.key (key_of i) ≡ false). absurd (let c : true ≡ false = sym (ap not e) ∙ its in cc)) (cases_Bool (bytes_eq o.key (key_of i)))

        has-main : (y : Object) → y.live ≡ true → y.key ≡ o.key → has_item y (main o.key) ≡ true
        has-main y l k = rw (l, (bytes_eq-Decides o.key y.key).1 (sym k)) refl

        one-main : (j : ℕ) (y : Object) → object_at m j ≡ Some y → y.live ≡ true → y.key ≡ o.key → j ≡ number
        one-main j y at l k =
            let few : owners (main o.key) m.objects ≤ 1 = omega (arith, valid.listed (main o.key), valid.once (main o.key)) in
            let a = first_with_found (main o.key) 0 j m.objects (ap (slot_has_item (main o.key)) at ∙ has-main y l k) few in
            let b = first_with_found (main o.key) 0 number m.objects (ap (slot_has_item (main o.key)) here ∙ has-main o alive refl) few in
            let c : ◌≡◌ {A = Option ℕ} (Some (0 + j)) (Some (0 + number)) = sym a ∙ b in
            let same : 0 + j ≡ 0 + number = cc in
            omega (arith, same)

        go : (w : Option ℕ) → owner (amidst m number x uses) i ≡ w → option_and_then (at_rest_in i) (option_and_then (object_at (amidst m number x uses)) w) ≡ None
        go None e = refl
        go (Some j) e =
            let own : IsOwned (amidst m number x uses) i j = owned (amidst m number x uses) i j e in
            ⊎_elim
            (λ (q : (eqb j number ≡ true) × (j ≡ number)).
            let a : object_at (amidst m number x uses) j ≡ Some x = ap (object_at (amidst m number x uses)) q.1 ∙ at-number in
            rw (a, is.unsettled) refl)
            (λ (q : (eqb j number ≡ false) × (j ≢ number)).
            let old : object_at m j ≡ Some own.object = sym (get_or-set_other m.objects number j (Some x) None q.1) ∙ own.here in
            let alive_j : own.object.live ≡ true = live own.object i own.has in
            let key_j : own.object.key ≡ o.key = sym (its-key own.object i own.has) ∙ sym key-is in
            absurd (q.1 (one-main j own.object old alive_j key_j)))
            (eqb_tells j number)

  pub rests-same : (one two : Object) (uses items : List Item) → IsUnsettled one o.key → IsUnsettled two o.key → KeepsOtherKeys m o.key uses → KeepsOtherKeys m o.key items → rest (amidst m number one uses) ≡ rest (amidst m number two items)
  unfolding rest
  rests-same one two uses items is_one is_two keeps_one keeps_two =
      filter_map-both (settled_row (amidst m number one uses)) (settled_row (amidst m number two items)) (is_of_another o.key) uses items
      (λ i e. row-others one uses is_one i e ∙ sym (row-others two items is_two i e)) (row-none one uses is_one) (row-none two items is_two) (keeps_one ∙ sym keeps_two)

pub unsettled-rest : UnsettledObjectsAreNotAtRest
unsettled-rest state number object one other uses items valid here alive is_one is_other keeps_one keeps_other = rests-same state valid number object here alive one other uses items is_one is_other keeps_one keeps_other

-- ---- accesses of the object's items

its-out : (key : List ℕ) (item : Item) → key_of item ≡ key → is_of_another key item ≡ false
its-out key item is = ap not ((bytes_eq-Decides key (key_of item)).1 (sym is))

-- what passes isn't dropped before
filter-inner : (p q : Item → Bool) → ((i : Item) → p i ≡ true → q i ≡ true) → (items : List Item) → filter p (filter q items) ≡ filter p items
filter-inner p q keeps [] = refl
filter-inner p q keeps (i ∷ items) = ⊎_elim
    (λ (e : p i ≡ true). rw (keeps i e, e) (ap (λ (l : List Item). i ∷ l) (filter-inner p q keeps items)))
    (λ (e : p i ≡ false). ⊎_elim
    (λ (g : q i ≡ true). rw (g, e) (filter-inner p q keeps items))
    (λ (g : q i ≡ false). rw (g, e) (filter-inner p q keeps items))
    (cases_Bool (q i)))
    (cases_Bool (p i))

pub own-uses : OwnUsesKeepOthers
own-uses state key item uses is keeps = (
  rw (its-out key item is) keeps,
  rw (its-out key item is) (filter-inner (is_of_another key) (λ other. not (same_item item other)) (λ i e. not-same i e) uses ∙ keeps),
)
  where
    not-same : (i : Item) → is_of_another key i ≡ true → not (same_item item i) ≡ true
    not-same i e = ⊎_elim
        (λ (h : same_item item i ≡ true). let k : key_of i ≡ key = ap key_of (sym (one_item item i h)) ∙ is in absurd (let c : true ≡ false = sym e ∙ its-out key i k in cc))
        (λ (h : same_item item i ≡ false). ap not h)
        (cases_Bool (same_item item i))
