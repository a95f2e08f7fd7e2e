-- States without one object, and with one object changed.
use Rattle.std.proofs.Common.{◌≡◌, ◌≢◌, ℕ, ◌+◌, List, refl, ap, sym, ◌∙◌, subst, arith, true, false, Option, Some, None, ⊎_elim}
use Rattle.std.specs.Prelude.{not, slice_set}
use Rattle.std.specs.Option.{option_and_then, option_map}
use Rattle.std.specs.Str.{bytes_eq}
use Rattle.std.proofs.lemmas.Bool.{and_parts, cases_eq}
use Rattle.spec_image.proofs.Runs.{some_inj}
use Rattle.blk_model.specs.Effects.{doomed, doomed_slot, with_slot}
use Rattle.blk_model.specs.Holding as model
use Rattle.blk_model.specs.Items.{Item, main, main_row, part, same_item}
use Rattle.blk_model.specs.State.{State, Object, IsValidState, has_item, is_named, object_at, slot_has_item}
use Rattle.blk_model.specs.Totals.{is_doomed_slot}
use Rattle.blk_model.proofs.Slots.{first_with_found}
use Rattle.blk_model.proofs.States.{has_main}
use Rattle.spec_folder.specs.Layout.{OneChanged, is_listed, settled_with}
use Rattle.spec_folder.specs.Removal.{is_of_another, without_items}
use Rattle.law_folder.proofs.states.Changing.{first_with-set}
use Rattle.law_folder.proofs.commands.DoomedObjects.{object-aside, row-aside}
use Rattle.law_folder.proofs.commands.Dooming.{no-item, not-its}
use Rattle.law_folder.proofs.claims.Owner.{IsOwned, owned}
use Rattle.law_folder.proofs.states.Settling.{main-listed}
use Rattle.law_state.specs.ChangedStates.{ObjectsChangeTheirMainItem, UnheldObjectsGoWhole, UnheldObjectsGoWithTheirParts}
use Rattle.law_state.specs.GroupLaws.{IsLess}
use Rattle.law_state.specs.RemovalLaws.{IsWithout}
use Rattle.law_state.proofs.Dirtying.{set-at, set-else}
use Rattle.law_state.proofs.Doomed.{other-items}
use Rattle.law_state.proofs.Gone.{set-none}

-- ---- an object is removed whole

module _ (state : State) (number : ℕ) (object : Object) (valid : IsValidState state) (here : object_at state number ≡ Some object) (live : object.live ≡ true) (unheld : is_named state number ≡ false) (after : IsValidState (doomed number state (Some object))) where
  rows : (item : Item) → is_of_another object.key item ≡ true → model.row_of (without_items state (doomed number state (Some object)).objects (is_of_another object.key)) item ≡ model.row_of state item
  unfolding model.row_of doomed
  rows item other = row-aside state number (doomed_slot (is_named state number) object) item (not-its state number object here item other) (no-item state number object here item)

  settled : (key : List ℕ) → is_of_another object.key (main key) ≡ true → settled_with (without_items state (doomed number state (Some object)).objects (is_of_another object.key)) key ≡ settled_with state key
  unfolding doomed
  settled key other = ap (option_map (λ (o : Object). o.settled)) (object-aside state number (doomed_slot (is_named state number) object) (main key) (not-its state number object here (main key) other) (no-item state number object here (main key)))

  slot-none : object_at (doomed number state (Some object)) number ≡ None
  unfolding doomed
  slot-none = rw unheld (set-none state number object here)

  slot-else : (n : ℕ) → n ≢ number → object_at (doomed number state (Some object)) n ≡ object_at state n
  unfolding doomed
  slot-else n apart = set-else state number n (doomed_slot (is_named state number) object) apart

  pub same-state : doomed number state (Some object) ≡ without_items state (doomed number state (Some object)).objects (is_of_another object.key)
  unfolding doomed
  same-state = refl

  dead : (n : ℕ) → is_doomed_slot (object_at (doomed number state (Some object)) n) ≡ is_doomed_slot (object_at state n)
  dead n = ⊎_elim
      (λ (e : n ≡ number). subst (λ (x : ℕ). is_doomed_slot (object_at (doomed number state (Some object)) x) ≡ is_doomed_slot (object_at state x)) (sym e) (ap is_doomed_slot slot-none ∙ sym (ap is_doomed_slot here ∙ ap not live)))
      (λ (e : n ≢ number). ap is_doomed_slot (slot-else n e))
      (cases_eq n number)

  never : (n : ℕ) (o : Object) → object_at (doomed number state (Some object)) n ≡ Some o → n ≢ number
  never n o is e = let z : ◌≡◌ {A = Option Object} None (Some o) = sym slot-none ∙ ap (object_at (doomed number state (Some object))) (sym e) ∙ is in cc

  pub goes-less : IsLess state (doomed number state (Some object)).objects (is_of_another object.key)
  goes-less = record {
    lists = record {
      rows = λ item other there. rows item other;
      settled = settled;
      closed = λ key n other. other;
      doomed_same = λ n o is dies. sym (slot-else n (never n o is)) ∙ is;
    };
    valid = subst IsValidState same-state after;
    dead = dead;
    unsettled = λ n o is alive open_. (o, sym (slot-else n (never n o is)) ∙ is, refl, alive, open_);
  }

  pub goes-whole : ((n : ℕ) → is_listed state (part object.key n) ≡ false) → IsWithout state (doomed number state (Some object)).objects (is_of_another object.key) (main object.key)
  goes-whole alone = record {
    listed = main-listed state valid number object true here live;
    but = λ other there. other-items state object.key alone other there;
    less = goes-less.lists;
    valid = goes-less.valid;
    dead = dead;
    unsettled = goes-less.unsettled;
  }

pub unheld-go : UnheldObjectsGoWhole
unheld-go state number object valid here live unheld alone after = (goes-whole state number object valid here live unheld after alone, same-state state number object valid here live unheld after)

pub unheld-less : UnheldObjectsGoWithTheirParts
unheld-less state number object valid here live unheld after = goes-less state number object valid here live unheld after

-- ---- an object changes

module _ (state : State) (number : ℕ) (object other : Object) (here : object_at state number ≡ Some object) (live : object.live ≡ true) (lives : other.live ≡ true) (key_is : other.key ≡ object.key) (parts_are : other.parts ≡ object.parts) where
  abbrev now : State
  now = with_slot number (Some other) state

  same-has : (i : Item) → slot_has_item i (Some other) ≡ slot_has_item i (object_at state number)
  same-has i = one i ∙ sym (ap (slot_has_item i) here) where
    one : (i : Item) → has_item other i ≡ has_item object i
    one (main key) = rw (lives, live, key_is) refl
    one (part key n) = rw (lives, live, key_is, parts_are) refl

  owner-same : (i : Item) → model.owner now i ≡ model.owner state i
  owner-same i = first_with-set i 0 state.objects number (Some other) (same-has i)

  row-same : (i : Item) → same_item i (main object.key) ≡ false → model.row_of now i ≡ model.row_of state i
  unfolding model.row_of
  row-same i apart = ap (λ (w : Option ℕ). option_and_then (λ o. model.row_in o i) (option_and_then (object_at now) w)) (owner-same i) ∙ go (model.owner state i) refl where
    one : (i : Item) → same_item i (main object.key) ≡ false → has_item object i ≡ true → model.row_in other i ≡ model.row_in object i
    one (main key) apart has = absurd (let z : true ≡ false = sym (and_parts object.live (bytes_eq key object.key) has).1 ∙ apart in cc)
    one (part key n) apart has = rw parts_are refl

    go : (w : Option ℕ) → model.owner state i ≡ w → option_and_then (λ o. model.row_in o i) (option_and_then (object_at now) w) ≡ option_and_then (λ o. model.row_in o i) (option_and_then (object_at state) w)
    go None is = refl
    go (Some k) is = ⊎_elim
        (λ (e : k ≡ number).
        let o : IsOwned state i k = owned state i k is in
        let same : o.object ≡ object = some_inj (sym o.here ∙ ap (object_at state) e ∙ here) in
        let new : object_at now k ≡ Some other = ap (object_at now) e ∙ set-at state number object other here in
        let old : object_at state k ≡ Some object = ap (object_at state) e ∙ here in
        rw (new, old) (one i apart (ap (λ (z : Object). has_item z i) (sym same) ∙ o.has)))
        (λ (e : k ≢ number). let same = set-else state number k (Some other) e in rw same refl)
        (cases_eq k number)

  settled-same : (key : List ℕ) → same_item (main key) (main object.key) ≡ false → settled_with now key ≡ settled_with state key
  settled-same key apart = ap (option_map (λ (z : Object). z.settled)) (ap (option_and_then (object_at now)) (owner-same (main key)) ∙ go (model.owner state (main key)) refl) where
    go : (w : Option ℕ) → model.owner state (main key) ≡ w → option_and_then (object_at now) w ≡ option_and_then (object_at state) w
    go None is = refl
    go (Some k) is = ⊎_elim
        (λ (e : k ≡ number).
        let o : IsOwned state (main key) k = owned state (main key) k is in
        let same : o.object ≡ object = some_inj (sym o.here ∙ ap (object_at state) e ∙ here) in
        let has : has_item object (main key) ≡ true = ap (λ (z : Object). has_item z (main key)) (sym same) ∙ o.has in
        absurd (let z : true ≡ false = sym (and_parts object.live (bytes_eq key object.key) has).1 ∙ apart in cc))
        (λ (e : k ≢ number). set-else state number k (Some other) e)
        (cases_eq k number)

  pub one-changed : OneChanged state (slice_set state.objects number (Some other)) (main object.key)
  one-changed = record {
    rows = row-same;
    settled = settled-same;
    doomed_same = λ n o is dies. ⊎_elim
        (λ (e : n ≡ number).
        let same : other ≡ o = some_inj (sym (set-at state number object other here) ∙ ap (object_at now) (sym e) ∙ is) in
        absurd (let z : true ≡ false = sym lives ∙ ap (λ (x : Object). x.live) same ∙ dies in cc))
        (λ (e : n ≢ number). sym (set-else state number n (Some other) e) ∙ is)
        (cases_eq n number);
  }

  -- the main item has the new value
  its-row : IsValidState state → model.row_of now (main object.key) ≡ Some (main_row object.key other.shape other.streams)
  unfolding model.row_of
  its-row valid =
      let owner_is : model.owner state (main object.key) ≡ Some (0 + number) = first_with_found (main object.key) 0 number state.objects (ap (slot_has_item (main object.key)) here ∙ has_main object live) (omega (arith, valid.listed (main object.key), valid.once (main object.key))) in
      ap (λ (w : Option ℕ). option_and_then (λ o. model.row_in o (main object.key)) (option_and_then (object_at now) w)) (owner-same (main object.key) ∙ owner_is)
      ∙ ap (λ (o : Option Object). option_and_then (λ o. model.row_in o (main object.key)) o) (ap (object_at now) (let e : 0 + number ≡ number = omega arith in e) ∙ set-at state number object other here)

pub main-changed : ObjectsChangeTheirMainItem
main-changed state number object other here live lives key_is parts_are = (one-changed state number object other here live lives key_is parts_are, its-row state number object other here live lives key_is parts_are)
