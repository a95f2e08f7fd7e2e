-- States that stay valid while objects are doomed and handles are closed.
use Rattle.std.proofs.Common.{◌≡◌, ◌≢◌, ℕ, zero, suc, ◌+◌, ◌<◌, ◌≤◌, Bool, true, false, not, ◌&&◌, cond, List, [], ◌∷◌, Some, None, Option, IfSome, IsSome, is_some, refl, ap, sym, ◌∙◌, subst, arith, get_or, set, length-set, get_or-set_other}
use Rattle.std.specs.List.{filter}
use Rattle.std.specs.Str.{bytes_eq}
use Rattle.std.proofs.lemmas.Bool.{and_right, and_left, and_from, and_parts, false_from_ne_true, ne_eqb, not-false}
use Rattle.std.proofs.lemmas.List.Elements.{All-nil}
use Rattle.blk_model.specs.Items.{Item, main, part, key_of, times, IsPartValue, PartValue}
use Rattle.blk_model.specs.State.{Object, State, IsValidState, IsObject, object_at, named_by, is_number, is_named, has_item, slot_has_item, owners, live_with}
use Rattle.blk_model.specs.Sizes.{part_count}
use Rattle.blk_model.specs.Effects.{closed, doomed, doomed_key, doomed_slot, number_of, released, released_slot, with_name}
use Rattle.blk_model.specs.Refusals.{is_doomed, names_none}
use Rattle.blk_model.proofs.Same.{same_bytes, bytes_eq_self}
use Rattle.blk_model.proofs.Slots.{owners-set, first_with_has}
use Rattle.blk_model.proofs.Times.{times-filter}
use Rattle.blk_model.proofs.Each.{Each, Each-set, some_set, some_within, any_has}
use Rattle.blk_model.proofs.States.{named_object, named_kept, if_some_is}
use Rattle.blk_model.proofs.Owners.{only_owner}

pub contrary : {b : Bool} → b ≡ false → b ≡ true → ⊥
contrary is_no is_yes = let e : true ≡ false = sym is_yes ∙ is_no in cc

pub doomed_is_object : (object : Object) → IsObject object → IsObject (record object { live = false; parts = [] })
doomed_is_object object valid = record {
  key = valid.key;
  streams = valid.streams;
  signature = valid.signature;
  plain_has_no_parts = λ e. refl;
  doomed_has_no_parts = λ e. refl;
  sparse_has_one_stream = valid.sparse_has_one_stream;
  rising = refl;
  parts = All-nil (λ (p : ℕ × PartValue). (p.0 < part_count) × IsPartValue p.1);
}

doomed_slot_is : (held : Bool) (object : Object) → IsObject object → IfSome (doomed_slot held object) IsObject
doomed_slot_is true object valid = doomed_is_object object valid
doomed_slot_is false object valid = tt

doomed_slot_has : (held : Bool) (object : Object) (item : Item) → slot_has_item item (doomed_slot held object) ≡ false
doomed_slot_has true object (main key) = refl
doomed_slot_has true object (part key n) = refl
doomed_slot_has false object item = refl

without_it : (own is : Bool) (t o o' : ℕ) → t ≡ o → o' + cond is 1 0 ≡ o → (own ≡ true → o ≡ cond is 1 0) → (own ≡ false → is ≡ false) → cond (not own) t 0 ≡ o'
without_it true is t o o' e s one none = let is_one = one refl in omega arith
without_it false true t o o' e s one none = absurd (contrary (none refl) refl)
without_it false false t o o' e s one none = omega arith

has_main_key : (object : Object) (key : List ℕ) → bytes_eq object.key key ≡ false → has_item object (main key) ≡ false
has_main_key object key other = and_right object.live _ (false_from_ne_true _ (λ same. contrary other (subst (λ k. bytes_eq object.key k ≡ true) (sym (same_bytes key object.key same)) (bytes_eq_self object.key))))

has_key : (object : Object) (item : Item) → bytes_eq object.key (key_of item) ≡ false → has_item object item ≡ false
has_key object (main key) other = has_main_key object key other
has_key object (part key n) other = and_left _ _ (has_main_key object key other)

-- the slot of an object with a number is emptied only where no name has the number
pub still_there : (state : State) (valid : IsValidState state) (names : List (Option ℕ)) (number : ℕ) (slot : Option Object) → ((name n : ℕ) → get_or names name None ≡ Some n → IsSome (object_at state n)) → (is_some slot ≡ false → (name n : ℕ) → get_or names name None ≡ Some n → n ≢ number) →
    Each (λ name n. IsSome (get_or (set state.objects number slot) n None)) names
still_there state valid names number None there other name =
    elim (get_or names name None) as (λ s. get_or names name None ≡ s → IfSome s (λ n. IsSome (get_or (set state.objects number None) n None))) [
      | None ↦ λ e. tt
      | Some n ↦ λ e. subst IsSome (sym (get_or-set_other state.objects number n None None (other refl name n e))) (there name n e)
    ] refl
still_there state valid names number (Some object) there other name =
    elim (get_or names name None) as (λ s. get_or names name None ≡ s → IfSome s (λ n. IsSome (get_or (set state.objects number (Some object)) n None))) [
      | None ↦ λ e. tt
      | Some n ↦ λ e. some_set state.objects number n object (there name n e)
    ] refl

doomed_slot_held : (held : Bool) (object : Object) → is_some (doomed_slot held object) ≡ false → held ≡ false
doomed_slot_held true object e = cc
doomed_slot_held false object e = refl

pub bound_name : (state : State) (valid : IsValidState state) (name n : ℕ) → named_by state name ≡ Some n → IsSome (object_at state n)
bound_name state valid name n e = if_some_is (named_by state name) (λ m. IsSome (object_at state m)) n e (valid.bound name)

pub state_doomed : (state : State) (valid : IsValidState state) (number : ℕ) (object : Object) → object_at state number ≡ Some object → object.live ≡ true → IsValidState (doomed number state (Some object))
unfolding doomed
state_doomed state valid number object here live =
    let held = is_named state number in
    let within = some_within state.objects number object here in
    let listed : (item : Item) → times item (filter (λ i. not (bytes_eq object.key (key_of i))) state.uses) ≡ owners item (set state.objects number (doomed_slot held object)) = λ item.
    let gone = owners-set item state.objects number (doomed_slot held object) within in
    let had : ◌≡◌ {A = ℕ} (cond (slot_has_item item (object_at state number)) 1 0) (cond (has_item object item) 1 0) = ap (λ s. cond (slot_has_item item s) 1 0) here in
    let has : ◌≡◌ {A = ℕ} (cond (slot_has_item item (doomed_slot held object)) 1 0) 0 = ap (λ b. cond b 1 0) (doomed_slot_has held object item) in
    times-filter (λ i. not (bytes_eq object.key (key_of i))) item state.uses
    ∙ without_it (bytes_eq object.key (key_of item)) (has_item object item) _ _ _ (valid.listed item) (omega (arith, gone, had, has))
    (λ same. only_owner state valid number object here live item (sym (same_bytes object.key (key_of item) same)))
    (has_key object item) in
    record {
      objects = Each-set (λ n. IsObject) state.objects number (doomed_slot held object) (doomed_slot_is held object (if_some_is (object_at state number) IsObject object here (valid.objects number))) (λ m other. valid.objects m);
      names = valid.names;
      bound = still_there state valid state.names number (doomed_slot held object) (bound_name state valid)
          (λ gone name n e same. contrary (doomed_slot_held held object gone) (any_has state.names name number (e ∙ ap Some same)));
      listed = listed;
      once = λ item. subst (λ n. n ≤ 1) (sym (times-filter (λ i. not (bytes_eq object.key (key_of i))) item state.uses)) (most (not (bytes_eq object.key (key_of item))) _ (valid.once item));
      held = Each-set (λ n o. (o.live && o.settled ≡ false) → is_named state n ≡ true) state.objects number (doomed_slot held object) (doomed_slot_named held object (is_named state number ≡ true) (λ e. e)) (λ m other. valid.held m);
    }
  where
    most : (b : Bool) (n : ℕ) → n ≤ 1 → cond b n 0 ≤ 1
    most true n le = le
    most false n le = omega arith

    doomed_slot_named : (held : Bool) (object : Object) (P : Type 0) → (held ≡ true → P) → IfSome (doomed_slot held object) (λ o. (o.live && o.settled ≡ false) → P)
    doomed_slot_named true object P p = λ e. p refl
    doomed_slot_named false object P p = tt

pub state_doomed_by : (state : State) (valid : IsValidState state) (number : ℕ) (slot : Option Object) → object_at state number ≡ slot → IfSome slot (λ object. object.live ≡ true) → IsValidState (doomed number state slot)
unfolding doomed
state_doomed_by state valid number None here live = valid
state_doomed_by state valid number (Some object) here live = state_doomed state valid number object here live

pub live_from_main : (key : List ℕ) (slot : Option Object) → slot_has_item (main key) slot ≡ true → IfSome slot (λ object. object.live ≡ true)
live_from_main key None has = tt
live_from_main key (Some object) has = (and_parts _ _ has).0

pub state_doomed_key : (state : State) (valid : IsValidState state) (key : List ℕ) (found : Option ℕ) → live_with state key ≡ found → IsValidState (doomed_key state found)
state_doomed_key state valid key None e = valid
state_doomed_key state valid key (Some number) e =
    let has = first_with_has (main key) 0 number state.objects e in
    let same : has.0 ≡ number = omega (arith, has.1) in
    state_doomed_by state valid number (object_at state number) refl (live_from_main key (object_at state number) (subst (λ n. slot_has_item (main key) (object_at state n) ≡ true) same has.2))

settled_has : (object : Object) (item : Item) → has_item (record object { settled = true }) item ≡ has_item object item
settled_has object (main key) = refl
settled_has object (part key n) = refl

pub dead_has : (object : Object) (item : Item) → object.live ≡ false → has_item object item ≡ false
dead_has object (main key) dead = and_left _ _ dead
dead_has object (part key n) dead = and_left _ _ (and_left _ _ dead)

settled_is_object : (object : Object) → IsObject object → IsObject (record object { settled = true })
settled_is_object object valid = record {
  key = valid.key;
  streams = valid.streams;
  signature = valid.signature;
  plain_has_no_parts = valid.plain_has_no_parts;
  doomed_has_no_parts = valid.doomed_has_no_parts;
  sparse_has_one_stream = valid.sparse_has_one_stream;
  rising = valid.rising;
  parts = valid.parts;
}

released_slot_is : (held : Bool) (object : Object) → IsObject object → IfSome (released_slot held object) IsObject
released_slot_is true object valid = valid
released_slot_is false object valid = elim (object.live) as (λ b. IfSome (cond b (Some (record object { settled = true })) None) IsObject) [ true ↦ settled_is_object object valid | false ↦ tt ]

released_slot_has : (held : Bool) (object : Object) (item : Item) → slot_has_item item (released_slot held object) ≡ has_item object item
released_slot_has true object item = refl
released_slot_has false object item =
    elim (object.live) as (λ b. object.live ≡ b → slot_has_item item (cond b (Some (record object { settled = true })) None) ≡ has_item object item) [
      | true ↦ λ live. settled_has object item
      | false ↦ λ dead. sym (dead_has object item dead)
    ] refl

released_slot_held : (held : Bool) (object : Object) → is_some (released_slot held object) ≡ false → held ≡ false
released_slot_held true object e = cc
released_slot_held false object e = refl

released_slot_loose : (held : Bool) (object : Object) (P : Type 0) → (held ≡ true → P) → IfSome (released_slot held object) (λ o. (o.live && o.settled ≡ false) → P)
released_slot_loose true object P p = λ e. p refl
released_slot_loose false object P p =
    elim (object.live) as (λ b. object.live ≡ b → IfSome (cond b (Some (record object { settled = true })) None) (λ o. (o.live && o.settled ≡ false) → P)) [
      | true ↦ λ live loose. absurd (contrary loose (and_from _ _ live refl))
      | false ↦ λ dead. tt
    ] refl

set_none_at : {X : Type 0} (slots : List (Option X)) (k m : ℕ) (x : X) → get_or (set slots k None) m None ≡ Some x → get_or slots m None ≡ Some x
set_none_at [] k m x e = e
set_none_at (s ∷ slots) zero zero x e = cc
set_none_at (s ∷ slots) zero (suc m) x e = e
set_none_at (s ∷ slots) (suc k) zero x e = e
set_none_at (s ∷ slots) (suc k) (suc m) x e = set_none_at slots k m x e

pub state_released : (state : State) (valid : IsValidState state) (handle number : ℕ) (object : Object) → named_by state handle ≡ Some number → object_at state number ≡ Some object → IsValidState (released number (with_name handle None state) (Some object))
state_released state valid handle number object by_name here =
    let free = with_name handle None state in
    let held = is_named free number in
    let slot = released_slot held object in
    let within = some_within state.objects number object here in
    let listed : (item : Item) → times item state.uses ≡ owners item (set state.objects number slot) = λ item.
    let gone = owners-set item state.objects number slot within in
    let had : ◌≡◌ {A = ℕ} (cond (slot_has_item item (object_at state number)) 1 0) (cond (has_item object item) 1 0) = ap (λ s. cond (slot_has_item item s) 1 0) here in
    let has : ◌≡◌ {A = ℕ} (cond (slot_has_item item slot) 1 0) (cond (has_item object item) 1 0) = ap (λ b. cond b 1 0) (released_slot_has held object item) in
    let was = valid.listed item in omega (arith, gone, had, has, was) in
    record {
      objects = Each-set (λ n. IsObject) state.objects number slot (released_slot_is held object (if_some_is (object_at state number) IsObject object here (valid.objects number))) (λ m other. valid.objects m);
      names = length-set state.names handle None ∙ valid.names;
      bound = still_there state valid free.names number slot (λ name n e. bound_name state valid name n (set_none_at state.names handle name n e))
          (λ gone name n e same. contrary (released_slot_held held object gone) (any_has free.names name number (e ∙ ap Some same)));
      listed = listed;
      once = valid.once;
      held = Each-set (λ n o. (o.live && o.settled ≡ false) → is_named free n ≡ true) state.objects number slot (released_slot_loose held object (is_named free number ≡ true) (λ e. e))
          (λ m other. elim (object_at state m) as (λ s. IfSome s (λ o. (o.live && o.settled ≡ false) → is_named state m ≡ true) → IfSome s (λ o. (o.live && o.settled ≡ false) → is_named free m ≡ true)) [
            | None ↦ λ was. tt
            | Some o ↦ λ was loose. named_kept state handle m None (ap (is_number m) by_name ∙ ne_eqb m number other) (was loose)
          ] (valid.held m));
    }

pub state_closed : (state : State) (valid : IsValidState state) (handle : ℕ) → names_none state handle ≡ false → IsValidState (closed handle state)
unfolding closed
state_closed state valid handle bound =
    let named = named_object state valid handle bound in
    subst (λ n. IsValidState (released n (with_name handle None state) (object_at state n))) (sym named.number_is)
    (subst (λ slot. IsValidState (released named.number (with_name handle None state) slot)) (sym named.here)
    (state_released state valid handle named.number named.object named.by_name named.here))

pub state_doomed_handle : (state : State) (valid : IsValidState state) (handle : ℕ) → names_none state handle ≡ false → is_doomed state handle ≡ false → IsValidState (doomed (number_of state handle) state (object_at state (number_of state handle)))
state_doomed_handle state valid handle bound live =
    let named = named_object state valid handle bound in
    subst (λ n. IsValidState (doomed n state (object_at state n))) (sym named.number_is)
    (state_doomed_by state valid named.number (object_at state named.number) refl
    (subst (λ slot. IfSome slot (λ object. object.live ≡ true)) (sym named.here) (not-false _ (ap (λ o. not o.live) (sym named.object_is) ∙ live))))
