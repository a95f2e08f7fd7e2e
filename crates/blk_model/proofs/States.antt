-- States that stay valid while items are accessed and handles are bound.
use Rattle.std.proofs.Common.{◌≡◌, ℕ, Bool, true, false, ◌&&◌, cond, List, [], Some, None, Option, IfSome, IsSome, is_some, is_none, refl, ap, sym, ◌∙◌, subst, arith, set, length, length-set}
use Rattle.std.specs.List.{list_any}
use Rattle.std.specs.Option.{unwrap_or}
use Rattle.std.proofs.lemmas.Bool.{or_parts, and_from}
use Rattle.blk_model.specs.Items.{Item, main, same_item, times}
use Rattle.blk_model.specs.State.{Object, State, IsValidState, object_at, named_by, is_number, is_named, has_item, slot_has_item, owners, live_with}
use Rattle.blk_model.specs.Effects.{new_object, number_of, object_of, opened, used, used_all, used_main}
use Rattle.blk_model.specs.Refusals.{names_none, names_one}
use Rattle.blk_model.proofs.Same.{one_item, bytes_eq_self}
use Rattle.blk_model.proofs.Slots.{owners-has, first_with_has}
use Rattle.blk_model.proofs.Times.{times-used, times-used_all}
use Rattle.blk_model.proofs.Each.{Each-set, any_kept}

-- an item that some object has has one owner
pub one_owner : (state : State) (valid : IsValidState state) (item : Item) (n : ℕ) → slot_has_item item (object_at state n) ≡ true → owners item state.objects ≡ 1
one_owner state valid item n has = let some = owners-has item n state.objects has in let listed = valid.listed item in let once = valid.once item in omega arith

-- another order of the same items
pub state_uses : (state : State) (valid : IsValidState state) (uses : List Item) → ((item : Item) → times item uses ≡ owners item state.objects) → IsValidState (record state { uses = uses })
state_uses state valid uses listed = record {
  objects = valid.objects;
  names = valid.names;
  bound = valid.bound;
  listed = listed;
  once = λ item. let same = listed item in let was = valid.listed item in let once = valid.once item in omega arith;
  held = valid.held;
}

times_or_one : (b : Bool) (n m : ℕ) → n ≡ m → (b ≡ true → m ≡ 1) → cond b 1 n ≡ m
times_or_one true n m e one = sym (one refl)
times_or_one false n m e one = e

-- items with owners may be accessed
pub state_used_all : (state : State) (valid : IsValidState state) (items : List Item) → ((item : Item) → list_any (same_item item) items ≡ true → owners item state.objects ≡ 1) → IsValidState (record state { uses = used_all items state.uses })
state_used_all state valid items owned =
    state_uses state valid (used_all items state.uses) (λ item. times-used_all item items state.uses ∙ times_or_one (list_any (same_item item) items) _ _ (valid.listed item) (owned item))

pub state_used : (state : State) (valid : IsValidState state) (item : Item) → owners item state.objects ≡ 1 → IsValidState (record state { uses = used item state.uses })
state_used state valid item owned =
    state_uses state valid (used item state.uses) (λ i. times-used i item state.uses ∙ times_or_one (same_item i item) _ _ (valid.listed i) (λ same. subst (λ k. owners k state.objects ≡ 1) (sym (one_item i item same)) owned))

-- the object that a handle names
pub record Named (state : State) (handle : ℕ) : Type 0 where
  pub number : ℕ
  pub object : Object
  pub by_name : named_by state handle ≡ Some number
  pub here : object_at state number ≡ Some object
  pub number_is : number_of state handle ≡ number
  pub object_is : object_of state handle ≡ object

pub if_some_is : {X : Type 0} (o : Option X) (P : X → Type 0) (x : X) → o ≡ Some x → IfSome o P → P x
if_some_is o P x e h = subst (λ s. IfSome s P) e h

pub some_of : {X : Type 0} (o : Option X) → IsSome o → (x : X) × (o ≡ Some x)
some_of None is = cc
some_of (Some x) is = (x, refl)

pub not_none : {X : Type 0} (o : Option X) → is_none o ≡ false → (x : X) × (o ≡ Some x)
not_none None is = cc
not_none (Some x) is = (x, refl)

pub named_object : (state : State) (valid : IsValidState state) (handle : ℕ) → names_none state handle ≡ false → Named state handle
named_object state valid handle bound =
    let name = not_none (named_by state handle) (or_parts _ _ bound).1 in
    let found = some_of (object_at state name.0) (if_some_is (named_by state handle) _ name.0 name.1 (valid.bound handle)) in
    let number_is : number_of state handle ≡ name.0 = ap (λ o. unwrap_or o (length state.objects)) name.1 in
    record {
      number = name.0;
      object = found.0;
      by_name = name.1;
      here = found.1;
      number_is = number_is;
      object_is = ap (λ n. unwrap_or (object_at state n) (new_object [])) number_is ∙ ap (λ o. unwrap_or o (new_object [])) found.1;
    }

-- a live object has its main item
pub has_main : (object : Object) → object.live ≡ true → has_item object (main object.key) ≡ true
has_main object live = and_from _ _ live (bytes_eq_self object.key)

pub main_owner : (state : State) (valid : IsValidState state) (n : ℕ) (object : Object) → object_at state n ≡ Some object → object.live ≡ true → owners (main object.key) state.objects ≡ 1
main_owner state valid n object here live = one_owner state valid (main object.key) n (ap (slot_has_item (main object.key)) here ∙ has_main object live)

-- a read, and each other access of the object that a handle names
pub state_used_main : (state : State) (valid : IsValidState state) (handle : ℕ) → names_none state handle ≡ false → IsValidState (used_main (object_of state handle) state)
state_used_main state valid handle bound =
    let named = named_object state valid handle bound in
    subst (λ o. IsValidState (used_main o state)) (sym named.object_is)
    (elim (named.object.live) as (λ b. named.object.live ≡ b → IsValidState (record state { uses = cond b (used (main named.object.key) state.uses) state.uses })) [
      | true ↦ λ live. state_used state valid (main named.object.key) (main_owner state valid named.number named.object named.here live)
      | false ↦ λ doomed. state_uses state valid state.uses valid.listed
    ] refl)

pub none_of : {X : Type 0} (o : Option X) → is_some o ≡ false → o ≡ None
none_of None is = refl
none_of (Some x) is = cc

pub some_slot : (item : Item) (slot : Option Object) → slot_has_item item slot ≡ true → IsSome slot
some_slot item None has = cc
some_slot item (Some object) has = refl

-- a free handle that is bound leaves each object named that was
pub named_kept : (state : State) (handle number : ℕ) (slot : Option ℕ) → is_number number (named_by state handle) ≡ false → is_named state number ≡ true → is_named (record state { names = set state.names handle slot }) number ≡ true
named_kept state handle number slot free was = any_kept (is_number number) state.names handle None slot was free

pub state_opened : (state : State) (valid : IsValidState state) (handle : ℕ) (key : List ℕ) → names_one state handle ≡ false → is_none (live_with state key) ≡ false → IsValidState (opened handle key state)
unfolding opened
state_opened state valid handle key free there =
    let found = not_none (live_with state key) there in
    let has = first_with_has (main key) 0 found.0 state.objects found.1 in
    let is_here : found.0 ≡ has.0 = omega (arith, has.1) in
    let owned = one_owner state valid (main key) has.0 has.2 in
    let none : named_by state handle ≡ None = none_of (named_by state handle) free in
    let used_now = state_used state valid (main key) owned in
    subst (λ slot. IsValidState (record state { uses = used (main key) state.uses; names = set state.names handle slot })) (sym found.1) (record {
      objects = valid.objects;
      names = length-set state.names handle (Some found.0) ∙ valid.names;
      bound = Each-set (λ name number. IsSome (object_at state number)) state.names handle (Some found.0) (subst (λ n. IsSome (object_at state n)) (sym is_here) (some_slot (main key) (object_at state has.0) has.2)) (λ name other. valid.bound name);
      listed = used_now.listed;
      once = used_now.once;
      held = λ number. elim (object_at state number) as (λ slot. IfSome slot (λ object. (object.live && object.settled ≡ false) → is_named state number ≡ true) → IfSome slot (λ object. (object.live && object.settled ≡ false) → is_named (record state { names = set state.names handle (Some found.0) }) number ≡ true)) [
        | None ↦ λ was. tt
        | Some object ↦ λ was loose. named_kept state handle number (Some found.0) (ap (is_number number) none) (was loose)
      ] (valid.held number);
    })
