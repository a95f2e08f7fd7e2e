-- A state stays valid where an object becomes clean.
use Rattle.std.proofs.Common.{◌≡◌, ◌≢◌, ℕ, ◌+◌, Bool, true, false, ◌&&◌, cond, List, Some, None, Option, IfSome, IsSome, is_some, refl, ap, sym, ◌∙◌, subst, arith, get_or, set}
use Rattle.blk_model.specs.Items.{Item, main, part, times}
use Rattle.blk_model.specs.State.{Object, State, IsValidState, IsObject, object_at, named_by, is_named, has_item, slot_has_item, owners}
use Rattle.blk_model.specs.Effects.{settled_at, flushed, number_of}
use Rattle.blk_model.proofs.Slots.{owners-set}
use Rattle.blk_model.proofs.Each.{Each-set, some_within}
use Rattle.blk_model.proofs.States.{if_some_is}
use Rattle.blk_model.proofs.Doomed.{contrary, still_there, bound_name}

settled_has : (object : Object) (item : Item) → has_item (record object { settled = true }) item ≡ has_item object item
settled_has object (main key) = refl
settled_has object (part key n) = refl

settled_is : (object : Object) → IsObject object → IsObject (record object { settled = true })
settled_is object valid = record {
  key = valid.key;
  streams = valid.streams;
  signature = valid.signature;
  plain_has_no_parts = valid.plain_has_no_parts;
  doomed_has_no_parts = valid.doomed_has_no_parts;
  sparse_has_one_stream = valid.sparse_has_one_stream;
  rising = valid.rising;
  parts = valid.parts;
}

-- what holds of an object that is doomed or dirty holds where the object, made clean, is doomed
settled_held : (live settled : Bool) (P : Type 0) → ((live && settled ≡ false) → P) → (live && true ≡ false) → P
settled_held true settled P was loose = absurd (contrary loose refl)
settled_held false settled P was loose = was refl

pub state_settled : (state : State) (valid : IsValidState state) (number : ℕ) (slot : Option Object) → object_at state number ≡ slot → IsValidState (settled_at number state slot)
state_settled state valid number None here = valid
state_settled state valid number (Some object) here =
    let new = record object { settled = true } in
    let within = some_within state.objects number object here in
    let listed : (item : Item) → times item state.uses ≡ owners item (set state.objects number (Some new)) = λ item.
    let gone = owners-set item state.objects number (Some new) within in
    let had : ◌≡◌ {A = ℕ} (cond (slot_has_item item (object_at state number)) 1 0) (cond (has_item object item) 1 0) = ap (λ s. cond (slot_has_item item s) 1 0) here in
    let has : ◌≡◌ {A = ℕ} (cond (slot_has_item item (Some new)) 1 0) (cond (has_item object item) 1 0) = ap (λ b. cond b 1 0) (settled_has object item) in
    let was = valid.listed item in omega (arith, gone, had, has, was) in
    record {
      objects = Each-set (λ n. IsObject) state.objects number (Some new) (settled_is object (if_some_is (object_at state number) IsObject object here (valid.objects number))) (λ m other. valid.objects m);
      names = valid.names;
      bound = still_there state valid state.names number (Some new) (λ name n e. bound_name state valid name n e) (λ gone. absurd (contrary gone refl));
      listed = listed;
      once = valid.once;
      held = Each-set (λ n o. (o.live && o.settled ≡ false) → is_named state n ≡ true) state.objects number (Some new)
          (settled_held object.live object.settled (is_named state number ≡ true) (if_some_is (object_at state number) (λ o. (o.live && o.settled ≡ false) → is_named state number ≡ true) object here (valid.held number)))
          (λ m other. valid.held m);
    }

pub state_flushed : (state : State) (valid : IsValidState state) (handle : ℕ) → IsValidState (flushed handle state)
unfolding flushed
state_flushed state valid handle = state_settled state valid (number_of state handle) (object_at state (number_of state handle)) refl
