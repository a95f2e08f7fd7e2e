-- States in which an object is made clean or dirty.
use Rattle.std.proofs.Common.{◌≡◌, ℕ, refl, ap, Bool, true, false, arith, cond, Some}
use Rattle.std.specs.Prelude.{◌&&◌}
use Rattle.blk_model.specs.Items.{Item, main, part}
use Rattle.blk_model.specs.State.{IsObject, Object, has_item, is_named, object_at, slot_has_item}
use Rattle.blk_model.proofs.Doomed.{bound_name, contrary, still_there}
use Rattle.blk_model.proofs.Each.{Each-set}
use Rattle.blk_model.proofs.Slots.{owners-set}
use Rattle.blk_model.proofs.States.{if_some_is}
use Rattle.law_state.specs.CommandEnds.{MarkedStatesAreValid}
use Rattle.law_state.proofs.NotAtRest.{within-slots}

-- an object has the same items, clean or not
same-items : (object : Object) (settled : Bool) (item : Item) → has_item (record object { settled = settled }) item ≡ has_item object item
same-items object settled (main key) = refl
same-items object settled (part key n) = refl

is-object : (object : Object) (settled : Bool) → IsObject object → IsObject (record object { settled = settled })
is-object object settled is = record { key = is.key; streams = is.streams; signature = is.signature; plain_has_no_parts = is.plain_has_no_parts; doomed_has_no_parts = is.doomed_has_no_parts; sparse_has_one_stream = is.sparse_has_one_stream; rising = is.rising; parts = is.parts }

and-true : (b : Bool) → b ≡ true → (b && true) ≡ false → ⊥
and-true true e f = contrary f refl
and-true false e f = cc

pub marked-valid : MarkedStatesAreValid
marked-valid state number object settled valid here live named =
    let new : Object = record object { settled = settled } in
    let within = within-slots state.objects number object here in
    record {
      objects = Each-set (λ n. IsObject) state.objects number (Some new) (is-object object settled (if_some_is (object_at state number) IsObject object here (valid.objects number))) (λ m other. valid.objects m);
      names = valid.names;
      bound = still_there state valid state.names number (Some new) (bound_name state valid) (λ gone. absurd (contrary gone refl));
      listed = λ item.
          let change = owners-set item state.objects number (Some new) within in
          let had : ◌≡◌ {A = ℕ} (cond (slot_has_item item (object_at state number)) 1 0) (cond (has_item object item) 1 0) = ap (λ s. cond (slot_has_item item s) 1 0) here in
          let has : ◌≡◌ {A = ℕ} (cond (has_item new item) 1 0) (cond (has_item object item) 1 0) = ap (λ b. cond b 1 0) (same-items object settled item) in
          let was = valid.listed item in omega (arith, change, had, has, was);
      once = valid.once;
      held = Each-set (λ n o. (o.live && o.settled ≡ false) → is_named state n ≡ true) state.objects number (Some new) (loose settled named) (λ m other. valid.held m);
    }
  where
    loose : (b : Bool) → (b ≡ false → is_named state number ≡ true) → (object.live && b ≡ false) → is_named state number ≡ true
    loose true h e = absurd (and-true object.live live e)
    loose false h e = h refl
