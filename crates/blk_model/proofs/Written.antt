-- States that stay valid while the object of a handle changes.
use Rattle.std.proofs.Common.{◌≡◌, ℕ, zero, suc, ◌+◌, ◌≤◌, Bool, true, false, ◌&&◌, cond, List, [], ◌∷◌, Some, None, refl, ap, sym, ◌∙◌, subst, arith, set, length, get_or-set_same}
use Rattle.std.specs.List.{AllByRecursion}
use Rattle.std.specs.Option.{option_and_then, unwrap_or}
use Rattle.std.specs.Bool.{nat_lt}
use Rattle.std.proofs.lemmas.Bool.{ltb-false}
use Rattle.blk_model.specs.Items.{Item, main, part, times, is_sparse, PartValue, Streams, IsBytes, HasOneStream}
use Rattle.blk_model.specs.State.{Object, State, IsValidState, IsObject, object_at, is_named, has_item, slot_has_item, owners}
use Rattle.blk_model.specs.Room.{Group, left_of, without, is_pinned}
use Rattle.blk_model.specs.Effects.{streams_with, new_object, number_of, object_of, stream_after, stream_of, used, used_main, with_slot, with_stream, written}
use Rattle.blk_model.specs.Refusals.{is_kept_from_streams, names_none}
use Rattle.blk_model.proofs.ByteLists.{stream_in_is, stream_after_is, streams_with_are}
use Rattle.blk_model.proofs.Slots.{owners-set}
use Rattle.blk_model.proofs.Each.{Each-set, some_within, any_has}
use Rattle.blk_model.proofs.States.{named_object, if_some_is, state_uses, state_used, main_owner}
use Rattle.blk_model.proofs.Doomed.{contrary, still_there, bound_name}
use Rattle.blk_model.proofs.Evicted.{IsLoose, kept_parts, named_left, map_at}

-- another object in place of one that has a handle, and a list that follows its items
pub state_replaced : (state : State) (valid : IsValidState state) (number : ℕ) (object : Object) → object_at state number ≡ Some object → is_named state number ≡ true → (new : Object) → IsObject new → (uses : List Item) →
    ((item : Item) → times item uses + cond (has_item object item) 1 0 ≡ times item state.uses + cond (has_item new item) 1 0) → ((item : Item) → times item uses ≤ 1) → IsValidState (record state { objects = set state.objects number (Some new); uses = uses })
state_replaced state valid number object here held new is_object uses moved once =
    let within = some_within state.objects number object here in
    record {
      objects = Each-set (λ n. IsObject) state.objects number (Some new) is_object (λ m other. valid.objects m);
      names = valid.names;
      bound = still_there state valid state.names number (Some new) (bound_name state valid) (λ gone. absurd (contrary gone refl));
      listed = λ item.
          let change = owners-set item state.objects number (Some new) within in
          let had : ◌≡◌ {A = ℕ} (cond (slot_has_item item (object_at state number)) 1 0) (cond (has_item object item) 1 0) = ap (λ s. cond (slot_has_item item s) 1 0) here in
          let was = valid.listed item in let now = moved item in omega (arith, change, had, was, now);
      once = once;
      held = Each-set (λ n o. (o.live && o.settled ≡ false) → is_named state n ≡ true) state.objects number (Some new) (λ loose. held) (λ m other. valid.held m);
    }

-- an object with the same items
pub state_changed : (state : State) (valid : IsValidState state) (number : ℕ) (object : Object) → object_at state number ≡ Some object → is_named state number ≡ true → (new : Object) → IsObject new → ((item : Item) → has_item new item ≡ has_item object item) → IsValidState (with_slot number (Some new) state)
state_changed state valid number object here held new is_object same =
    state_replaced state valid number object here held new is_object state.uses (λ item. ap (λ b. times item state.uses + cond b 1 0) (sym (same item))) valid.once

-- the object after a write to a stream
abbrev after_write : Object → ℕ → ℕ → Bool → List ℕ → Object
after_write object stream offset cut bytes = let written_to = with_stream object stream (stream_after cut (stream_of object stream) offset bytes) in record written_to { settled = false }

first_stream : (sparse low : Bool) → (sparse && low) ≡ false → sparse ≡ true → low ≡ false
first_stream true low e s = e
first_stream false low e s = cc

zero_is : (stream : ℕ) → nat_lt 0 stream ≡ false → stream ≡ 0
zero_is stream e = let le = ltb-false 0 stream e in omega arith

first_only : (streams : Streams) (stream : ℕ) (bytes : List ℕ) → stream ≡ 0 → HasOneStream streams → HasOneStream (streams_with streams stream bytes)
first_only streams zero bytes is one = record { second = one.second; third = one.third }
first_only streams (suc n) bytes is one = absurd (omega arith)

written_is_object : (object : Object) (stream offset : ℕ) (cut : Bool) (bytes : List ℕ) → IsBytes bytes → IsObject object → (is_sparse object.shape && nat_lt 0 stream) ≡ false → IsObject (after_write object stream offset cut bytes)
written_is_object object stream offset cut bytes is_bytes valid apart = record {
  key = valid.key;
  streams = streams_with_are object.streams stream _ valid.streams (stream_after_is cut (stream_of object stream) offset bytes (stream_in_is object.streams stream valid.streams) is_bytes);
  signature = valid.signature;
  plain_has_no_parts = valid.plain_has_no_parts;
  doomed_has_no_parts = valid.doomed_has_no_parts;
  sparse_has_one_stream = λ is_one. first_only object.streams stream _ (zero_is stream (first_stream _ _ apart is_one)) (valid.sparse_has_one_stream is_one);
  rising = valid.rising;
  parts = valid.parts;
}

written_has : (object : Object) (stream offset : ℕ) (cut : Bool) (bytes : List ℕ) (item : Item) → has_item (after_write object stream offset cut bytes) item ≡ has_item object item
written_has object stream offset cut bytes (main key) = refl
written_has object stream offset cut bytes (part key n) = refl

-- the access of a main item, by an object that is the same but for its streams
used_after : (state : State) (valid : IsValidState state) (number : ℕ) (object new : Object) → object_at state number ≡ Some new → new.key ≡ object.key → new.live ≡ object.live → IsValidState (used_main object state)
used_after state valid number object new here key live =
    elim (object.live) as (λ b. object.live ≡ b → IsValidState (record state { uses = cond b (used (main object.key) state.uses) state.uses })) [
      | true ↦ λ is_live. state_used state valid (main object.key) (subst (λ k. owners (main k) state.objects ≡ 1) key (main_owner state valid number new here (live ∙ is_live)))
      | false ↦ λ dead. state_uses state valid state.uses valid.listed
    ] refl

pub state_written : (state : State) (valid : IsValidState state) (handle stream offset : ℕ) (cut : Bool) (bytes : List ℕ) → IsBytes bytes → names_none state handle ≡ false → is_kept_from_streams state handle stream ≡ false → IsValidState (written handle stream offset cut bytes state)
unfolding written
state_written state valid handle stream offset cut bytes is_bytes bound apart =
    let named = named_object state valid handle bound in
    let object = named.object in
    let new = after_write object stream offset cut bytes in
    let held = any_has state.names handle named.number named.by_name in
    let within = some_within state.objects named.number object named.here in
    let is_object = written_is_object object stream offset cut bytes is_bytes (if_some_is (object_at state named.number) IsObject object named.here (valid.objects named.number)) (ap (λ o. is_sparse o.shape && nat_lt 0 stream) (sym named.object_is) ∙ apart) in
    let changed = state_changed state valid named.number object named.here held new is_object (written_has object stream offset cut bytes) in
    subst (λ n. IsValidState (used_main (object_of state handle) (with_slot n (Some (after_write (object_of state handle) stream offset cut bytes)) state))) (sym named.number_is)
    (subst (λ o. IsValidState (used_main o (with_slot named.number (Some (after_write o stream offset cut bytes)) state))) (sym named.object_is)
    (used_after (with_slot named.number (Some new) state) changed named.number object new (get_or-set_same state.objects named.number (Some new) None within) refl refl))

-- names stay
pub without_names : (groups : List Group) (state : State) → (without groups state).names ≡ state.names
unfolding without
without_names [] state = refl
without_names (group ∷ groups) state = refl

-- the object of a handle stays but for parts that are evicted
pub object_left : (state : State) (valid : IsValidState state) (covered : List Item) (groups : List Group) → AllByRecursion (IsLoose (is_pinned state covered)) groups → (handle : ℕ) → names_none state handle ≡ false →
    (parts : List (ℕ × PartValue)) × (object_of (without groups state) handle ≡ record (object_of state handle) { parts = parts })
unfolding without
object_left state valid covered [] loose handle bound = ((object_of state handle).parts, refl)
object_left state valid covered (group ∷ groups) loose handle bound =
    let named = named_object state valid handle bound in
    let all = group ∷ groups in
    let after = without (group ∷ groups) state in
    let held = any_has state.names handle named.number named.by_name in
    let with_parts : Object → Object = λ o. record o { parts = kept_parts (group ∷ groups) named.object } in
    let here : object_at after named.number ≡ Some (record named.object { parts = kept_parts (group ∷ groups) named.object }) =
    map_at (left_of (group ∷ groups)) state.objects named.number ∙ ap (option_and_then (left_of (group ∷ groups))) named.here ∙ named_left state valid covered (group ∷ groups) loose named.number named.object named.here held in
    let number_is : number_of after handle ≡ named.number = ap (λ o. unwrap_or o (length after.objects)) named.by_name in (
      kept_parts (group ∷ groups) named.object,
      ap (λ n. unwrap_or (object_at after n) (new_object [])) number_is ∙ ap (λ o. unwrap_or o (new_object [])) here ∙ ap with_parts (sym named.object_is),
    )
