-- States that stay valid while objects are made.
use Rattle.std.proofs.Common.{◌≡◌, ℕ, ◌+◌, ◌<◌, ◌≤◌, Bool, true, false, ◌&&◌, cond, List, [], ◌∷◌, ◌++◌, Some, None, IsSome, is_some, refl, ap, sym, ◌∙◌, subst, arith, get_or, set, length, length-set}
use Rattle.std.specs.Str.{bytes_eq}
use Rattle.std.proofs.lemmas.Bool.{and_right, eq-eqb}
use Rattle.std.proofs.lemmas.List.Elements.{All-nil}
use Rattle.blk_model.specs.Items.{Item, main, part, same_item, IsKey, IsPartValue, PartValue}
use Rattle.blk_model.specs.State.{State, IsValidState, IsObject, object_at, named_by, is_number, is_named, has_item, owners}
use Rattle.blk_model.specs.Sizes.{handle_names, part_count}
use Rattle.blk_model.specs.Effects.{created, new_object}
use Rattle.blk_model.proofs.ByteLists.{no_bytes_are}
use Rattle.blk_model.proofs.Same.{one_item}
use Rattle.blk_model.proofs.Slots.{owners-push}
use Rattle.blk_model.proofs.Times.{times-used}
use Rattle.blk_model.proofs.Each.{Each-set, Each-push, Each-weaker, some_push, push_at, any_set}
use Rattle.blk_model.proofs.States.{named_kept}

pub new_is_object : (key : List ℕ) → IsKey key → IsObject (new_object key)
new_is_object key is_key = record {
  key = is_key;
  streams = (no_bytes_are, no_bytes_are, no_bytes_are);
  signature = omega arith;
  plain_has_no_parts = λ e. refl;
  doomed_has_no_parts = λ e. refl;
  sparse_has_one_stream = λ e. record { second = refl; third = refl };
  rising = refl;
  parts = All-nil (λ (p : ℕ × PartValue). (p.0 < part_count) × IsPartValue p.1);
}

new_has : (key : List ℕ) (item : Item) → has_item (new_object key) item ≡ same_item item (main key)
new_has key (main other) = refl
new_has key (part other n) = and_right (bytes_eq other key) false refl

sums : (b : Bool) (n m : ℕ) → n ≡ m → (b ≡ true → m ≡ 0) → cond b 1 n ≡ m + cond b 1 0
sums true n m e none = let zero_is = none refl in omega arith
sums false n m e none = omega arith

small : (b : Bool) (n : ℕ) → n ≤ 1 → cond b 1 n ≤ 1
small true n le = omega arith
small false n le = le

pub state_created : (state : State) (valid : IsValidState state) (handle : ℕ) (key : List ℕ) → IsKey key → handle < handle_names → named_by state handle ≡ None → owners (main key) state.objects ≡ 0 → IsValidState (created handle key state)
unfolding created
state_created state valid handle key is_key bounded none absent =
    let number = length state.objects in
    let within : handle < length state.names = omega (arith, valid.names) in
    record {
      objects = Each-push (λ n. IsObject) state.objects (Some (new_object key)) (new_is_object key is_key) valid.objects;
      names = length-set state.names handle (Some number) ∙ valid.names;
      bound = Each-set (λ name n. IsSome (get_or (state.objects ++ Some (new_object key) ∷ []) n None)) state.names handle (Some number)
          (ap is_some (push_at state.objects (Some (new_object key))))
          (λ name other. Each-weaker (λ k n. IsSome (object_at state n)) (λ k n. IsSome (get_or (state.objects ++ Some (new_object key) ∷ []) n None)) state.names (λ k n e is. some_push state.objects n (Some (new_object key)) is) valid.bound name);
      listed = λ item. times-used item (main key) state.uses ∙ sums (same_item item (main key)) _ _ (valid.listed item) (λ same. subst (λ i. owners i state.objects ≡ 0) (sym (one_item item (main key) same)) absent)
          ∙ sym (owners-push item state.objects (Some (new_object key)) ∙ ap (λ b. owners item state.objects + cond b 1 0) (new_has key item));
      once = λ item. subst (λ n. n ≤ 1) (sym (times-used item (main key) state.uses)) (small (same_item item (main key)) _ (valid.once item));
      held = Each-push (λ n object. (object.live && object.settled ≡ false) → is_named (record state { names = set state.names handle (Some number) }) n ≡ true) state.objects (Some (new_object key))
          (λ loose. any_set (is_number number) state.names handle (Some number) within (eq-eqb number number refl))
          (Each-weaker (λ n object. (object.live && object.settled ≡ false) → is_named state n ≡ true) (λ n object. (object.live && object.settled ≡ false) → is_named (record state { names = set state.names handle (Some number) }) n ≡ true) state.objects
          (λ n object e was loose. named_kept state handle n (Some number) (ap (is_number n) none) (was loose)) valid.held);
    }
