-- The LRU list after the steps of a command is that of the state after it.
use Rattle.std.proofs.Common.{◌≡◌, ℕ, Bool, true, false, not, ◌&&◌, ◌||◌, cond, List, [], ◌∷◌, ◌++◌, Some, None, Option, IfSome, refl, ap, sym, ◌∙◌, subst, arith, length, map}
use Rattle.std.specs.List.{filter}
use Rattle.std.proofs.lemmas.Bool.{not-false}
use Rattle.std.proofs.lemmas.List.Elements.{filter_agree}
use Rattle.blk_model.proofs.Doomed.{live_from_main}
use Rattle.blk_model.specs.Items.{Item, main, part}
use Rattle.blk_model.specs.State.{Object, State, IsValidState, object_at, live_with, slot_has_item}
use Rattle.blk_model.specs.Sparse.{covered_parts}
use Rattle.blk_model.specs.Room.{Group, whole, parts_among, takes, is_out, not_out, without}
use Rattle.blk_model.specs.Request.{Request, to_create, to_open, to_read, to_write, to_size, to_sparse_write, to_sparse_read, to_sparse_range, to_doom, to_doom_key, to_close, to_flush, to_list, to_trim, to_total}
use Rattle.blk_model.specs.Step.{step, outcome}
use Rattle.blk_model.specs.ListSteps.{ListStep, out, front, after_step, after_steps, doom_steps, object_for, uses_of, dooms, steps_unless, list_steps}
use Rattle.blk_model.specs.Effects.{doomed, doomed_key, effect, existing_parts, number_of, object_of, released, settled_at, flushed, used, used_all, with_name, closed, created, opened, sparse_used, sparse_written, written}
use Rattle.blk_model.specs.Refusals.{covered, evicted, first_refusal, refusals, refused, room_for}
use Rattle.blk_model.proofs.Slots.{first_with_has}
use Rattle.blk_model.proofs.States.{named_object}
use Rattle.blk_model.proofs.Written.{object_left}
use Rattle.blk_model.proofs.Steps.{none_comes, room_for_is_loose}

pub after_steps-append : (a b : List ListStep) (items : List Item) → after_steps (a ++ b) items ≡ after_steps b (after_steps a items)
after_steps-append [] b items = refl
after_steps-append (step ∷ a) b items = after_steps-append a b (after_step items step)

filter_twice : (p q : Item → Bool) (items : List Item) → filter p (filter q items) ≡ filter (λ i. q i && p i) items
filter_twice p q [] = refl
filter_twice p q (i ∷ items) =
    elim (q i) as (λ b. filter p (cond b (i ∷ filter q items) (filter q items)) ≡ cond (b && p i) (i ∷ filter (λ j. q j && p j) items) (filter (λ j. q j && p j) items)) [
      | true ↦ ap (λ rest. cond (p i) (i ∷ rest) rest) (filter_twice p q items)
      | false ↦ filter_twice p q items
    ]

not_or : (a b : Bool) → (not a && not b) ≡ not (a || b)
not_or true b = refl
not_or false b = refl

-- eviction units that are evicted one after another
pub outs : (groups : List Group) (items : List Item) → after_steps (map out groups) items ≡ not_out groups items
outs [] items = sym (filter_all items)
  where
    filter_all : (items : List Item) → filter (λ (i : Item). true) items ≡ items
    filter_all [] = refl
    filter_all (i ∷ items) = ap (λ rest. i ∷ rest) (filter_all items)
outs (group ∷ groups) items =
    outs groups (filter (λ i. not (takes i group)) items)
    ∙ filter_twice (λ i. not (is_out groups i)) (λ i. not (takes i group)) items
    ∙ filter_agree (λ i. not (takes i group) && not (is_out groups i)) (λ i. not (is_out (group ∷ groups) i)) (λ i. not_or (takes i group) (is_out groups i)) items

-- eviction units that are evicted all at once
pub without_uses : (groups : List Group) (state : State) → not_out groups state.uses ≡ (without groups state).uses
unfolding without
without_uses [] state = sym (outs [] state.uses)
without_uses (group ∷ groups) state = refl

fronts : (items list : List Item) → after_steps (map front items) list ≡ used_all items list
fronts [] list = refl
fronts (item ∷ items) list = fronts items (used item list)

-- eviction units that are evicted, and then items that are accessed
gone_then_used : (groups : List Group) (items : List Item) (state : State) → after_steps (map out groups ++ [] ++ map front items) state.uses ≡ used_all items (without groups state).uses
gone_then_used groups items state =
    after_steps-append (map out groups ++ []) (map front items) state.uses
    ∙ ap (after_steps (map front items)) (after_steps-append (map out groups) [] state.uses ∙ outs groups state.uses ∙ without_uses groups state)
    ∙ fronts items (without groups state).uses

used_if : (live : Bool) (item : Item) (list : List Item) → used_all (cond live (item ∷ []) []) list ≡ cond live (used item list) list
used_if true item list = refl
used_if false item list = refl

doomed_uses : (state : State) (number : ℕ) (slot : Option Object) → IfSome slot (λ object. object.live ≡ true) → after_steps (doom_steps state slot) state.uses ≡ (doomed number state slot).uses
unfolding doomed doom_steps
doomed_uses state number None live = refl
doomed_uses state number (Some object) live = ap (λ b. after_steps (cond b (out (whole object.key (parts_among object.key state.uses)) ∷ []) []) state.uses) live

doomed_key_uses : (state : State) (key : List ℕ) (found : Option ℕ) → live_with state key ≡ found → after_steps (doom_steps state (object_for state found)) state.uses ≡ (doomed_key state found).uses
unfolding doom_steps
doomed_key_uses state key None e = refl
doomed_key_uses state key (Some number) e =
    let has = first_with_has (main key) 0 number state.objects e in
    let same : has.0 ≡ number = omega (arith, has.1) in
    doomed_uses state number (object_at state number) (live_from_main key (object_at state number) (subst (λ n. slot_has_item (main key) (object_at state n) ≡ true) same has.2))

released_uses : (number : ℕ) (state : State) (slot : Option Object) → (released number state slot).uses ≡ state.uses
released_uses number state None = refl
released_uses number state (Some object) = refl

settled_uses : (number : ℕ) (state : State) (slot : Option Object) → (settled_at number state slot).uses ≡ state.uses
settled_uses number state None = refl
settled_uses number state (Some object) = refl

pub effect_uses : (state : State) (valid : IsValidState state) (moment : ℕ) (request : Request) → first_refusal (refusals moment request state) ≡ None →
    after_steps (map out (evicted moment request state) ++ dooms request state ++ map front (uses_of request state)) state.uses ≡ (effect moment request (without (evicted moment request state) state)).uses
unfolding effect dooms uses_of created opened evicted without refusals written room_for sparse_written covered_parts sparse_used closed flushed
effect_uses state valid moment (to_create handle key) accepted = gone_then_used (evicted moment (to_create handle key) state) (main key ∷ []) state
effect_uses state valid moment (to_open handle key) accepted = refl
effect_uses state valid moment (to_read handle stream offset count) accepted = let object = object_of state handle in fronts (cond object.live (main object.key ∷ []) []) state.uses ∙ used_if object.live (main object.key) state.uses
effect_uses state valid moment (to_write handle stream offset cut bytes) accepted =
    let request = to_write handle stream offset cut bytes in
    let groups = evicted moment request state in
    let passed = none_comes (refusals moment request state) accepted in
    let object = object_of state handle in
    let left = object_left state valid [] groups (room_for_is_loose moment request state) handle passed.0 in
    gone_then_used groups (cond object.live (main object.key ∷ []) []) state ∙ used_if object.live (main object.key) (without groups state).uses
    ∙ ap (λ o. cond o.live (used (main o.key) (without groups state).uses) (without groups state).uses) (sym left.1)
effect_uses state valid moment (to_size handle stream) accepted = refl
effect_uses state valid moment (to_sparse_write handle offset bytes) accepted =
    let request = to_sparse_write handle offset bytes in
    let groups = evicted moment request state in
    let passed = none_comes (refusals moment request state) accepted in
    let object = object_of state handle in
    let left = object_left state valid (covered request state) groups (room_for_is_loose moment request state) handle passed.0 in
    gone_then_used groups (main object.key ∷ map (part object.key) (covered_parts offset (length bytes))) state
    ∙ ap (λ o. used_all (main o.key ∷ map (part o.key) (covered_parts offset (length bytes))) (without groups state).uses) (sym left.1)
effect_uses state valid moment (to_sparse_read handle offset count) accepted = let object = object_of state handle in fronts (main object.key ∷ map (part object.key) (existing_parts object (covered_parts offset count))) state.uses
effect_uses state valid moment (to_sparse_range handle offset count) accepted = let object = object_of state handle in fronts (main object.key ∷ map (part object.key) (existing_parts object (covered_parts offset count))) state.uses
effect_uses state valid moment (to_doom handle) accepted =
    let passed = none_comes (refusals moment (to_doom handle) state) accepted in
    let named = named_object state valid handle passed.0 in
    let live : named.object.live ≡ true = not-false _ (ap (λ o. not o.live) (sym named.object_is) ∙ passed.1.0) in
    let here : object_at state (number_of state handle) ≡ Some named.object = ap (object_at state) named.number_is ∙ named.here in
    after_steps-append (doom_steps state (object_at state (number_of state handle))) [] state.uses
    ∙ doomed_uses state (number_of state handle) (object_at state (number_of state handle)) (subst (λ slot. IfSome slot (λ object. object.live ≡ true)) (sym here) live)
effect_uses state valid moment (to_doom_key key) accepted =
    after_steps-append (doom_steps state (object_for state (live_with state key))) [] state.uses ∙ doomed_key_uses state key (live_with state key) refl
effect_uses state valid moment (to_close handle) accepted = sym (released_uses (number_of state handle) (with_name handle None state) (object_at state (number_of state handle)))
effect_uses state valid moment (to_flush handle) accepted = sym (settled_uses (number_of state handle) state (object_at state (number_of state handle)))
effect_uses state valid moment to_list accepted = refl
effect_uses state valid moment (to_trim bytes) accepted = gone_then_used (evicted moment (to_trim bytes) state) [] state
effect_uses state valid moment to_total accepted = refl

-- the LRU list after the list steps is that of the new state
pub uses_after_steps : (state : State) (moment : ℕ) (request : Request) → IsValidState state → after_steps (list_steps state moment request) state.uses ≡ (step state moment request).state.uses
unfolding steps_unless list_steps step outcome
uses_after_steps state moment request valid =
    elim (refused moment request state) as (λ why. refused moment request state ≡ why → after_steps (steps_unless moment request state why) state.uses ≡ (outcome moment request state why).state.uses) [
      | Some why ↦ λ e. refl
      | None ↦ λ e. effect_uses state valid moment request e
    ] refl
