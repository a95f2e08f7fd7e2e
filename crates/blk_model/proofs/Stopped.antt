-- What a crash leaves is a valid snapshot, and the durable contents before and after a command are something that a crash in it may leave.
use Rattle.std.proofs.Common.{◌≡◌, ℕ, zero, suc, ◌≤◌, Bool, true, false, not, cond, List, [], ◌∷◌, ◌++◌, Some, None, Option, refl, ap, sym, ◌∙◌, subst, arith, length, map, take}
use Rattle.std.proofs.lemmas.Bool.{and_parts}
use Rattle.blk_model.specs.Items.{Item, main, part, Row, IsValidHolding, same_item, times}
use Rattle.blk_model.specs.State.{Object, State, IsValidState, object_at, live_with}
use Rattle.blk_model.specs.Request.{Request, to_create, to_open, to_read, to_write, to_size, to_sparse_write, to_sparse_read, to_sparse_range, to_doom, to_doom_key, to_close, to_flush, to_list, to_trim, to_total}
use Rattle.blk_model.specs.Room.{Group, whole, single, takes}
use Rattle.blk_model.specs.Effects.{object_of, number_of, existing_parts, used}
use Rattle.blk_model.specs.Sparse.{covered_parts}
use Rattle.blk_model.specs.Refusals.{refused, evicted}
use Rattle.blk_model.specs.Step.{step}
use Rattle.blk_model.specs.ListSteps.{ListStep, out, front, after_step, after_steps, doom_steps, object_for, uses_of, dooms, steps_unless, list_steps, list_after}
use Rattle.blk_model.specs.Stops.{picked, pick, StopOutcome}
use Rattle.blk_model.proofs.Same.{same_bytes, bytes_eq_self}
use Rattle.blk_model.proofs.Times.{times-filter, times-used}
use Rattle.blk_model.proofs.Chosen.{IsGoodList, uses_are_good, chosen_are_valid, picked_chooses}

-- what a step needs of the list that it is made on: a part comes to the front only where its main item is
abbrev pub IsFit : List Item → ListStep → Type 0
IsFit items (out group) = Unit {0}
IsFit items (front (main key)) = Unit {0}
IsFit items (front (part key n)) = 1 ≤ times (main key) items

-- what several steps need, one after another
abbrev pub AreFit : List Item → List ListStep → Type 0
AreFit items [] = Unit {0}
AreFit items (step ∷ steps) = IsFit items step × AreFit (after_step items step) steps

at_most : (b : Bool) (n : ℕ) → n ≤ 1 → cond b n 0 ≤ 1
at_most true n le = le
at_most false n le = omega arith

at_most_used : (b : Bool) (n : ℕ) → n ≤ 1 → cond b 1 n ≤ 1
at_most_used true n le = omega arith
at_most_used false n le = le

-- an eviction unit that does not take a part does not take its main item
main_left : (key : List ℕ) (n : ℕ) (group : Group) → not (takes (part key n) group) ≡ true → not (takes (main key) group) ≡ true
main_left key n (whole other parts) left = left
main_left key n (single other m) left = refl

still_there : (part_stays main_stays : Bool) (p m : ℕ) → (part_stays ≡ true → main_stays ≡ true) → (1 ≤ p → 1 ≤ m) → 1 ≤ cond part_stays p 0 → 1 ≤ cond main_stays m 0
still_there true true p m h closed some = closed some
still_there true false p m h closed some = let e = h refl in absurd (no_longer e)
  where
    no_longer : false ≡ true → ⊥
    no_longer e = cc
still_there false b p m h closed some = absurd (omega arith)

out_good : (items : List Item) → IsGoodList items → (group : Group) → IsGoodList (after_step items (out group))
out_good items good group = record {
  once = λ item. subst (λ n. n ≤ 1) (sym (times-filter (λ i. not (takes i group)) item items)) (at_most (not (takes item group)) (times item items) (good.once item));
  with_main = λ key n some.
      let p = times-filter (λ i. not (takes i group)) (part key n) items in
      let m = times-filter (λ i. not (takes i group)) (main key) items in
      subst (λ k. 1 ≤ k) (sym m) (still_there (not (takes (part key n) group)) (not (takes (main key) group)) (times (part key n) items) (times (main key) items) (main_left key n group) (good.with_main key n) (subst (λ k. 1 ≤ k) p some));
}

used_once : (items : List Item) → IsGoodList items → (item i : Item) → times i (used item items) ≤ 1
used_once items good item i = subst (λ n. n ≤ 1) (sym (times-used i item items)) (at_most_used (same_item i item) (times i items) (good.once i))

more_used : (b : Bool) (n : ℕ) → 1 ≤ n → 1 ≤ cond b 1 n
more_used true n le = omega arith
more_used false n le = le

main_front_good : (items : List Item) → IsGoodList items → (key : List ℕ) → IsGoodList (used (main key) items)
main_front_good items good key = record {
  once = used_once items good (main key);
  with_main = λ k n some.
      let p = times-used (part k n) (main key) items in
      subst (λ c. 1 ≤ c) (sym (times-used (main k) (main key) items)) (more_used (same_item (main k) (main key)) (times (main k) items) (good.with_main k n (subst (λ c. 1 ≤ c) p some)));
}

part_of_front : (same : Bool) (k key : List ℕ) (p m own : ℕ) → (same ≡ true → k ≡ key) → (k ≡ key → 1 ≤ m) → (1 ≤ p → 1 ≤ m) → 1 ≤ cond same 1 p → 1 ≤ m
part_of_front true k key p m own keys has closed some = has (keys refl)
part_of_front false k key p m own keys has closed some = closed some

part_front_good : (items : List Item) → IsGoodList items → (key : List ℕ) (m : ℕ) → 1 ≤ times (main key) items → IsGoodList (used (part key m) items)
part_front_good items good key m has = record {
  once = used_once items good (part key m);
  with_main = λ k n some.
      let p = times-used (part k n) (part key m) items in
      subst (λ c. 1 ≤ c) (sym (times-used (main k) (part key m) items))
      (part_of_front (same_item (part k n) (part key m)) k key (times (part k n) items) (times (main k) items) 0 (λ same. same_bytes k key (and_parts _ _ same).0) (λ same. subst (λ x. 1 ≤ times (main x) items) (sym same) has) (good.with_main k n) (subst (λ c. 1 ≤ c) p some));
}

step_good : (items : List Item) → IsGoodList items → (step : ListStep) → IsFit items step → IsGoodList (after_step items step)
step_good items good (out group) fit = out_good items good group
step_good items good (front (main key)) fit = main_front_good items good key
step_good items good (front (part key n)) fit = part_front_good items good key n fit

-- a list stays good after any number of fit steps
steps_good : (steps : List ListStep) (items : List Item) → IsGoodList items → AreFit items steps → (j : ℕ) → IsGoodList (after_steps (take j steps) items)
steps_good steps items good fit zero = good
steps_good [] items good fit (suc j) = good
steps_good (step ∷ steps) items good fit (suc j) = steps_good steps (after_step items step) (step_good items good step fit.0) fit.1 j

fit-append : (a b : List ListStep) (items : List Item) → AreFit items a → ((later : List Item) → AreFit later b) → AreFit items (a ++ b)
fit-append [] b items fit all = all items
fit-append (step ∷ a) b items fit all = (fit.0, fit-append a b (after_step items step) fit.1 all)

outs_fit : (groups : List Group) (items : List Item) → AreFit items (map out groups)
outs_fit [] items = tt
outs_fit (group ∷ groups) items = (tt, outs_fit groups (after_step items (out group)))

doom_steps_fit : (state : State) (slot : Option Object) (items : List Item) → AreFit items (doom_steps state slot)
unfolding doom_steps
doom_steps_fit state None items = tt
doom_steps_fit state (Some object) items =
    elim (object.live) as (λ b. AreFit items (cond b (out (whole object.key (Rattle.blk_model.specs.Room.parts_among object.key state.uses)) ∷ []) [])) [ true ↦ (tt, tt) | false ↦ tt ]

dooms_fit : (request : Request) (state : State) (items : List Item) → AreFit items (dooms request state)
unfolding dooms
dooms_fit (to_create handle key) state items = tt
dooms_fit (to_open handle key) state items = tt
dooms_fit (to_read handle stream offset count) state items = tt
dooms_fit (to_write handle stream offset cut bytes) state items = tt
dooms_fit (to_size handle stream) state items = tt
dooms_fit (to_sparse_write handle offset bytes) state items = tt
dooms_fit (to_sparse_read handle offset count) state items = tt
dooms_fit (to_sparse_range handle offset count) state items = tt
dooms_fit (to_doom handle) state items = doom_steps_fit state (object_at state (number_of state handle)) items
dooms_fit (to_doom_key key) state items = doom_steps_fit state (object_for state (live_with state key)) items
dooms_fit (to_close handle) state items = tt
dooms_fit (to_flush handle) state items = tt
dooms_fit to_list state items = tt
dooms_fit (to_trim bytes) state items = tt
dooms_fit to_total state items = tt

parts_fit : (key : List ℕ) (ns : List ℕ) (items : List Item) → 1 ≤ times (main key) items → AreFit items (map front (map (part key) ns))
parts_fit key [] items has = tt
parts_fit key (n ∷ ns) items has = (has, parts_fit key ns (used (part key n) items) (subst (λ c. 1 ≤ c) (sym (times-used (main key) (part key n) items)) has))

main_fit : (key : List ℕ) (items : List Item) → AreFit items (map front (main key ∷ []))
main_fit key items = (tt, tt)

all_fit : (key : List ℕ) (ns : List ℕ) (items : List Item) → AreFit items (map front (main key ∷ map (part key) ns))
all_fit key ns items =
    let one : times (main key) (used (main key) items) ≡ 1 = times-used (main key) (main key) items ∙ ap (λ b. cond b 1 (times (main key) items)) (bytes_eq_self key) in
    (tt, parts_fit key ns (used (main key) items) (omega arith))

if_live_fit : (live : Bool) (key : List ℕ) (items : List Item) → AreFit items (map front (cond live (main key ∷ []) []))
if_live_fit true key items = main_fit key items
if_live_fit false key items = tt

uses_fit : (request : Request) (state : State) (items : List Item) → AreFit items (map front (uses_of request state))
unfolding uses_of
uses_fit (to_create handle key) state items = main_fit key items
uses_fit (to_open handle key) state items = main_fit key items
uses_fit (to_read handle stream offset count) state items = let object = object_of state handle in if_live_fit object.live object.key items
uses_fit (to_write handle stream offset cut bytes) state items = let object = object_of state handle in if_live_fit object.live object.key items
uses_fit (to_size handle stream) state items = tt
uses_fit (to_sparse_write handle offset bytes) state items = let object = object_of state handle in all_fit object.key (covered_parts offset (length bytes)) items
uses_fit (to_sparse_read handle offset count) state items = let object = object_of state handle in all_fit object.key (existing_parts object (covered_parts offset count)) items
uses_fit (to_sparse_range handle offset count) state items = let object = object_of state handle in all_fit object.key (existing_parts object (covered_parts offset count)) items
uses_fit (to_doom handle) state items = tt
uses_fit (to_doom_key key) state items = tt
uses_fit (to_close handle) state items = tt
uses_fit (to_flush handle) state items = tt
uses_fit to_list state items = tt
uses_fit (to_trim bytes) state items = tt
uses_fit to_total state items = tt

list_steps_fit : (state : State) (moment : ℕ) (request : Request) → AreFit state.uses (list_steps state moment request)
unfolding list_steps steps_unless
list_steps_fit state moment request =
    elim (refused moment request state) as (λ why. AreFit state.uses (steps_unless moment request state why)) [
      | Some why ↦ tt
      | None ↦ fit-append (map out (evicted moment request state) ++ dooms request state) (map front (uses_of request state)) state.uses
          (fit-append (map out (evicted moment request state)) (dooms request state) state.uses (outs_fit (evicted moment request state) state.uses) (dooms_fit request state))
          (uses_fit request state)
    ]

list_after_good : (state : State) (valid : IsValidState state) (moment : ℕ) (request : Request) (j : ℕ) → IsGoodList (list_after state moment request j)
unfolding list_after
list_after_good state valid moment request j = steps_good (list_steps state moment request) state.uses (uses_are_good state valid) (list_steps_fit state moment request) j

-- each pick of a crash outcome is a valid snapshot
pub stop_is_valid : (before : State) (moment : ℕ) (request : Request) (after : State) (held : List Row) → IsValidState before → StopOutcome before moment request after held → IsValidHolding held
unfolding pick
stop_is_valid before moment request after held valid outcome =
    subst IsValidHolding (sym outcome.picked_rows)
    (chosen_are_valid before valid (picked before after outcome.with_turned) _ (picked_chooses before after outcome.with_turned) (list_after before moment request outcome.step_count) (list_after_good before valid moment request outcome.step_count))
