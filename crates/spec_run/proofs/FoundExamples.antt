-- Worked crashes, computed: without their premises the laws on what is found would be wrong.
use Rattle.std.proofs.Common.{ℕ, ◌≡◌, ◌≤◌, inl, inr, ⊎_elim, true, false, List, [], ◌∷◌, length, map, Some, codes, refl, sym, ◌∙◌, ap, subst, arith}
use Rattle.std.specs.List.{Contains}
use Rattle.std.specs.Option.{option_map}
use Rattle.std.specs.Str.{bytes_eq}
use Rattle.blk_model.specs.Items.{Item, Row, main, main_row, part, plain, sparse, same_item, item_of, key_of}
use Rattle.blk_model.specs.Holding.{owner, row_of}
use Rattle.blk_model.specs.ListSteps.{list_after, list_steps}
use Rattle.blk_model.specs.Request.{to_close, to_create, to_open, to_sparse_write, to_trim}
use Rattle.blk_model.specs.State.{State}
use Rattle.blk_model.specs.Stops.{pick}
use Rattle.blk_model.proofs.Computing.{computing}
use Rattle.blk_model.proofs.Rows.{after_all, new}
use Rattle.blk_model.proofs.StopRows.{a, b, c, pair}
use Rattle.spec_run.specs.Run.{Stamped, state_then}
use Rattle.spec_run.specs.Laws.{HasItsRow, Precedes}
use Rattle.spec_run.proofs.CrashedCommands.{Leaves}
use Rattle.spec_run.proofs.ListOrder.{contained_cases, first_contained, later_contained, none_contained}
use Rattle.spec_run.proofs.StepFacts.{true_false}

-- Two closed objects, `b` used last, and an Open of `a`.

abbrev opening : Stamped
opening = record { moment = 100; request = to_open 0 a }

-- an empty object
abbrev empty : List ℕ → Row
empty key = main_row key plain ([], [], [])

b_was_first : pair.uses ≡ main b ∷ main a ∷ []
unfolding computing
b_was_first = refl

-- a crash after the list step leaves `a` first
a_is_first : Leaves pair opening (empty a ∷ empty b ∷ [])
unfolding computing
a_is_first = record { step_count = 1; within = omega arith; with_turned = false; picked_rows = refl }

other_key : empty a ≡ empty b → ⊥
other_key same = let keys : bytes_eq a b ≡ bytes_eq b b = ap (λ (row : Row). bytes_eq (key_of (item_of row)) b) same in true_false {b = true} refl (sym keys)

b_is_not_first : Precedes (empty a ∷ empty b ∷ []) (empty b) (empty a) → ⊥
b_is_not_first (inl here) = other_key here.0
b_is_not_first (inr (inl here)) = none_contained (empty a) here.1
b_is_not_first (inr (inr none)) = none

-- so it isn't so that whatever is found has the old order: the command may access what came later
not_all_keep_their_order : ((state : State) (command : Stamped) (rows : List Row) → Leaves state command rows → (one other : Row) → Contains rows one → Contains rows other → Precedes state.uses (item_of one) (item_of other) → Precedes rows one other) → ⊥
not_all_keep_their_order law =
    b_is_not_first
    (law pair opening (empty a ∷ empty b ∷ []) a_is_first (empty b) (empty a) (1, omega arith, refl) (0, omega arith, refl)
    (subst (λ (uses : List Item). Precedes uses (main b) (main a)) (sym b_was_first) (inl (refl, (0, omega arith, refl)))))

-- A closed sparse object with two parts, the first after its main item in the LRU list, and a Trim of all.

abbrev two_parts : State
two_parts = after_all new (to_create 0 c ∷ to_sparse_write 0 0 (codes "x") ∷ to_sparse_write 0 1048576 (codes "y") ∷ to_close 0 ∷ [])

abbrev trim : Stamped
trim = record { moment = 100; request = to_trim 0 }

-- what its first list step leaves: it takes that part alone
abbrev left : List Row
left = pick two_parts (state_then two_parts trim) false (list_after two_parts 100 (to_trim 0) 1)

abbrev main_of_c : Row
main_of_c = main_row c (sparse 100) ([], [], [])

main_is_left : Contains left main_of_c
unfolding computing
main_is_left = (1, omega arith, refl)

one_object : owner two_parts (part c 0) ≡ owner two_parts (main c)
unfolding computing
one_object = refl

part_was_there : option_map item_of (row_of two_parts (part c 0)) ≡ Some (part c 0)
unfolding computing
part_was_there = refl

part_is_gone : Leaves two_parts trim left
part_is_gone = record { step_count = 1; within = one_step; with_turned = false; picked_rows = refl }
  where
    one_step : 1 ≤ length (list_steps two_parts 100 (to_trim 0))
    one_step = unfold computing in omega arith

items_left : map item_of left ≡ part c 1 ∷ main c ∷ []
unfolding computing
items_left = refl

other_item : (item : Item) → same_item (part c 0) item ≡ false → item ≡ part c 0 → ⊥
other_item item other same = let is : same_item (part c 0) (part c 0) ≡ false = ap (same_item (part c 0)) (sym same) ∙ other in true_false {b = true} refl is

not_listed : Contains (part c 1 ∷ main c ∷ []) (part c 0) → ⊥
not_listed there =
    ⊎_elim (other_item (part c 1) refl)
    (λ (later : Contains (main c ∷ []) (part c 0)). ⊎_elim (other_item (main c) refl) (none_contained (part c 0)) (contained_cases (main c) [] (part c 0) later))
    (contained_cases (part c 1) (main c ∷ []) (part c 0) there)

item_same : (one other : Item) → Some one ≡ Some other → one ≡ other
item_same one other e = cc

with_item : (rows : List Row) (row : Row) → Contains rows row → Contains (map item_of rows) (item_of row)
with_item [] row there = none_contained row there
with_item (r ∷ rows) row there =
    ⊎_elim (λ (same : r ≡ row). subst (λ (i : Item). Contains (i ∷ map item_of rows) (item_of row)) (ap item_of (sym same)) (first_contained (item_of row) (map item_of rows)))
    (λ (later : Contains rows row). later_contained (item_of r) (map item_of rows) (item_of row) (with_item rows row later))
    (contained_cases r rows row there)

-- so it isn't so that an object of which something is found has all its items found: the command may evict some of them alone
not_all_are_whole : ((state : State) (command : Stamped) (rows : List Row) → Leaves state command rows → (row : Row) (item : Item) → Contains rows row → owner state item ≡ owner state (item_of row) → HasItsRow state rows item) → ⊥
not_all_are_whole law =
    let value = law two_parts trim left part_is_gone main_of_c (part c 0) main_is_left one_object in
    let is : item_of value.0 ≡ part c 0 = item_same (item_of value.0) (part c 0) (sym (ap (option_map item_of) value.1) ∙ part_was_there) in
    not_listed (subst (λ (items : List Item). Contains items (part c 0)) items_left (subst (λ (i : Item). Contains (map item_of left) i) is (with_item left value.0 value.2)))
