-- The totals are the sums over the listed rows and the doomed objects.
use Rattle.std.proofs.Common.{◌≡◌, ℕ, suc, ◌+◌, ◌≤◌, Bool, true, false, not, ◌&&◌, cond, List, [], ◌∷◌, ◌++◌, Some, None, Option, is_some, IfSome, Less, Equal, Greater, refl, ap, sym, ◌∙◌, subst, arith, get_or, length, map}
use Rattle.std.specs.List.{All, filter_map, cons_option, sum_by, count_by}
use Rattle.std.specs.Bool.{◌==◌}
use Rattle.std.specs.Option.{option_and_then, option_map, option_map_or}
use Rattle.std.specs.Str.{bytes_eq}
use Rattle.std.specs.Ordering.{nat_cmp, eq_by_cmp, is_lt, is_eq}
use Rattle.std.specs.Cmp.{unsigned_tied}
use Rattle.std.specs.FinMap.{find, is_sorted}
use Rattle.std.specs.FinMap.Entries.{below_all}
use Rattle.std.proofs.lemmas.Bool.{and_parts, and_from, eqb-true, eq-eqb}
use Rattle.std.proofs.lemmas.List.Sums.{sum_by-cons, sum_by-append}
use Rattle.std.proofs.lemmas.List.Elements.{All-nil, All-cons, All-head, All-tail}
use Rattle.blk_model.specs.Items.{Item, main, part, Row, main_row, part_row, PartValue, same_item, signature_of, times}
use Rattle.blk_model.specs.Charge.{main_charge, part_charge}
use Rattle.blk_model.specs.State.{Object, State, IsValidState, IsObject, object_at, has_item, slot_has_item, owners}
use Rattle.blk_model.specs.Holding.{row_in, row_of, rows}
use Rattle.blk_model.specs.Room.{charge, own_charge, item_count, of_slot}
use Rattle.blk_model.specs.Totals.{signature_for, row_charge, doomed_charge, is_doomed_slot, AreSums}
use Rattle.blk_model.proofs.Same.{one_item, same_item_self, bytes_eq_self}
use Rattle.blk_model.proofs.Slots.{owners-cons}
use Rattle.blk_model.proofs.Times.{times-cons}
use Rattle.blk_model.proofs.States.{has_main, if_some_is}
use Rattle.blk_model.proofs.Chosen.{owned_at}

-- the list without the first of an item
less_one : Item → List Item → List Item
less_one i [] = []
less_one i (j ∷ list) = cond (same_item i j) list (j ∷ less_one i list)

sum_less_one : (w : Item → ℕ) (i : Item) (list : List Item) → 1 ≤ times i list → sum_by w list ≡ w i + sum_by w (less_one i list)
unfolding less_one
sum_less_one w i [] some = absurd (omega arith)
sum_less_one w i (j ∷ list) some =
    elim (same_item i j) as (λ b. same_item i j ≡ b → sum_by w (j ∷ list) ≡ w i + sum_by w (cond b list (j ∷ less_one i list))) [
      | true ↦ λ same. sum_by-cons w j list ∙ ap (λ k. w k + sum_by w list) (sym (one_item i j same))
      | false ↦ λ other.
          let more : times i (j ∷ list) ≡ 0 + times i list = times-cons i j list ∙ ap (λ b. cond b 1 0 + times i list) other in
          let rest = sum_less_one w i list (omega arith) in
          let here = sum_by-cons w j list in let there = sum_by-cons w j (less_one i list) in omega arith
    ] refl

times_less_one : (k i : Item) (list : List Item) → 1 ≤ times i list → times k list ≡ cond (same_item k i) 1 0 + times k (less_one i list)
unfolding less_one
times_less_one k i [] some = absurd (omega arith)
times_less_one k i (j ∷ list) some =
    elim (same_item i j) as (λ b. same_item i j ≡ b → times k (j ∷ list) ≡ cond (same_item k i) 1 0 + times k (cond b list (j ∷ less_one i list))) [
      | true ↦ λ same. times-cons k j list ∙ ap (λ x. cond (same_item k x) 1 0 + times k list) (sym (one_item i j same))
      | false ↦ λ other.
          let more : times i (j ∷ list) ≡ 0 + times i list = times-cons i j list ∙ ap (λ b. cond b 1 0 + times i list) other in
          let rest = times_less_one k i list (omega arith) in
          let here = times-cons k j list in let there = times-cons k j (less_one i list) in omega arith
    ] refl

stands_first : (i : Item) (list : List Item) → times i (i ∷ list) ≡ 1 + times i list
stands_first i list = times-cons i i list ∙ ap (λ b. cond b 1 0 + times i list) (same_item_self i)

-- two lists with the same items have the same sums
same_sums : (w : Item → ℕ) (a b : List Item) → ((item : Item) → times item a ≡ times item b) → sum_by w a ≡ sum_by w b
same_sums w [] [] same = refl
same_sums w [] (j ∷ b) same = let none = same j in let one = stands_first j b in absurd (omega arith)
same_sums w (i ∷ a) b same =
    let one = stands_first i a in
    let here = same i in
    let some : 1 ≤ times i b = omega arith in
    let rest = same_sums w a (less_one i b) (λ item. let all = same item in let more = times-cons item i a in let less = times_less_one item i b some in omega arith) in
    sum_by-cons w i a ∙ ap (λ n. w i + n) rest ∙ sym (sum_less_one w i b some)

-- the items of a slot, and of all slots
slot_items : Option Object → List Item
slot_items None = []
slot_items (Some object) = cond object.live (main object.key ∷ map (λ (p : ℕ × PartValue). part object.key p.0) object.parts) []

all_items : List (Option Object) → List Item
all_items [] = []
all_items (slot ∷ slots) = slot_items slot ++ all_items slots

missing_below : (x : ℕ) (es : List (ℕ × PartValue)) → below_all nat_cmp x es ≡ true → find nat_cmp x es ≡ None
missing_below x [] below = refl
missing_below x (e ∷ es) below =
    let rest = missing_below x es (and_parts (is_lt (nat_cmp x e.0)) _ below).1 in
    elim (nat_cmp x e.0) as (λ r. is_lt r ≡ true → cond (is_eq r) (Some e.1) (find nat_cmp x es) ≡ None) [ Less ↦ λ l. rest | Equal ↦ λ l. cc | Greater ↦ λ l. cc ] (and_parts _ _ below).0

apart_from : (x y : ℕ) → is_lt (nat_cmp x y) ≡ true → eq_by_cmp nat_cmp y x ≡ false
apart_from x y less =
    elim (eq_by_cmp nat_cmp y x) as (λ b. eq_by_cmp nat_cmp y x ≡ b → b ≡ false) [
      | false ↦ λ e. refl
      | true ↦ λ e.
          let same : y ≡ x = eqb-true y x (sym (unsigned_tied y x) ∙ e) in
          let tied : is_eq (nat_cmp x x) ≡ true = unsigned_tied x x ∙ eq-eqb x x refl in
          absurd (elim (nat_cmp x x) as (λ r. is_eq r ≡ true → is_lt r ≡ true → ⊥) [ Less ↦ λ a b. cc | Equal ↦ λ a b. cc | Greater ↦ λ a b. cc ] tied (subst (λ z. is_lt (nat_cmp x z) ≡ true) same less))
    ] refl

-- in a sorted list each number has the value that is with it
later_found : (e : ℕ × PartValue) (es fs : List (ℕ × PartValue)) → below_all nat_cmp e.0 fs ≡ true → All (λ p. find nat_cmp p.0 es ≡ Some p.1) fs → All (λ p. find nat_cmp p.0 (e ∷ es) ≡ Some p.1) fs
later_found e es [] below all = All-nil (λ (p : ℕ × PartValue). find nat_cmp p.0 (e ∷ es) ≡ Some p.1)
later_found e es (f ∷ fs) below all =
    let parts = and_parts (is_lt (nat_cmp e.0 f.0)) _ below in
    All-cons (λ (p : ℕ × PartValue). find nat_cmp p.0 (e ∷ es) ≡ Some p.1) f fs
    (ap (λ b. cond b (Some e.1) (find nat_cmp f.0 es)) (apart_from e.0 f.0 parts.0) ∙ All-head (λ (p : ℕ × PartValue). find nat_cmp p.0 es ≡ Some p.1) f fs all)
    (later_found e es fs parts.1 (All-tail (λ (p : ℕ × PartValue). find nat_cmp p.0 es ≡ Some p.1) f fs all))

each_found : (es : List (ℕ × PartValue)) → is_sorted nat_cmp es ≡ true → All (λ p. find nat_cmp p.0 es ≡ Some p.1) es
each_found [] sorted = All-nil (λ (p : ℕ × PartValue). find nat_cmp p.0 [] ≡ Some p.1)
each_found (e ∷ es) sorted =
    let parts = and_parts (below_all nat_cmp e.0 es) _ sorted in
    All-cons (λ (p : ℕ × PartValue). find nat_cmp p.0 (e ∷ es) ≡ Some p.1) e es
    (ap (λ b. cond b (Some e.1) (find nat_cmp e.0 es)) (unsigned_tied e.0 e.0 ∙ eq-eqb e.0 e.0 refl))
    (later_found e es es parts.0 (each_found es parts.1))

zero_plus : (n m : ℕ) → n ≡ m → 0 + n ≡ m
zero_plus n m e = omega arith

part_counted : (same : Bool) (rest : ℕ) (o : Option PartValue) (v : PartValue) → rest ≡ cond (is_some o) 1 0 → (same ≡ true → o ≡ None) → cond same 1 0 + rest ≡ cond (is_some (cond same (Some v) o)) 1 0
part_counted true rest o v e none = ap (λ n. 1 + n) (e ∙ ap (λ x. cond (is_some x) 1 0) (none refl))
part_counted false rest o v e none = zero_plus rest _ e

-- how often a part occurs among those of a sorted list
times_parts : (key : List ℕ) (n : ℕ) (es : List (ℕ × PartValue)) → is_sorted nat_cmp es ≡ true → times (part key n) (map (λ (p : ℕ × PartValue). part key p.0) es) ≡ cond (is_some (find nat_cmp n es)) 1 0
times_parts key n [] sorted = refl
times_parts key n (e ∷ es) sorted =
    let parts = and_parts (below_all nat_cmp e.0 es) _ sorted in
    times-cons (part key n) (part key e.0) (map (λ (p : ℕ × PartValue). part key p.0) es)
    ∙ ap (λ b. cond (b && n == e.0) 1 0 + times (part key n) (map (λ (p : ℕ × PartValue). part key p.0) es)) (bytes_eq_self key)
    ∙ part_counted (n == e.0) _ (find nat_cmp n es) e.1 (times_parts key n es parts.1) (λ same. ap (λ x. find nat_cmp x es) (eqb-true n e.0 same) ∙ missing_below e.0 es parts.0)
    ∙ ap (λ b. cond (is_some (cond b (Some e.1) (find nat_cmp n es))) 1 0) (sym (unsigned_tied n e.0))

other_parts : (key k : List ℕ) (n : ℕ) (es : List (ℕ × PartValue)) → bytes_eq k key ≡ false → times (part k n) (map (λ (p : ℕ × PartValue). part key p.0) es) ≡ 0
other_parts key k n [] other = refl
other_parts key k n (e ∷ es) other =
    times-cons (part k n) (part key e.0) (map (λ (p : ℕ × PartValue). part key p.0) es)
    ∙ ap (λ b. cond (b && n == e.0) 1 0 + times (part k n) (map (λ (p : ℕ × PartValue). part key p.0) es)) other ∙ zero_plus _ _ (other_parts key k n es other)

no_main : (key k : List ℕ) (es : List (ℕ × PartValue)) → times (main k) (map (λ (p : ℕ × PartValue). part key p.0) es) ≡ 0
no_main key k [] = refl
no_main key k (e ∷ es) = times-cons (main k) (part key e.0) (map (λ (p : ℕ × PartValue). part key p.0) es) ∙ zero_plus _ _ (no_main key k es)

-- an object has the items of its slot, each once
times_slot : (item : Item) (slot : Option Object) → IfSome slot IsObject → times item (slot_items slot) ≡ cond (slot_has_item item slot) 1 0
unfolding slot_items
times_slot item None valid = refl
times_slot (main k) (Some object) valid =
    elim (object.live) as (λ b. times (main k) (cond b (main object.key ∷ map (λ (p : ℕ × PartValue). part object.key p.0) object.parts) []) ≡ cond (b && bytes_eq k object.key) 1 0) [
      | true ↦ times-cons (main k) (main object.key) (map (λ (p : ℕ × PartValue). part object.key p.0) object.parts) ∙ ap (λ n. cond (bytes_eq k object.key) 1 0 + n) (no_main object.key k object.parts) ∙ plus_none (bytes_eq k object.key)
      | false ↦ refl
    ]
  where
    plus_none : (b : Bool) → cond b 1 0 + 0 ≡ cond b 1 0
    plus_none true = refl
    plus_none false = refl
times_slot (part k n) (Some object) valid =
    elim (object.live) as (λ b. times (part k n) (cond b (main object.key ∷ map (λ (p : ℕ × PartValue). part object.key p.0) object.parts) []) ≡ cond (b && bytes_eq k object.key && is_some (find nat_cmp n object.parts)) 1 0) [
      | true ↦ times-cons (part k n) (main object.key) (map (λ (p : ℕ × PartValue). part object.key p.0) object.parts) ∙ elim (bytes_eq k object.key) as (λ b. bytes_eq k object.key ≡ b → 0 + times (part k n) (map (λ (p : ℕ × PartValue). part object.key p.0) object.parts) ≡ cond (b && is_some (find nat_cmp n object.parts)) 1 0) [
        | true ↦ λ same.
            let keys = Rattle.blk_model.proofs.Same.same_bytes k object.key same in
            zero_plus _ _ (subst (λ x. times (part x n) (map (λ (p : ℕ × PartValue). part object.key p.0) object.parts) ≡ cond (is_some (find nat_cmp n object.parts)) 1 0) (sym keys) (times_parts object.key n object.parts valid.rising))
        | false ↦ λ other. zero_plus _ _ (other_parts object.key k n object.parts other)
      ] refl
      | false ↦ refl
    ]

-- what all objects have, each once
times_all : (item : Item) (slots : List (Option Object)) → ((n : ℕ) → IfSome (get_or slots n None) IsObject) → times item (all_items slots) ≡ owners item slots
unfolding all_items
times_all item [] valid = refl
times_all item (slot ∷ slots) valid =
    sum_by-append (λ i. cond (same_item item i) 1 0) (slot_items slot) (all_items slots)
    ∙ ap (λ n. n + times item (all_items slots)) (times_slot item slot (valid 0)) ∙ ap (λ n. cond (slot_has_item item slot) 1 0 + n) (times_all item slots (λ n. valid (suc n))) ∙ sym (owners-cons item slot slots)

-- what a row gives, and nothing where there is none
of_row : (Row → ℕ) → Option Row → ℕ
of_row h None = 0
of_row h (Some row) = h row

sum_of_rows : (h : Row → ℕ) (f : Item → Option Row) (list : List Item) → sum_by h (filter_map f list) ≡ sum_by (λ item. of_row h (f item)) list
unfolding of_row
sum_of_rows h f [] = refl
sum_of_rows h f (j ∷ list) =
    elim (f j) as (λ o. sum_by h (cons_option o (filter_map f list)) ≡ of_row h o + sum_by (λ item. of_row h (f item)) list) [
      | None ↦ sym (zero_plus _ _ (sym (sum_of_rows h f list)))
      | Some row ↦ sum_by-cons h row (filter_map f list) ∙ ap (λ n. h row + n) (sum_of_rows h f list)
    ] ∙ sym (sum_by-cons (λ item. of_row h (f item)) j list)

-- the sum over the rows is the sum over the items of all objects
sum_of_all : (state : State) (valid : IsValidState state) (h : Row → ℕ) → sum_by h (rows state) ≡ sum_by (λ item. of_row h (row_of state item)) (all_items state.objects)
unfolding rows
sum_of_all state valid h =
    sum_of_rows h (row_of state) state.uses
    ∙ same_sums (λ item. of_row h (row_of state item)) state.uses (all_items state.objects) (λ item. valid.listed item ∙ sym (times_all item state.objects valid.objects))

-- an item that an object has gives the object's row
row_of_owned : (state : State) (valid : IsValidState state) (n : ℕ) (object : Object) (item : Item) → object_at state n ≡ Some object → has_item object item ≡ true → row_of state item ≡ row_in object item
unfolding row_of
row_of_owned state valid n object item here has =
    ap (λ s. option_and_then (λ (x : Object). row_in x item) (option_and_then (object_at state) s)) (owned_at state valid n object item here has) ∙ ap (λ s. option_and_then (λ (x : Object). row_in x item) s) here

-- the costs of the parts of a live object
sum_of_parts : (state : State) (valid : IsValidState state) (h : Row → ℕ) (n : ℕ) (object : Object) → object_at state n ≡ Some object → object.live ≡ true → (es : List (ℕ × PartValue)) → All (λ p. find nat_cmp p.0 object.parts ≡ Some p.1) es →
    sum_by (λ item. of_row h (row_of state item)) (map (λ (p : ℕ × PartValue). part object.key p.0) es) ≡ sum_by (λ p. h (part_row object.key p.0 p.1)) es
unfolding of_row
sum_of_parts state valid h n object here live [] all = refl
sum_of_parts state valid h n object here live (e ∷ es) all =
    let found = All-head (λ (p : ℕ × PartValue). find nat_cmp p.0 object.parts ≡ Some p.1) e es all in
    let has : has_item object (part object.key e.0) ≡ true = and_from _ _ (has_main object live) (ap is_some found) in
    let rest = sum_of_parts state valid h n object here live es (All-tail (λ (p : ℕ × PartValue). find nat_cmp p.0 object.parts ≡ Some p.1) e es all) in
    sum_by-cons (λ item. of_row h (row_of state item)) (part object.key e.0) (map (λ (p : ℕ × PartValue). part object.key p.0) es)
    ∙ ap (λ o. of_row h o + sum_by (λ item. of_row h (row_of state item)) (map (λ (p : ℕ × PartValue). part object.key p.0) es)) (row_of_owned state valid n object (part object.key e.0) here has ∙ ap (option_map (λ value. part_row object.key e.0 value)) found)
    ∙ ap (λ k. h (part_row object.key e.0 e.1) + k) rest ∙ sym (sum_by-cons (λ (p : ℕ × PartValue). h (part_row object.key p.0 p.1)) e es)

-- what a slot's rows cost
slot_weight : (Row → ℕ) → Option Object → ℕ
slot_weight h None = 0
slot_weight h (Some object) = cond object.live (h (main_row object.key object.shape object.streams) + sum_by (λ p. h (part_row object.key p.0 p.1)) object.parts) 0

sum_of_slot : (state : State) (valid : IsValidState state) (h : Row → ℕ) (n : ℕ) (slot : Option Object) → object_at state n ≡ slot → sum_by (λ item. of_row h (row_of state item)) (slot_items slot) ≡ slot_weight h slot
unfolding slot_items slot_weight of_row
sum_of_slot state valid h n None here = refl
sum_of_slot state valid h n (Some object) here =
    let is_object = if_some_is (object_at state n) IsObject object here (valid.objects n) in
    elim (object.live) as (λ b. object.live ≡ b → sum_by (λ item. of_row h (row_of state item)) (cond b (main object.key ∷ map (λ (p : ℕ × PartValue). part object.key p.0) object.parts) []) ≡ cond b (h (main_row object.key object.shape object.streams) + sum_by (λ p. h (part_row object.key p.0 p.1)) object.parts) 0) [
      | false ↦ λ dead. refl
      | true ↦ λ live.
          sum_by-cons (λ item. of_row h (row_of state item)) (main object.key) (map (λ (p : ℕ × PartValue). part object.key p.0) object.parts)
          ∙ ap (λ o. of_row h o + sum_by (λ item. of_row h (row_of state item)) (map (λ (p : ℕ × PartValue). part object.key p.0) object.parts)) (row_of_owned state valid n object (main object.key) here (has_main object live))
          ∙ ap (λ k. h (main_row object.key object.shape object.streams) + k) (sum_of_parts state valid h n object here live object.parts (each_found object.parts is_object.rising))
    ] refl

-- the costs of slots, each of which is a slot of the state
sum_of_slots : (state : State) (valid : IsValidState state) (h : Row → ℕ) (start : ℕ) (slots : List (Option Object)) → ((n : ℕ) → n + 1 ≤ length slots → get_or slots n None ≡ object_at state (start + n)) →
    sum_by (λ item. of_row h (row_of state item)) (all_items slots) ≡ sum_by (slot_weight h) slots
unfolding all_items
sum_of_slots state valid h start [] same = refl
sum_of_slots state valid h start (slot ∷ slots) same =
    let start_is : start + 0 ≡ start = omega arith in
    sum_by-append (λ item. of_row h (row_of state item)) (slot_items slot) (all_items slots)
    ∙ ap (λ n. n + sum_by (λ item. of_row h (row_of state item)) (all_items slots)) (sum_of_slot state valid h start slot (sym (same 0 (omega arith) ∙ ap (object_at state) start_is)))
    ∙ ap (λ n. slot_weight h slot + n) (sum_of_slots state valid h (start + 1) slots (λ n below. same (suc n) (omega arith) ∙ ap (object_at state) (next start n)))
    ∙ sym (sum_by-cons (slot_weight h) slot slots)
  where
    next : (start n : ℕ) → start + suc n ≡ (start + 1) + n
    next start n = omega arith

-- the sum over the rows is the sum of what the slots cost
sum_is : (state : State) (valid : IsValidState state) (h : Row → ℕ) → sum_by h (rows state) ≡ sum_by (slot_weight h) state.objects
sum_is state valid h = sum_of_all state valid h ∙ sum_of_slots state valid h 0 state.objects (λ n below. ap (object_at state) (plus_zero n))
  where
    plus_zero : (n : ℕ) → n ≡ 0 + n
    plus_zero n = omega arith

-- a sum of sums
sum_split : (f g k : Option Object → ℕ) (slots : List (Option Object)) → ((n : ℕ) → n + 1 ≤ length slots → f (get_or slots n None) ≡ g (get_or slots n None) + k (get_or slots n None)) → sum_by f slots ≡ sum_by g slots + sum_by k slots
sum_split f g k [] each = refl
sum_split f g k (slot ∷ slots) each =
    let rest = sum_split f g k slots (λ n below. each (suc n) (omega arith)) in
    let here = each 0 (omega arith) in
    let a = sum_by-cons f slot slots in let b = sum_by-cons g slot slots in let c = sum_by-cons k slot slots in omega arith

ones : {X : Type 0} (xs : List X) → sum_by (λ (x : X). 1) xs ≡ length xs
ones [] = refl
ones (x ∷ xs) = sum_by-cons (λ y. 1) x xs ∙ ap (λ n. 1 + n) (ones xs) ∙ one_more (length xs)
  where
    one_more : (n : ℕ) → 1 + n ≡ suc n
    one_more n = omega arith

signature_is : (state : State) (valid : IsValidState state) (n : ℕ) (object : Object) → object_at state n ≡ Some object → object.live ≡ true → signature_for state object.key ≡ signature_of object.shape
signature_is state valid n object here live =
    ap (λ s. option_map_or (λ (x : Object). signature_of x.shape) (option_and_then (object_at state) s) 0) (owned_at state valid n object (main object.key) here (has_main object live))
    ∙ ap (λ s. option_map_or (λ (x : Object). signature_of x.shape) s 0) here

plus_none : (n : ℕ) → n ≡ n + 0
plus_none n = omega arith

-- the cost of a slot is the sum of the costs of its rows, or its cost as a doomed object
slot_charge : (state : State) (valid : IsValidState state) (n : ℕ) (slot : Option Object) → object_at state n ≡ slot → of_slot charge slot ≡ slot_weight (row_charge state) slot + doomed_charge slot
unfolding slot_weight charge
slot_charge state valid n None here = refl
slot_charge state valid n (Some object) here =
    let is_object = if_some_is (object_at state n) IsObject object here (valid.objects n) in
    elim (object.live) as (λ b. object.live ≡ b → of_slot charge (Some object) ≡ cond b (main_charge object.key object.shape object.streams + sum_by (λ p. part_charge object.key (signature_for state object.key) p.0 p.1) object.parts) 0 + cond b 0 (own_charge object)) [
      | true ↦ λ live.
          ap (λ k. own_charge object + sum_by (λ (p : ℕ × PartValue). part_charge object.key k p.0 p.1) object.parts) (sym (signature_is state valid n object here live)) ∙ plus_none _
      | false ↦ λ dead.
          ap (λ ps. own_charge object + sum_by (λ (p : ℕ × PartValue). part_charge object.key (signature_of object.shape) p.0 p.1) ps) (is_object.doomed_has_no_parts dead) ∙ only (own_charge object)
    ] refl
  where
    only : (k : ℕ) → k + 0 ≡ 0 + k
    only k = omega arith

slot_count : (state : State) (valid : IsValidState state) (n : ℕ) (slot : Option Object) → object_at state n ≡ slot → of_slot item_count slot ≡ slot_weight (λ (row : Row). 1) slot + cond (is_doomed_slot slot) 1 0
unfolding slot_weight
slot_count state valid n None here = refl
slot_count state valid n (Some object) here =
    let is_object = if_some_is (object_at state n) IsObject object here (valid.objects n) in
    elim (object.live) as (λ b. object.live ≡ b → 1 + length object.parts ≡ cond b (1 + sum_by (λ (p : ℕ × PartValue). 1) object.parts) 0 + cond (not b) 1 0) [
      | true ↦ λ live. let all = ones object.parts in omega arith
      | false ↦ λ dead. ap (λ (ps : List (ℕ × PartValue)). 1 + length ps) (is_object.doomed_has_no_parts dead)
    ] refl

-- the totals of a valid state
pub totals_are_sums : (state : State) → IsValidState state → AreSums state
totals_are_sums state valid = record {
  bytes = sum_split (of_slot charge) (slot_weight (row_charge state)) doomed_charge state.objects (λ n below. slot_charge state valid n (object_at state n) refl)
      ∙ ap (λ k. k + sum_by doomed_charge state.objects) (sym (sum_is state valid (row_charge state)));
  count = sum_split (of_slot item_count) (slot_weight (λ (row : Row). 1)) (λ slot. cond (is_doomed_slot slot) 1 0) state.objects (λ n below. slot_count state valid n (object_at state n) refl)
      ∙ ap (λ k. k + count_by is_doomed_slot state.objects) (sym (sum_is state valid (λ (row : Row). 1)) ∙ ones (rows state));
}
