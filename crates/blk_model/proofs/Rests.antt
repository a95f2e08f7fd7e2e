-- What a cache finds is what it leaves, if nothing is done.
use Rattle.std.proofs.Common.{◌≡◌, ℕ, zero, suc, ◌+◌, ◌<◌, ◌≤◌, Bool, true, false, ◌&&◌, cond, List, [], ◌∷◌, Some, None, Option, is_some, refl, ap, sym, ◌∙◌, subst, arith, get_or, length, map}
use Rattle.std.specs.List.{All, count_by, filter_map, cons_option}
use Rattle.std.specs.Bool.{◌==◌}
use Rattle.std.specs.Option.{option_and_then, option_map}
use Rattle.std.specs.Str.{bytes_eq}
use Rattle.std.specs.Ordering.{nat_cmp}
use Rattle.std.specs.FinMap.{find, put}
use Rattle.std.proofs.lemmas.Bool.{and_from, and_right, and_left, eq-eqb}
use Rattle.std.proofs.lemmas.List.Elements.{All-head, All-tail}
use Rattle.blk_model.specs.Items.{Streams, Item, main, part, Row, main_row, part_row, item_of, Shape, plain, sparse, PartValue, IsValidHolding, HasParent, is_sparse_main, same_item, times}
use Rattle.blk_model.specs.State.{Object, State, Bounds, object_at, slot_has_item, owners}
use Rattle.blk_model.specs.Holding.{parts_in, found_object, objects_in, open_state, rest, settled_row, row_in, owner}
use Rattle.blk_model.proofs.Same.{bytes_eq_self, same_bytes, same_item_self}
use Rattle.blk_model.proofs.Slots.{first_with_found}
use Rattle.blk_model.proofs.Times.{times-cons}
use Rattle.blk_model.proofs.Opened.{items_in, listed_in, find_if, count-cons}

-- rows that are each given back
given_back : (f : Item → Option Row) (rows : List Row) → All (λ row. f (item_of row) ≡ Some row) rows → filter_map f (map item_of rows) ≡ rows
given_back f [] each = refl
given_back f (row ∷ rows) each = ap (λ o. cons_option o (filter_map f (map item_of rows))) (All-head (λ r. f (item_of r) ≡ Some r) row rows each) ∙ ap (λ rs. row ∷ rs) (given_back f rows (All-tail (λ r. f (item_of r) ≡ Some r) row rows each))

-- a main row has its object in a slot
slot_of_main : (all rows : List Row) (k : ℕ) (d : Row) (key : List ℕ) (shape : Shape) (streams : Streams) → k < length rows → get_or rows k d ≡ main_row key shape streams →
    (n : ℕ) × (get_or (objects_in all rows) n None ≡ Some (found_object all key shape streams))
unfolding objects_in found_object
slot_of_main all [] k d key shape streams within e = absurd (omega arith)
slot_of_main all (main_row other kind others ∷ rows) zero d key shape streams within e =
    let keys : other ≡ key = cc in let kinds : kind ≡ shape = cc in let all_streams : others ≡ streams = cc in (0, cc)
slot_of_main all (main_row other kind others ∷ rows) (suc k) d key shape streams within e = let later = slot_of_main all rows k d key shape streams (omega arith) e in (suc later.0, later.1)
slot_of_main all (part_row other n value ∷ rows) zero d key shape streams within e = cc
slot_of_main all (part_row other n value ∷ rows) (suc k) d key shape streams within e = slot_of_main all rows k d key shape streams (omega arith) e

-- an object in a slot, that has an item that no other object has, gives the item's row
row_from_slot : (state : State) (item : Item) (n : ℕ) (object : Object) (row : Row) → object_at state n ≡ Some object → slot_has_item item (Some object) ≡ true → owners item state.objects ≤ 1 → object.settled ≡ true → row_in object item ≡ Some row → settled_row state item ≡ Some row
unfolding settled_row
row_from_slot state item n object row here has few settled is =
    let found : owner state item ≡ Some (0 + n) = first_with_found item 0 n state.objects (ap (slot_has_item item) here ∙ has) few in
    let number : owner state item ≡ Some n = found ∙ ap Some (omega arith) in
    ap (λ o. option_and_then (λ (x : Object). cond x.settled (row_in x item) None) (option_and_then (object_at state) o)) number
    ∙ ap (λ o. option_and_then (λ (x : Object). cond x.settled (row_in x item) None) o) here ∙ ap (λ b. cond b (row_in object item) None) settled ∙ is

-- the item of a row is among the items
stands : (item : Item) (rows : List Row) (k : ℕ) (d : Row) → k < length rows → item_of (get_or rows k d) ≡ item → 1 ≤ times item (items_in rows)
stands item [] k d within e = absurd (omega arith)
stands item (row ∷ rows) zero d within e =
    let one : times item (items_in (row ∷ rows)) ≡ 1 + times item (items_in rows) = times-cons item (item_of row) (items_in rows) ∙ ap (λ i. cond (same_item item i) 1 0 + times item (items_in rows)) e ∙ ap (λ b. cond b 1 0 + times item (items_in rows)) (same_item_self item) in omega arith
stands item (row ∷ rows) (suc k) d within e = let more = times-cons item (item_of row) (items_in rows) in let later = stands item rows k d (omega arith) e in omega arith

-- a part row's value is found for its key
part_found : (rows : List Row) (k : ℕ) (d : Row) (key : List ℕ) (n : ℕ) (value : PartValue) → k < length rows → get_or rows k d ≡ part_row key n value → times (part key n) (items_in rows) ≤ 1 → find nat_cmp n (parts_in key rows) ≡ Some value
unfolding parts_in
part_found [] k d key n value within e few = absurd (omega arith)
part_found (row ∷ rows) zero d key n value within e few =
    subst (λ r. find nat_cmp n (parts_in key (r ∷ rows)) ≡ Some value) (sym e)
    (find_if (bytes_eq key key) n n value (parts_in key rows) ∙ ap (λ b. cond b (cond (n == n) (Some value) (find nat_cmp n (parts_in key rows))) (find nat_cmp n (parts_in key rows))) (bytes_eq_self key) ∙ ap (λ b. cond b (Some value) (find nat_cmp n (parts_in key rows))) (eq-eqb n n refl))
part_found (main_row other shape streams ∷ rows) (suc k) d key n value within e few =
    let more = times-cons (part key n) (main other) (items_in rows) in part_found rows k d key n value (omega arith) e (omega arith)
part_found (part_row other m v ∷ rows) (suc k) d key n value within e few =
    let more = times-cons (part key n) (part other m) (items_in rows) in
    let there = stands (part key n) rows k d (omega arith) (ap item_of e) in
    elim (bytes_eq key other && n == m) as (λ b. bytes_eq key other && n == m ≡ b → find nat_cmp n (cond (bytes_eq key other) (put nat_cmp m v (parts_in key rows)) (parts_in key rows)) ≡ Some value) [
      | true ↦ λ same. let two : times (part key n) (items_in (part_row other m v ∷ rows)) ≡ 1 + times (part key n) (items_in rows) = more ∙ ap (λ b. cond b 1 0 + times (part key n) (items_in rows)) same in absurd (omega arith)
      | false ↦ λ apart. let one : times (part key n) (items_in (part_row other m v ∷ rows)) ≡ 0 + times (part key n) (items_in rows) = more ∙ ap (λ b. cond b 1 0 + times (part key n) (items_in rows)) apart in
          find_if (bytes_eq key other) n m v (parts_in key rows) ∙ not_this (bytes_eq key other) (n == m) v (find nat_cmp n (parts_in key rows)) apart ∙ part_found rows k d key n value (omega arith) e (omega arith)
    ] refl
  where
    not_this : (key own : Bool) (v : PartValue) (o : Option PartValue) → key && own ≡ false → cond key (cond own (Some v) o) o ≡ o
    not_this true true v o e = cc
    not_this true false v o e = refl
    not_this false own v o e = refl

-- the main row of a part's parent
parent_at : (key : List ℕ) (rows : List Row) → 1 ≤ count_by (is_sparse_main key) rows → (k : ℕ) × (signature : ℕ) × (streams : Streams) × (k < length rows) × ((d : Row) → get_or rows k d ≡ main_row key (sparse signature) streams)
parent_at key [] some = absurd (omega arith)
parent_at key (main_row other plain streams ∷ rows) some =
    let less : count_by (is_sparse_main key) (main_row other plain streams ∷ rows) ≡ 0 + count_by (is_sparse_main key) rows = count-cons key (main_row other plain streams) rows ∙ ap (λ b. cond b 1 0 + count_by (is_sparse_main key) rows) (and_right (bytes_eq key other) false refl) in
    let later = parent_at key rows (omega arith) in (suc later.0, later.1, later.2, omega (arith, later.3), later.4)
parent_at key (main_row other (sparse signature) streams ∷ rows) some =
    elim (bytes_eq key other) as (λ b. bytes_eq key other ≡ b → (k : ℕ) × (signature' : ℕ) × (streams' : Streams) × (k < length (main_row other (sparse signature) streams ∷ rows)) × ((d : Row) → get_or (main_row other (sparse signature) streams ∷ rows) k d ≡ main_row key (sparse signature') streams')) [
      | true ↦ λ same. (0, signature, streams, omega arith, λ d. ap (λ k. main_row k (sparse signature) streams) (sym (same_bytes key other same)))
      | false ↦ λ apart.
          let less : count_by (is_sparse_main key) (main_row other (sparse signature) streams ∷ rows) ≡ 0 + count_by (is_sparse_main key) rows = count-cons key (main_row other (sparse signature) streams) rows ∙ ap (λ b. cond b 1 0 + count_by (is_sparse_main key) rows) (and_left (bytes_eq key other) true apart) in
          let later = parent_at key rows (omega arith) in (suc later.0, later.1, later.2, omega (arith, later.3), later.4)
    ] refl
parent_at key (part_row other n value ∷ rows) some =
    let less = count-cons key (part_row other n value) rows in let later = parent_at key rows (omega arith) in (suc later.0, later.1, later.2, omega (arith, later.3), later.4)

row_back : (rows : List Row) (limits : Bounds) → IsValidHolding rows → (k : ℕ) (d row : Row) → k < length rows → get_or rows k d ≡ row → HasParent rows row → settled_row (open_state rows limits) (item_of row) ≡ Some row
unfolding open_state found_object
row_back rows limits valid k d (main_row key shape streams) within e parent =
    let slot = slot_of_main rows rows k d key shape streams within e in
    let few = valid.once (main key) in let same = listed_in rows valid (main key) in
    row_from_slot (open_state rows limits) (main key) slot.0 (found_object rows key shape streams) (main_row key shape streams) slot.1 (bytes_eq_self key) (omega arith) refl refl
row_back rows limits valid k d (part_row key n value) within e parent =
    let one : count_by (is_sparse_main key) rows ≡ 1 = parent in
    let place = parent_at key rows (omega arith) in
    let slot = slot_of_main rows rows place.0 d key (sparse place.1) place.2 place.3 (place.4 d) in
    let few = valid.once (part key n) in let same = listed_in rows valid (part key n) in
    let found = part_found rows k d key n value within e few in
    row_from_slot (open_state rows limits) (part key n) slot.0 (found_object rows key (sparse place.1) place.2) (part_row key n value) slot.1
    (and_from _ _ (bytes_eq_self key) (ap is_some found)) (omega arith) refl (ap (option_map (λ v. part_row key n v)) found)

-- a snapshot that is opened and left is as it was
pub rest-open_state : (rows : List Row) (limits : Bounds) → IsValidHolding rows → rest (open_state rows limits) ≡ rows
unfolding rest open_state
rest-open_state rows limits valid = given_back (settled_row (open_state rows limits)) rows (λ k d within. row_back rows limits valid k d (get_or rows k d) within refl (valid.parents k d within))
