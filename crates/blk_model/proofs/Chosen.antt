-- Rows that are chosen by the objects that have them are a valid snapshot.
use Rattle.std.proofs.Common.{◌≡◌, ℕ, ◌+◌, ◌<◌, ◌≤◌, Bool, true, false, ◌&&◌, ◌||◌, cond, List, [], ◌∷◌, Some, None, Option, is_some, refl, ap, sym, ◌∙◌, subst, arith, get_or}
use Rattle.std.specs.List.{All, count_by, filter_map, cons_option}
use Rattle.std.specs.Option.{option_and_then, option_map}
use Rattle.std.specs.Str.{bytes_eq}
use Rattle.std.specs.Ordering.{nat_cmp, eq_by_cmp}
use Rattle.std.specs.Cmp.{unsigned_tied}
use Rattle.std.specs.FinMap.{find}
use Rattle.std.proofs.lemmas.Bool.{and_parts, eqb-true}
use Rattle.std.proofs.lemmas.List.Elements.{All-nil, All-cons, All-head, All-tail}
use Rattle.blk_model.specs.Sizes.{signatures}
use Rattle.blk_model.specs.Items.{Item, main, part, Row, main_row, part_row, item_of, Shape, plain, sparse, Streams, PartValue, IsKey, IsStreams, HasOneStream, IsRow, IsValidHolding, HasParent, is_sparse_main, is_sparse, signature_of, same_item, times}
use Rattle.blk_model.specs.State.{Object, State, IsValidState, IsObject, object_at, has_item, slot_has_item, owners, part_at}
use Rattle.blk_model.specs.Holding.{row_in, owner, row_of, settled_row, rest}
use Rattle.blk_model.specs.Stops.{is_safe, is_turned, picked_by, picked}
use Rattle.blk_model.proofs.Same.{same_bytes, bytes_eq_self, one_item}
use Rattle.blk_model.proofs.Slots.{owners-first_none, first_with_has, first_with_found}
use Rattle.blk_model.proofs.Times.{times-cons}
use Rattle.blk_model.proofs.Owners.{has_item_main, owners_main}
use Rattle.blk_model.proofs.Doomed.{contrary}
use Rattle.blk_model.proofs.Opened.{items_in, count-cons, sparse_mains}
use Rattle.blk_model.proofs.SparseWritten.{IsPart}
use Rattle.blk_model.proofs.States.{if_some_is}

-- who has an item
pub record Owner (state : State) (item : Item) : Type 0 where
  pub number : ℕ
  pub object : Object
  pub found : owner state item ≡ Some number
  pub here : object_at state number ≡ Some object
  pub has : has_item object item ≡ true

some_has : (item : Item) (slot : Option Object) → slot_has_item item slot ≡ true → (object : Object) × (slot ≡ Some object) × (has_item object item ≡ true)
some_has item None has = absurd (contrary refl has)
some_has item (Some object) has = (object, refl, has)

pub owner_of : (state : State) (item : Item) (m : ℕ) → owner state item ≡ Some m → Owner state item
owner_of state item m found =
    let place = first_with_has item 0 m state.objects found in
    let slot = some_has item (get_or state.objects place.0 None) place.2 in
    let is : m ≡ place.0 = omega (arith, place.1) in
    record { number = m; object = slot.0; found = found; here = ap (object_at state) is ∙ slot.1; has = slot.2 }

-- an item that somebody has
pub has_owner : (state : State) (item : Item) → 1 ≤ owners item state.objects → Owner state item
has_owner state item some =
    elim (owner state item) as (λ o. owner state item ≡ o → Owner state item) [
      | None ↦ λ none. let zero_is = owners-first_none item 0 state.objects none in absurd (omega arith)
      | Some m ↦ λ found. owner_of state item m found
    ] refl

-- an object in a slot owns what it has
pub owned_at : (state : State) (valid : IsValidState state) (n : ℕ) (object : Object) (item : Item) → object_at state n ≡ Some object → has_item object item ≡ true → owner state item ≡ Some n
owned_at state valid n object item here has =
    let listed = valid.listed item in let once = valid.once item in
    let found : owner state item ≡ Some (0 + n) = first_with_found item 0 n state.objects (ap (slot_has_item item) here ∙ has) (omega arith) in
    found ∙ ap Some (omega arith)

owned_by : (state : State) (valid : IsValidState state) (n : ℕ) (object : Object) (item : Item) → object_at state n ≡ Some object → has_item object item ≡ true → Owner state item
owned_by state valid n object item here has = record { number = n; object = object; found = owned_at state valid n object item here has; here = here; has = has }

pub cond_some : (b : Bool) (o : Option Row) (row : Row) → cond b o None ≡ Some row → (b ≡ true) × (o ≡ Some row)
cond_some true o row e = (refl, e)
cond_some false o row e = cc

-- what an item gives is a row of it
pub row_item : (object : Object) (item : Item) (row : Row) → row_in object item ≡ Some row → item_of row ≡ item
row_item object (main key) row e = let is : main_row key object.shape object.streams ≡ row = cc in sym (ap item_of is)
row_item object (part key n) row e =
    elim (part_at object n) as (λ o. option_map (λ value. part_row key n value) o ≡ Some row → item_of row ≡ part key n) [
      | None ↦ λ none. cc
      | Some value ↦ λ some. let is : part_row key n value ≡ row = cc in sym (ap item_of is)
    ] e

find_part : (n : ℕ) (parts : List (ℕ × PartValue)) (value : PartValue) → All IsPart parts → find nat_cmp n parts ≡ Some value → IsPart (n, value)
find_part n [] value all e = cc
find_part n (p ∷ parts) value all e =
    elim (eq_by_cmp nat_cmp n p.0) as (λ b. eq_by_cmp nat_cmp n p.0 ≡ b → cond b (Some p.1) (find nat_cmp n parts) ≡ Some value → IsPart (n, value)) [
      | true ↦ λ same is.
          let first = All-head IsPart p parts all in
          let number : n ≡ p.0 = eqb-true n p.0 (sym (unsigned_tied n p.0) ∙ same) in
          let value_is : p.1 ≡ value = cc in
          (omega (arith, first.0, number), subst (λ v. Rattle.blk_model.specs.Items.IsPartValue v) value_is first.1)
      | false ↦ λ other is. find_part n parts value (All-tail IsPart p parts all) is
    ] refl e

main_row_is : (key : List ℕ) (shape : Shape) (streams : Streams) → IsKey key → IsStreams streams → signature_of shape < signatures → (is_sparse shape ≡ true → HasOneStream streams) → IsRow (main_row key shape streams)
unfolding IsRow
main_row_is key plain streams is_key are small one = (is_key, are)
main_row_is key (sparse signature) streams is_key are small one = (is_key, are, small, one refl)

-- a row of a valid object is a valid row
row_is : (object : Object) (item : Item) (row : Row) → IsObject object → has_item object item ≡ true → row_in object item ≡ Some row → IsRow row
unfolding IsRow
row_is object (main key) row valid has e =
    let is : main_row key object.shape object.streams ≡ row = cc in
    let keys : key ≡ object.key = same_bytes key object.key (and_parts object.live _ has).1 in
    subst IsRow is (main_row_is key object.shape object.streams (subst IsKey (sym keys) valid.key) valid.streams valid.signature valid.sparse_has_one_stream)
row_is object (part key n) row valid has e =
    let keys : key ≡ object.key = same_bytes key object.key (and_parts object.live _ (and_parts (object.live && bytes_eq key object.key) _ has).0).1 in
    elim (part_at object n) as (λ o. part_at object n ≡ o → option_map (λ value. part_row key n value) o ≡ Some row → IsRow row) [
      | None ↦ λ at none. cc
      | Some value ↦ λ at some.
          let is : part_row key n value ≡ row = cc in
          let found = find_part n object.parts value valid.parts at in
          subst IsRow is (subst IsKey (sym keys) valid.key, found.0, found.1)
    ] refl e

none_found : (n : ℕ) (parts : List (ℕ × PartValue)) → parts ≡ [] → is_some (find nat_cmp n parts) ≡ true → ⊥
none_found n parts none some = contrary (ap (λ ps. is_some (find nat_cmp n ps)) none) some

-- an object with a part is sparse
sparse_with_part : (object : Object) (key : List ℕ) (n : ℕ) → IsObject object → has_item object (part key n) ≡ true → is_sparse object.shape ≡ true
sparse_with_part object key n valid has =
    elim (is_sparse object.shape) as (λ b. is_sparse object.shape ≡ b → b ≡ true) [
      | true ↦ λ is. refl
      | false ↦ λ is. absurd (none_found n object.parts (valid.plain_has_no_parts is) (and_parts (object.live && bytes_eq key object.key) _ has).1)
    ] refl

-- a list in which each item occurs at most once, and no part without its main item
pub record IsGoodList (items : List Item) : Type 0 where
  pub once : (item : Item) → times item items ≤ 1
  pub with_main : (key : List ℕ) (n : ℕ) → 1 ≤ times (part key n) items → 1 ≤ times (main key) items

-- the LRU list of a valid state is one
pub uses_are_good : (state : State) (valid : IsValidState state) → IsGoodList state.uses
uses_are_good state valid = record {
  once = valid.once;
  with_main = λ key n some. let own = valid.listed (part key n) in let has = valid.listed (main key) in let more = owners_main (part key n) state.objects in omega arith;
}

-- rows are given by a test of the number and the object of who has the item
pub record ChoosesBy (state : State) (f : Item → Option Row) (keep : ℕ → Object → Bool) : Type 0 where
  pub nobody : (item : Item) → owner state item ≡ None → f item ≡ None
  pub somebody : (item : Item) (o : Owner state item) → f item ≡ cond (keep o.number o.object) (row_in o.object item) None

-- who has the item of a row that was given
pub chosen_owner : (state : State) (f : Item → Option Row) (keep : ℕ → Object → Bool) → ChoosesBy state f keep → (item : Item) (row : Row) → f item ≡ Some row → Owner state item
chosen_owner state f keep chooses item row e =
    elim (owner state item) as (λ o. owner state item ≡ o → Owner state item) [
      | None ↦ λ none. let no_row = chooses.nobody item none in absurd (some_is_not_none row (sym e ∙ no_row))
      | Some m ↦ λ found. owner_of state item m found
    ] refl
  where
    some_is_not_none : (row : Row) → Some row ≡ None → ⊥
    some_is_not_none row e = cc

counted_some : (same some : Bool) (t : ℕ) → (same ≡ true → some ≡ true) → cond same 1 0 + cond some t 0 ≡ cond some (cond same 1 0 + t) 0
counted_some true true t h = refl
counted_some true false t h = absurd (contrary refl (h refl))
counted_some false true t h = refl
counted_some false false t h = omega arith

counted_none : (same some : Bool) (t : ℕ) → (same ≡ true → some ≡ false) → cond some t 0 ≡ cond some (cond same 1 0 + t) 0
counted_none true true t h = absurd (contrary (h refl) refl)
counted_none true false t h = refl
counted_none false true t h = omega arith
counted_none false false t h = refl

none_either_way : (b : Bool) → ◌≡◌ {A = ℕ} 0 (cond b 0 0)
none_either_way true = refl
none_either_way false = refl

-- how often an item occurs among the rows that are given
times_chosen : (f : Item → Option Row) → ((item : Item) (row : Row) → f item ≡ Some row → item_of row ≡ item) → (item : Item) (list : List Item) → times item (items_in (filter_map f list)) ≡ cond (is_some (f item)) (times item list) 0
times_chosen f own item [] = none_either_way (is_some (f item))
times_chosen f own item (j ∷ list) =
    let rest = times_chosen f own item list in
    let more = times-cons item j list in
    elim (f j) as (λ o. f j ≡ o → times item (items_in (cons_option o (filter_map f list))) ≡ cond (is_some (f item)) (times item (j ∷ list)) 0) [
      | Some row ↦ λ e.
          times-cons item (item_of row) (items_in (filter_map f list)) ∙ ap (λ i. cond (same_item item i) 1 0 + times item (items_in (filter_map f list))) (own j row e) ∙ ap (λ n. cond (same_item item j) 1 0 + n) rest
          ∙ counted_some (same_item item j) (is_some (f item)) (times item list) (λ same. ap (λ i. is_some (f i)) (one_item item j same) ∙ ap is_some e) ∙ ap (λ n. cond (is_some (f item)) n 0) (sym more)
      | None ↦ λ e.
          rest ∙ counted_none (same_item item j) (is_some (f item)) (times item list) (λ same. ap (λ i. is_some (f i)) (one_item item j same) ∙ ap is_some e) ∙ ap (λ n. cond (is_some (f item)) n 0) (sym more)
    ] refl

at_most_one : (b : Bool) (n : ℕ) → n ≤ 1 → cond b n 0 ≤ 1
at_most_one true n le = le
at_most_one false n le = omega arith

-- what holds of each row that may be given holds of all
All-chosen : (P : Row → Type 0) (f : Item → Option Row) (list : List Item) → ((item : Item) (row : Row) → 1 ≤ times item list → f item ≡ Some row → P row) → All P (filter_map f list)
All-chosen P f [] each = All-nil P
All-chosen P f (j ∷ list) each =
    let rest = All-chosen P f list (λ item row some e. let more = times-cons item j list in each item row (omega arith) e) in
    let stands : 1 ≤ times j (j ∷ list) = let more : times j (j ∷ list) ≡ 1 + times j list = times-cons j j list ∙ ap (λ b. cond b 1 0 + times j list) (Rattle.blk_model.proofs.Same.same_item_self j) in omega arith in
    elim (f j) as (λ o. f j ≡ o → All P (cons_option o (filter_map f list))) [
      | Some row ↦ λ e. All-cons P row (filter_map f list) (each j row stands e) rest
      | None ↦ λ e. rest
    ] refl

no_fewer : (key : List ℕ) (o : Option Row) (rows : List Row) → count_by (is_sparse_main key) rows ≤ count_by (is_sparse_main key) (cons_option o rows)
no_fewer key None rows = omega arith
no_fewer key (Some row) rows = let more = count-cons key row rows in omega arith

-- a sparse main row that is given is counted
counted : (key : List ℕ) (f : Item → Option Row) (row : Row) (list : List Item) → f (main key) ≡ Some row → is_sparse_main key row ≡ true → 1 ≤ times (main key) list → 1 ≤ count_by (is_sparse_main key) (filter_map f list)
counted key f row [] e is some = absurd (omega arith)
counted key f row (j ∷ list) e is some =
    elim (same_item (main key) j) as (λ b. same_item (main key) j ≡ b → 1 ≤ count_by (is_sparse_main key) (filter_map f (j ∷ list))) [
      | true ↦ λ same.
          let gives : f j ≡ Some row = ap f (sym (one_item (main key) j same)) ∙ e in
          let one : count_by (is_sparse_main key) (filter_map f (j ∷ list)) ≡ 1 + count_by (is_sparse_main key) (filter_map f list) =
          ap (λ o. count_by (is_sparse_main key) (cons_option o (filter_map f list))) gives ∙ count-cons key row (filter_map f list) ∙ ap (λ b. cond b 1 0 + count_by (is_sparse_main key) (filter_map f list)) is in
          omega arith
      | false ↦ λ other.
          let more : times (main key) (j ∷ list) ≡ 0 + times (main key) list = times-cons (main key) j list ∙ ap (λ b. cond b 1 0 + times (main key) list) other in
          let later = counted key f row list e is (omega arith) in
          let le = no_fewer key (f j) (filter_map f list) in omega arith
    ] refl

parent_of : (rows : List Row) (object : Object) (item : Item) (row : Row) → row_in object item ≡ Some row → ((key : List ℕ) (n : ℕ) → item ≡ part key n → count_by (is_sparse_main key) rows ≡ 1) → HasParent rows row
parent_of rows object (main key) row e parent = let is : main_row key object.shape object.streams ≡ row = cc in subst (HasParent rows) is tt
parent_of rows object (part key n) row e parent =
    elim (part_at object n) as (λ o. option_map (λ value. part_row key n value) o ≡ Some row → HasParent rows row) [
      | None ↦ λ none. cc
      | Some value ↦ λ some. let is : part_row key n value ≡ row = cc in subst (HasParent rows) is (parent key n refl)
    ] e

-- rows that are chosen from a good list are a valid snapshot
pub chosen_are_valid : (state : State) (valid : IsValidState state) (f : Item → Option Row) (keep : ℕ → Object → Bool) → ChoosesBy state f keep → (list : List Item) → IsGoodList list → IsValidHolding (filter_map f list)
unfolding owned_by chosen_owner
chosen_are_valid state valid f keep chooses list good =
    let gives : (item : Item) (row : Row) → f item ≡ Some row → (o : Owner state item) × (keep o.number o.object ≡ true) × (row_in o.object item ≡ Some row) = λ item row e.
    let o = chosen_owner state f keep chooses item row e in let is = cond_some (keep o.number o.object) (row_in o.object item) row (sym (chooses.somebody item o) ∙ e) in (o, is.0, is.1) in
    let own : (item : Item) (row : Row) → f item ≡ Some row → item_of row ≡ item = λ item row e. let from = gives item row e in row_item from.0.object item row from.2 in
    let once : (item : Item) → times item (items_in (filter_map f list)) ≤ 1 = λ item. subst (λ n. n ≤ 1) (sym (times_chosen f own item list)) (at_most_one (is_some (f item)) (times item list) (good.once item)) in
    record {
      once = once;
      each = All-chosen IsRow f list (λ item row some e. let from = gives item row e in
          row_is from.0.object item row (if_some_is (object_at state from.0.number) IsObject from.0.object from.0.here (valid.objects from.0.number)) from.0.has from.2);
      parents = All-chosen (HasParent (filter_map f list)) f list (λ item row some e. let from = gives item row e in let o = from.0 in
          parent_of (filter_map f list) o.object item row from.2 (λ key n is.
          let has : has_item o.object (part key n) ≡ true = subst (λ i. has_item o.object i ≡ true) is o.has in
          let has_main : has_item o.object (main key) ≡ true = has_item_main (part key n) (Some o.object) has in
          let object_is = if_some_is (object_at state o.number) IsObject o.object o.here (valid.objects o.number) in
          let main_owner : Owner state (main key) = owned_by state valid o.number o.object (main key) o.here has_main in
          let gives_main : f (main key) ≡ Some (main_row key o.object.shape o.object.streams) = chooses.somebody (main key) main_owner ∙ ap (λ b. cond b (row_in o.object (main key)) None) from.1 in
          let is_main : is_sparse_main key (main_row key o.object.shape o.object.streams) ≡ true = Rattle.std.proofs.lemmas.Bool.and_from _ _ (bytes_eq_self key) (sparse_with_part o.object key n object_is has) in
          let stands : 1 ≤ times (main key) list = good.with_main key n (subst (λ i. 1 ≤ times i list) is some) in
          let at_least = counted key f _ list gives_main is_main stands in
          let at_most = sparse_mains key (filter_map f list) in
          let few = once (main key) in omega arith));
    }

-- the rows of clean objects are chosen
pub settled_chooses : (state : State) → ChoosesBy state (settled_row state) (λ number object. object.settled)
unfolding settled_row
settled_chooses state = record {
  nobody = λ item none. ap (λ o. option_and_then (λ (x : Object). cond x.settled (row_in x item) None) (option_and_then (object_at state) o)) none;
  somebody = λ item o. ap (λ s. option_and_then (λ (x : Object). cond x.settled (row_in x item) None) (option_and_then (object_at state) s)) o.found
      ∙ ap (λ s. option_and_then (λ (x : Object). cond x.settled (row_in x item) None) s) o.here;
}

-- what an item of a state gives
row_at : (state : State) (item : Item) (o : Owner state item) → row_of state item ≡ row_in o.object item
unfolding row_of
row_at state item o = ap (λ s. option_and_then (λ (x : Object). row_in x item) (option_and_then (object_at state) s)) o.found ∙ ap (λ s. option_and_then (λ (x : Object). row_in x item) s) o.here

-- whether an object stays through a crash
abbrev pub stays_through : State → State → Bool → ℕ → Bool
stays_through before after with number = is_safe before after number || (with && is_turned before after number)

-- the rows of a pick are chosen
pub picked_chooses : (before after : State) (with : Bool) → ChoosesBy before (picked before after with) (λ number object. stays_through before after with number)
unfolding picked picked_by
picked_chooses before after with = record {
  nobody = λ item none. ap (λ o. option_and_then (picked_by before after with item) o) none;
  somebody = λ item o. ap (λ s. option_and_then (picked_by before after with item) s) o.found ∙ ap (λ r. cond (stays_through before after with o.number) r None) (row_at before item o);
}

-- what a valid state leaves is a valid snapshot
pub rest_is_valid : (state : State) → IsValidState state → IsValidHolding (rest state)
unfolding rest
rest_is_valid state valid = chosen_are_valid state valid (settled_row state) _ (settled_chooses state) state.uses (uses_are_good state valid)
