-- The state that a cache opens with is valid.
use Rattle.std.proofs.Common.{◌≡◌, ℕ, zero, suc, ◌+◌, min, ◌<◌, ◌≤◌, Bool, true, false, ◌&&◌, ◌||◌, cond, List, [], ◌∷◌, Some, None, Option, IfSome, IsSome, is_some, IsTrue, refl, ap, sym, ◌∙◌, subst, arith, get_or, length, map, replicate}
use Rattle.std.proofs.lemmas.List.{length-replicate}
use Rattle.std.specs.List.{All, count_by}
use Rattle.std.specs.Bool.{◌==◌, passes}
use Rattle.std.specs.Str.{bytes_eq}
use Rattle.std.specs.Ordering.{nat_cmp}
use Rattle.std.specs.Cmp.{nat_cmp_total, unsigned_tied}
use Rattle.std.specs.FinMap.{find, put, is_sorted}
use Rattle.std.specs.FinMap.Entries.{find-put, is_sorted-put}
use Rattle.std.proofs.lemmas.Bool.{and_parts, and_right, eqb-true}
use Rattle.std.proofs.lemmas.List.Sums.{sum_by-cons}
use Rattle.std.proofs.lemmas.List.Elements.{All-nil, All-head, All-tail}
use Rattle.blk_model.specs.Items.{Streams, Item, main, part, Row, main_row, part_row, item_of, plain, sparse, PartValue, IsPartValue, IsRow, IsValidHolding, HasParent, is_sparse_main, is_sparse, same_item, times, IsKey}
use Rattle.blk_model.specs.State.{Object, Bounds, IsValidState, IsObject, owners, object_at, is_named}
use Rattle.blk_model.specs.Holding.{parts_in, found_object, objects_in, open_state}
use Rattle.blk_model.specs.Sizes.{handle_names, part_count}
use Rattle.blk_model.proofs.Same.{same_bytes, bytes_eq_self}
use Rattle.blk_model.proofs.Slots.{owners-cons}
use Rattle.blk_model.proofs.Times.{times-cons}
use Rattle.blk_model.proofs.Each.{Each}
use Rattle.blk_model.proofs.Doomed.{contrary}
use Rattle.blk_model.proofs.SparseWritten.{All_put, IsPart, T_true}

-- the items of rows
abbrev pub items_in : List Row → List Item
items_in rows = map item_of rows

none_or_one : (key own has : Bool) (t : ℕ) → ◌≡◌ {A = ℕ} (cond has 1 0) (min 1 t) → ◌≡◌ {A = ℕ} (cond (cond key (own || has) has) 1 0) (min 1 (cond (key && own) 1 0 + t))
none_or_one true true has t e = omega arith
none_or_one true false has t e = omega arith
none_or_one false own has t e = omega arith

is_some_if : (key own : Bool) (o : Option PartValue) (v : PartValue) → is_some (cond key (cond own (Some v) o) o) ≡ cond key (own || is_some o) (is_some o)
is_some_if true true o v = refl
is_some_if true false o v = refl
is_some_if false own o v = refl

pub find_if : (key : Bool) (n m : ℕ) (v : PartValue) (parts : List (ℕ × PartValue)) → find nat_cmp n (cond key (put nat_cmp m v parts) parts) ≡ cond key (cond (n == m) (Some v) (find nat_cmp n parts)) (find nat_cmp n parts)
find_if true n m v parts = find-put nat_cmp nat_cmp_total n m v parts ∙ ap (λ b. cond b (Some v) (find nat_cmp n parts)) (unsigned_tied n m)
find_if false n m v parts = refl

-- an object has the parts that the rows have for its key
part_in : (key : List ℕ) (n : ℕ) (rows : List Row) → ◌≡◌ {A = ℕ} (cond (is_some (find nat_cmp n (parts_in key rows))) 1 0) (min 1 (times (part key n) (items_in rows)))
unfolding parts_in
part_in key n [] = omega arith
part_in key n (main_row other shape streams ∷ rows) =
    let rest = part_in key n rows in let more = times-cons (part key n) (main other) (items_in rows) in omega arith
part_in key n (part_row other m value ∷ rows) =
    ap (λ o. cond (is_some o) 1 0) (find_if (bytes_eq key other) n m value (parts_in key rows)) ∙ ap (λ b. cond b 1 0) (is_some_if (bytes_eq key other) (n == m) (find nat_cmp n (parts_in key rows)) value)
    ∙ none_or_one (bytes_eq key other) (n == m) (is_some (find nat_cmp n (parts_in key rows))) _ (part_in key n rows)
    ∙ ap (min 1) (sym (times-cons (part key n) (part other m) (items_in rows)))

owners_of_main : (key : List ℕ) (all rows : List Row) → owners (main key) (objects_in all rows) ≡ times (main key) (items_in rows)
unfolding objects_in found_object
owners_of_main key all [] = refl
owners_of_main key all (main_row other shape streams ∷ rows) =
    owners-cons (main key) (Some (found_object all other shape streams)) (objects_in all rows) ∙ ap (λ n. cond (bytes_eq key other) 1 0 + n) (owners_of_main key all rows) ∙ sym (times-cons (main key) (main other) (items_in rows))
owners_of_main key all (part_row other n value ∷ rows) =
    let rest = owners_of_main key all rows in let more = times-cons (main key) (part other n) (items_in rows) in omega arith

one_more : (key here there : Bool) (m n : ℕ) → (key ≡ true → here ≡ there) → m ≡ cond there n 0 → ◌≡◌ {A = ℕ} (cond (key && here) 1 0 + m) (cond there (cond key 1 0 + n) 0)
one_more true true true m n e h = omega arith
one_more true true false m n e h = absurd (contrary (e refl) refl)
one_more true false true m n e h = absurd (contrary refl (e refl))
one_more true false false m n e h = omega arith
one_more false here true m n e h = omega arith
one_more false here false m n e h = omega arith

-- a part is owned by each object of its key, if the rows have it
owners_of_part : (key : List ℕ) (n : ℕ) (all rows : List Row) → owners (part key n) (objects_in all rows) ≡ cond (is_some (find nat_cmp n (parts_in key all))) (times (main key) (items_in rows)) 0
unfolding objects_in found_object
owners_of_part key n all [] = elim (is_some (find nat_cmp n (parts_in key all))) as (λ b. ◌≡◌ {A = ℕ} 0 (cond b 0 0)) [ true ↦ refl | false ↦ refl ]
owners_of_part key n all (main_row other shape streams ∷ rows) =
    owners-cons (part key n) (Some (found_object all other shape streams)) (objects_in all rows)
    ∙ one_more (bytes_eq key other) (is_some (find nat_cmp n (parts_in other all))) (is_some (find nat_cmp n (parts_in key all))) _ (times (main key) (items_in rows)) (λ same. ap (λ k. is_some (find nat_cmp n (parts_in k all))) (sym (same_bytes key other same))) (owners_of_part key n all rows)
    ∙ ap (λ t. cond (is_some (find nat_cmp n (parts_in key all))) t 0) (sym (times-cons (main key) (main other) (items_in rows)))
owners_of_part key n all (part_row other m value ∷ rows) =
    owners_of_part key n all rows ∙ ap (λ t. cond (is_some (find nat_cmp n (parts_in key all))) t 0) (let more = times-cons (main key) (part other m) (items_in rows) in omega arith)

-- what holds of each row holds of a part that the rows have
row_of_part : (P : Row → Type 0) (key : List ℕ) (n : ℕ) (rows : List Row) → All P rows → 1 ≤ times (part key n) (items_in rows) → (value : PartValue) × P (part_row key n value)
row_of_part P key n [] all some = absurd (omega arith)
row_of_part P key n (main_row other shape streams ∷ rows) all some =
    let more = times-cons (part key n) (main other) (items_in rows) in row_of_part P key n rows (All-tail P (main_row other shape streams) rows all) (omega arith)
row_of_part P key n (part_row other m value ∷ rows) all some =
    elim (bytes_eq key other && n == m) as (λ b. bytes_eq key other && n == m ≡ b → (v : PartValue) × P (part_row key n v)) [
      | true ↦ λ same.
          let keys = same_bytes key other (and_parts _ _ same).0 in let numbers = eqb-true n m (and_parts (bytes_eq key other) _ same).1 in
          (value, subst (λ k. P (part_row k n value)) (sym keys) (subst (λ j. P (part_row other j value)) (sym numbers) (All-head P (part_row other m value) rows all)))
      | false ↦ λ apart.
          let more : times (part key n) (items_in (part_row other m value ∷ rows)) ≡ 0 + times (part key n) (items_in rows) = times-cons (part key n) (part other m) (items_in rows) ∙ ap (λ b. cond b 1 0 + times (part key n) (items_in rows)) apart in
          row_of_part P key n rows (All-tail P (part_row other m value) rows all) (omega arith)
    ] refl

pub count-cons : (key : List ℕ) (row : Row) (rows : List Row) → count_by (is_sparse_main key) (row ∷ rows) ≡ cond (is_sparse_main key row) 1 0 + count_by (is_sparse_main key) rows
count-cons key row rows = sum_by-cons (λ r. cond (is_sparse_main key r) 1 0) row rows

fewer_if : (same is_one : Bool) (m n : ℕ) → m ≤ n → cond (same && is_one) 1 0 + m ≤ cond same 1 0 + n
fewer_if true true m n le = omega arith
fewer_if true false m n le = omega arith
fewer_if false is_one m n le = omega arith

-- the sparse main rows of a key are among its main rows
pub sparse_mains : (key : List ℕ) (rows : List Row) → count_by (is_sparse_main key) rows ≤ times (main key) (items_in rows)
sparse_mains key [] = omega arith
sparse_mains key (main_row other shape streams ∷ rows) =
    let a = count-cons key (main_row other shape streams) rows in let b = times-cons (main key) (main other) (items_in rows) in
    let le = fewer_if (bytes_eq key other) (is_sparse shape) _ _ (sparse_mains key rows) in omega arith
sparse_mains key (part_row other n value ∷ rows) =
    let a = count-cons key (part_row other n value) rows in let b = times-cons (main key) (part other n) (items_in rows) in let le = sparse_mains key rows in omega arith

-- the items of valid rows are those of the objects
pub listed_in : (rows : List Row) → IsValidHolding rows → (item : Item) → times item (items_in rows) ≡ owners item (objects_in rows rows)
listed_in rows valid (main key) = sym (owners_of_main key rows rows)
listed_in rows valid (part key n) =
    let here = part_in key n rows in
    let few = valid.once (part key n) in
    let few_mains = valid.once (main key) in
    let mains = sparse_mains key rows in
    elim (is_some (find nat_cmp n (parts_in key rows))) as (λ b. is_some (find nat_cmp n (parts_in key rows)) ≡ b → times (part key n) (items_in rows) ≡ cond b (times (main key) (items_in rows)) 0) [
      | true ↦ λ there.
          let one : ◌≡◌ {A = ℕ} 1 (min 1 (times (part key n) (items_in rows))) = ap (λ b. cond b 1 0) (sym there) ∙ here in
          let parent = row_of_part (HasParent rows) key n rows valid.parents (omega arith) in
          let is : count_by (is_sparse_main key) rows ≡ 1 = parent.1 in omega arith
      | false ↦ λ missing.
          let none : ◌≡◌ {A = ℕ} 0 (min 1 (times (part key n) (items_in rows))) = ap (λ b. cond b 1 0) (sym missing) ∙ here in omega arith
    ] refl ∙ sym (owners_of_part key n rows rows)

-- a key with a plain main row has no sparse one
no_sparse : (key : List ℕ) (streams : Streams) (rows : List Row) (k : ℕ) (d : Row) → k < length rows → get_or rows k d ≡ main_row key plain streams → count_by (is_sparse_main key) rows + 1 ≤ times (main key) (items_in rows)
no_sparse key streams [] k d within e = absurd (omega arith)
no_sparse key streams (row ∷ rows) zero d within e =
    let a : count_by (is_sparse_main key) (row ∷ rows) ≡ 0 + count_by (is_sparse_main key) rows = count-cons key row rows ∙ ap (λ r. cond (is_sparse_main key r) 1 0 + count_by (is_sparse_main key) rows) e ∙ ap (λ b. cond b 1 0 + count_by (is_sparse_main key) rows) (and_right (bytes_eq key key) false refl) in
    let b : times (main key) (items_in (row ∷ rows)) ≡ 1 + times (main key) (items_in rows) = times-cons (main key) (item_of row) (items_in rows) ∙ ap (λ r. cond (same_item (main key) (item_of r)) 1 0 + times (main key) (items_in rows)) e ∙ ap (λ b. cond b 1 0 + times (main key) (items_in rows)) (bytes_eq_self key) in
    let le = sparse_mains key rows in omega arith
no_sparse key streams (main_row other shape others ∷ rows) (suc k) d within e =
    let a = count-cons key (main_row other shape others) rows in let b = times-cons (main key) (main other) (items_in rows) in
    let le = fewer_if (bytes_eq key other) (is_sparse shape) _ _ (no_sparse key streams rows k d (omega arith) e) in omega arith
no_sparse key streams (part_row other n value ∷ rows) (suc k) d within e =
    let a = count-cons key (part_row other n value) rows in let b = times-cons (main key) (part other n) (items_in rows) in let le = no_sparse key streams rows k d (omega arith) e in omega arith

-- without a part row of its key an object has no parts
no_parts : (key : List ℕ) (P : Row → Type 0) (rows : List Row) → ((n : ℕ) (value : PartValue) → P (part_row key n value) → ⊥) → All P rows → parts_in key rows ≡ []
unfolding parts_in
no_parts key P [] never all = refl
no_parts key P (main_row other shape streams ∷ rows) never all = no_parts key P rows never (All-tail P (main_row other shape streams) rows all)
no_parts key P (part_row other n value ∷ rows) never all =
    elim (bytes_eq key other) as (λ b. bytes_eq key other ≡ b → cond b (put nat_cmp n value (parts_in key rows)) (parts_in key rows) ≡ []) [
      | true ↦ λ same. absurd (never n value (subst (λ k. P (part_row k n value)) (sym (same_bytes key other same)) (All-head P (part_row other n value) rows all)))
      | false ↦ λ apart. no_parts key P rows never (All-tail P (part_row other n value) rows all)
    ] refl

-- the parts that rows have are in order, and such as parts may be
parts_in_are : (key : List ℕ) (rows : List Row) → All IsRow rows → IsTrue (is_sorted nat_cmp (parts_in key rows)) × All IsPart (parts_in key rows)
unfolding parts_in IsRow
parts_in_are key [] all = (refl, All-nil IsPart)
parts_in_are key (main_row other shape streams ∷ rows) all = parts_in_are key rows (All-tail IsRow (main_row other shape streams) rows all)
parts_in_are key (part_row other n value ∷ rows) all =
    let rest = parts_in_are key rows (All-tail IsRow (part_row other n value) rows all) in
    let here : IsKey other × (n < part_count) × IsPartValue value = All-head IsRow (part_row other n value) rows all in
    elim (bytes_eq key other) as (λ b. IsTrue (is_sorted nat_cmp (cond b (put nat_cmp n value (parts_in key rows)) (parts_in key rows))) × All IsPart (cond b (put nat_cmp n value (parts_in key rows)) (parts_in key rows))) [
      | true ↦ (T_true _ (is_sorted-put nat_cmp nat_cmp_total n value (parts_in key rows) (passes _ rest.0)), All_put n value (parts_in key rows) here.1 here.2 rest.1)
      | false ↦ rest
    ]

-- what a main row makes is an object that a state may have
abbrev MakesObject : List Row → Row → Type 0
MakesObject all (main_row key shape streams) = IsObject (found_object all key shape streams)
MakesObject all (part_row key n value) = Unit {0}

makes_plain : (rows : List Row) → IsValidHolding rows → (key : List ℕ) (streams : Streams) (k : ℕ) (d : Row) → k < length rows → get_or rows k d ≡ main_row key plain streams → parts_in key rows ≡ []
makes_plain rows valid key streams k d within e =
    let few = valid.once (main key) in
    let less = no_sparse key streams rows k d within e in
    no_parts key (HasParent rows) rows (λ n value parent. let one : count_by (is_sparse_main key) rows ≡ 1 = parent in absurd (omega arith)) valid.parents

makes : (rows : List Row) → IsValidHolding rows → (k : ℕ) (d row : Row) → k < length rows → get_or rows k d ≡ row → IsRow row → MakesObject rows row
unfolding found_object IsRow
makes rows valid k d (main_row key plain streams) within e is =
    let parts = parts_in_are key rows valid.each in
    record {
      key = is.0;
      streams = is.1;
      signature = omega arith;
      plain_has_no_parts = λ p. makes_plain rows valid key streams k d within e;
      doomed_has_no_parts = λ p. absurd (contrary p refl);
      sparse_has_one_stream = λ p. absurd (contrary refl p);
      rising = parts.0;
      parts = parts.1;
    }
makes rows valid k d (main_row key (sparse signature) streams) within e is =
    let parts = parts_in_are key rows valid.each in
    record {
      key = is.0;
      streams = is.1;
      signature = is.2;
      plain_has_no_parts = λ p. absurd (contrary p refl);
      doomed_has_no_parts = λ p. absurd (contrary p refl);
      sparse_has_one_stream = λ p. is.3;
      rising = parts.0;
      parts = parts.1;
    }
makes rows valid k d (part_row key n value) within e is = tt

objects_are : (all rows : List Row) → All (MakesObject all) rows → Each (λ n. IsObject) (objects_in all rows)
unfolding objects_in
objects_are all [] each n = tt
objects_are all (main_row key shape streams ∷ rows) each zero = All-head (MakesObject all) (main_row key shape streams) rows each
objects_are all (main_row key shape streams ∷ rows) each (suc n) = objects_are all rows (All-tail (MakesObject all) (main_row key shape streams) rows each) n
objects_are all (part_row key m value ∷ rows) each n = objects_are all rows (All-tail (MakesObject all) (part_row key m value) rows each) n

all_settled : (all rows : List Row) → Each (λ n object. object.live && object.settled ≡ true) (objects_in all rows)
unfolding objects_in found_object
all_settled all [] n = tt
all_settled all (main_row key shape streams ∷ rows) zero = refl
all_settled all (main_row key shape streams ∷ rows) (suc n) = all_settled all rows n
all_settled all (part_row key m value ∷ rows) n = all_settled all rows n

no_name_at : (count name : ℕ) → get_or {A = Option ℕ} (replicate count None) name None ≡ None
no_name_at zero name = refl
no_name_at (suc count) zero = refl
no_name_at (suc count) (suc name) = no_name_at count name

-- a cache opens with a valid state
pub open_valid : (rows : List Row) (limits : Bounds) → IsValidHolding rows → IsValidState (open_state rows limits)
unfolding open_state objects_in
open_valid rows limits valid = record {
  objects = objects_are rows rows (λ k d within. makes rows valid k d (get_or rows k d) within refl (valid.each k d within));
  names = length-replicate {A = Option ℕ} handle_names None;
  bound = λ name. subst (λ o. IfSome o (λ number. IsSome (object_at (open_state rows limits) number))) (sym (no_name_at handle_names name)) tt;
  listed = listed_in rows valid;
  once = valid.once;
  held = λ number. settled_held number (object_at (open_state rows limits) number) (all_settled rows rows number);
}
  where
    settled_held : (number : ℕ) (slot : Option Object) → IfSome slot (λ object. object.live && object.settled ≡ true) → IfSome slot (λ object. (object.live && object.settled ≡ false) → is_named (open_state rows limits) number ≡ true)
    settled_held number None is = tt
    settled_held number (Some object) is = λ loose. absurd (contrary loose is)
