-- The cost of what lies at a node is the cost of its row.
use Rattle.std.proofs.Common.{◌≡◌, ℕ, ◌+◌, List, [], ◌∷◌, ◌++◌, length, refl, sym, ◌∙◌, ap, subst, Bool, true, false, arith, append_assoc, cond, Option, Some, None}
use Rattle.std.specs.Fmt.{digits}
use Rattle.std.specs.Prelude.{codes, ◌==◌, ◌&&◌, not, nat_lt, if◌then◌else◌}
use Rattle.std.specs.Option.{option_map, option_map_or, option_and_then}
use Rattle.std.specs.List.{sum_by, count_by, filter_map, cons_option}
use Rattle.std.proofs.lemmas.Bool.{and_parts, eqb-true, or_left, or_right}
use Rattle.std.proofs.lemmas.Option.{option_and_then_some, cond_some}
use Rattle.std.proofs.lemmas.List.{length-map}
use Rattle.std.proofs.lemmas.List.Sums.{sum_by-cons}
use Rattle.law_folder.proofs.states.Central.{rows-kept}
use Rattle.spec_image.proofs.Runs.{some_inj}
use Rattle.blk_model.specs.Items.{Item, main, part, Row, main_row, part_row, same_item, item_of, signature_of}
use Rattle.blk_model.specs.Charge.{part_name}
use Rattle.blk_model.specs.State.{State, Object}
use Rattle.blk_model.specs.Holding as model
use Rattle.blk_model.specs.Totals.{row_charge, signature_for, doomed_charge, is_doomed_slot}
use Rattle.blk_model.proofs.Same.{same_item_self}
use Rattle.blk_model.proofs.Sums.{totals_are_sums}
use Rattle.spec_format.specs.Names.{Name, child_name, read_name}
use Rattle.spec_format.specs.SparseIndex.{ParentIndex, PartIndex, read_parent_index, read_part_index}
use Rattle.spec_format.proofs.NameLemmas.{read_name-IsName}
use Rattle.spec_folder.specs.View.{View, StoreView, RecordFields, view_of}
use Rattle.spec_folder.specs.Entries.{Role, IsPlain, IsParent, IsPart, stream, stored_stream, stored_streams, parent_role, part_role, role_of, is_covered}
use Rattle.spec_folder.specs.Loads.{Loaded, listed_rule}
use Rattle.spec_folder.specs.Audit.{kept_by, is_parent_of, is_parent_role}
use Rattle.spec_folder.specs.Found.{row_with, row_of_loaded, charge_of, found}
use Rattle.spec_folder.specs.Layout.{Layout, is_in, is_listed, nodes_of, rule_of, IsPlacedAt, IsPartAt, HasParentAt, Represents}
use Rattle.law_folder.specs.ChargeLaws.{PartNamesAreNames, ItemsAreChargedAsRows, ListedChargesAreTheRows, ListedChargesAreTheTotals, OpenedChargesAreTheTotals}
use Rattle.law_folder.proofs.states.Laid.{item-of}
use Rattle.law_folder.proofs.walks.Loads.{load-then}
use Rattle.law_folder.proofs.states.Standing.{kept-at}

-- names
pub part-names : PartNamesAreNames
unfolding part_name child_name
part-names key signature n = go (codes "Range_") key (digits 16 false signature) (digits 16 false n) where
  go : (head key middle last : List ℕ) → head ++ key ++ (58 ∷ []) ++ middle ++ (58 ∷ []) ++ last ≡ head ++ key ++ 58 ∷ middle ++ 58 ∷ last
  go head key middle last = append_assoc (head ++ key ++ (58 ∷ []) ++ middle) (58 ∷ []) last ∙ ap (λ (front : List ℕ). front ++ 58 ∷ last) (append_assoc (head ++ key) (58 ∷ []) middle)

-- three streams
record AreThree (ss : List (List ℕ)) : Type 0 where
  pub first : List ℕ
  pub second : List ℕ
  pub third : List ℕ
  pub are : ss ≡ first ∷ second ∷ third ∷ []

three : (v : StoreView) (e : RecordFields) (ss : List (List ℕ)) → stored_streams v e ≡ Some ss → AreThree ss
unfolding stored_streams
three v e ss ok = go _ (stored_stream v e 0) (stored_stream v e 1) (stored_stream v e 2) ok where
  go : (t : Bool) (p q r : Option (List ℕ)) → (if t then None else option_and_then (λ (first : List ℕ). option_and_then (λ (second : List ℕ). option_map (λ (third : List ℕ). first ∷ second ∷ third ∷ []) r) q) p) ≡ Some ss → AreThree ss
  go true p q r e = cc
  go false None q r e = cc
  go false (Some a) None r e = cc
  go false (Some a) (Some b) None e = cc
  go false (Some a) (Some b) (Some c) e = record { first = a; second = b; third = c; are = sym (some_inj e) }

-- the lengths that a sparse role says
record IsParentOf (ss : List (List ℕ)) (role : Role) : Type 0 where
  pub index : ParentIndex
  pub is : IsParent index ≡ role
  pub second : length (stream 1 ss) ≡ 0
  pub third : length (stream 2 ss) ≡ 8256

parent-index : (bytes : List ℕ) (index : ParentIndex) → read_parent_index bytes ≡ Some index → length bytes ≡ 8256
unfolding read_parent_index
parent-index bytes index e =
    let c = cond_some _ _ index e in
    let a = and_parts _ _ c.0 in
    let b = and_parts _ _ a.0 in
    let d = and_parts _ _ b.0 in
    eqb-true _ _ d.0

parent-of : (e : RecordFields) (ss : List (List ℕ)) (role : Role) → parent_role e ss ≡ Some role → IsParentOf ss role
unfolding parent_role
parent-of e ss role ok = go (length (stream 1 ss) == 0) refl ok where
  go : (t : Bool) → (length (stream 1 ss) == 0) ≡ t → (if not t then None else option_and_then (λ (index : ParentIndex). if index.key_len == e.key_len then Some (IsParent index) else None) (read_parent_index (stream 2 ss))) ≡ Some role → IsParentOf ss role
  go false t h = cc
  go true t h = option_and_then_some (λ (index : ParentIndex). if index.key_len == e.key_len then Some (IsParent index) else None) (read_parent_index (stream 2 ss)) role h (λ index is done.
      record { index = index; is = (cond_some _ (IsParent index) role done).1; second = eqb-true _ _ t; third = parent-index (stream 2 ss) index is })

record IsPartOf (key : List ℕ) (ss : List (List ℕ)) (role : Role) : Type 0 where
  pub name : Name
  pub index : PartIndex
  pub is : IsPart name index ≡ role
  pub read : read_name key ≡ Some name
  pub first : length (stream 0 ss) ≡ 0
  pub third : length (stream 2 ss) ≡ 192

part-index : (bytes : List ℕ) (index : PartIndex) → read_part_index bytes ≡ Some index → length bytes ≡ 192
unfolding read_part_index
part-index bytes index e =
    let c = cond_some _ _ index e in
    let a = and_parts _ _ c.0 in
    let b = and_parts _ _ a.0 in
    eqb-true _ _ b.0

part-of : (key : List ℕ) (ss : List (List ℕ)) (role : Role) → part_role key ss ≡ Some role → IsPartOf key ss role
unfolding part_role
part-of key ss role ok = go (length (stream 0 ss) == 0) (nat_lt 1048576 (length (stream 1 ss))) refl ok where
  go : (t u : Bool) → (length (stream 0 ss) == 0) ≡ t → (if not t then None else if u then None else option_and_then (λ (name : Name). option_and_then (λ (index : PartIndex). if (index.signature == name.signature) && (index.key_len == length name.key) && is_covered index (length (stream 1 ss)) then Some (IsPart name index) else None) (read_part_index (stream 2 ss))) (read_name key)) ≡ Some role → IsPartOf key ss role
  go false u t h = cc
  go true true t h = cc
  go true false t h = option_and_then_some (λ (name : Name). option_and_then (λ (index : PartIndex). if (index.signature == name.signature) && (index.key_len == length name.key) && is_covered index (length (stream 1 ss)) then Some (IsPart name index) else None) (read_part_index (stream 2 ss))) (read_name key) role h (λ name named then_index.
      option_and_then_some (λ (index : PartIndex). if (index.signature == name.signature) && (index.key_len == length name.key) && is_covered index (length (stream 1 ss)) then Some (IsPart name index) else None) (read_part_index (stream 2 ss)) role then_index (λ index is done.
      record { name = name; index = index; is = (cond_some _ (IsPart name index) role done).1; read = named; first = eqb-true _ _ t; third = part-index (stream 2 ss) index is }))

-- what a role says of a record's streams
role-parent : (e : RecordFields) (key : List ℕ) (ss : List (List ℕ)) (index : ParentIndex) → role_of e key ss ≡ Some (IsParent index) → (length (stream 1 ss) ≡ 0) × (length (stream 2 ss) ≡ 8256)
unfolding role_of
role-parent e key ss index ok = go (e.flags == 1) (e.flags == 2) ok where
  go : (a b : Bool) → (if a then parent_role e ss else if b then part_role key ss else Some IsPlain) ≡ Some (IsParent index) → (length (stream 1 ss) ≡ 0) × (length (stream 2 ss) ≡ 8256)
  go true b h = let p = parent-of e ss (IsParent index) h in (p.second, p.third)
  go false true h = let p = part-of key ss (IsParent index) h in absurd (other p.name p.index p.is)
    where
      other : (name : Name) (index' : PartIndex) → IsPart name index' ≡ IsParent index → ⊥
      other name index' c = cc
  go false false h = cc

role-part : (e : RecordFields) (key : List ℕ) (ss : List (List ℕ)) (name : Name) (index : PartIndex) → role_of e key ss ≡ Some (IsPart name index) → (read_name key ≡ Some name) × ((length (stream 0 ss) ≡ 0) × (length (stream 2 ss) ≡ 192))
unfolding role_of
role-part e key ss name index ok = go (e.flags == 1) (e.flags == 2) ok where
  go : (a b : Bool) → (if a then parent_role e ss else if b then part_role key ss else Some IsPlain) ≡ Some (IsPart name index) → (read_name key ≡ Some name) × ((length (stream 0 ss) ≡ 0) × (length (stream 2 ss) ≡ 192))
  go true b h = let p = parent-of e ss (IsPart name index) h in absurd (other p.index p.is)
    where
      other : (index' : ParentIndex) → IsParent index' ≡ IsPart name index → ⊥
      other index' c = cc
  go false true h = let p = part-of key ss (IsPart name index) h in let same : p.name ≡ name = named p.name p.index p.is in (p.read ∙ ap (λ (x : Name). Some x) same, (p.first, p.third))
    where
      named : (other : Name) (index' : PartIndex) → IsPart other index' ≡ IsPart name index → other ≡ name
      named other index' c = cc
  go false false h = cc

-- the generation of a part's object is the one in its name
parent-signature : (name : Name) (p : Loaded) → is_parent_of name p ≡ true → (index : ParentIndex) × ((p.role ≡ IsParent index) × (index.signature ≡ name.signature))
parent-signature name p is = go p.role refl is where
  go : (r : Role) → p.role ≡ r → is_parent_role name p.key r ≡ true → (index : ParentIndex) × ((p.role ≡ IsParent index) × (index.signature ≡ name.signature))
  go IsPlain e h = cc
  go (IsParent index) e h =
      let a = and_parts _ _ h in
      let b = and_parts _ _ a.0 in
      (index, (e, eqb-true _ _ b.1))
  go (IsPart other index) e h = cc

one-name : (one other : Name) (index index' : PartIndex) → IsPart one index ≡ IsPart other index' → one ≡ other
one-name one other index index' c = cc

-- sums over three streams
plain-sum : (k : ℕ) (ss : List (List ℕ)) → AreThree ss → k + sum_by length ss ≡ k + length (stream 0 ss) + length (stream 1 ss) + length (stream 2 ss)
plain-sum k ss t = subst (λ (xs : List (List ℕ)). k + sum_by length xs ≡ k + length (stream 0 xs) + length (stream 1 xs) + length (stream 2 xs)) (sym t.are)
    (let e : sum_by length (t.first ∷ t.second ∷ t.third ∷ []) ≡ 0 + length t.first + length t.second + length t.third = refl in omega (arith, e))

parent-sum : (k : ℕ) (ss : List (List ℕ)) → AreThree ss → length (stream 1 ss) ≡ 0 → length (stream 2 ss) ≡ 8256 → k + sum_by length ss ≡ k + length (stream 0 ss) + 8256
parent-sum k ss t second third = let e = plain-sum k ss t in omega (arith, e, second, third)

part-sum : (k : ℕ) (ss : List (List ℕ)) → AreThree ss → length (stream 0 ss) ≡ 0 → length (stream 2 ss) ≡ 192 → k + sum_by length ss ≡ k + length (stream 1 ss) + 192
part-sum k ss t first third = let e = plain-sum k ss t in omega (arith, e, first, third)

module _ (view : View) (state : State) (layout : Layout) (r : Represents view state layout) where
  signature-is : (key : List ℕ) (p : Loaded) (index : ParentIndex) → is_listed state (main key) ≡ true → layout.at (layout.place (main key)) ≡ Some p → p.role ≡ IsParent index → signature_for state key ≡ index.signature
  unfolding model.row_of
  signature-is key p index there here role =
      let laid : IsPlacedAt state layout (main key) = r.holds.lies.laid (main key) there in
      let same : laid.loaded ≡ p = some_inj (sym laid.here ∙ here) in
      go (model.owner_object state (main key)) (laid.row ∙ ap (λ (x : Loaded). Some (row_of_loaded x)) same) where
        shape-of : Row → ℕ
        shape-of (main_row k shape streams) = signature_of shape
        shape-of (part_row k n value) = 0

        go : (o : Option Object) → option_and_then (λ (object : Object). model.row_in object (main key)) o ≡ Some (row_of_loaded p) → option_map_or (λ (object : Object). signature_of object.shape) o 0 ≡ index.signature
        go None e = cc
        go (Some object) e = ap shape-of (some_inj e) ∙ rw role refl

  charge-item : (item : Item) (l : Loaded) → is_listed state item ≡ true → layout.at (layout.place item) ≡ Some l → charge_of l ≡ row_charge state (row_of_loaded l)
  charge-item item l there here = load-then view.store (rule_of layout (layout.place item)) (layout.place item) l (r.holds.shows.each (layout.place item) l here) (λ n e facts.
      by-role e (three view.store e l.streams facts.facts.streams) l.role refl facts.facts.role) where
        row-is : (role : Role) → l.role ≡ role → row_of_loaded l ≡ row_with l.key role l.streams
        row-is role is = ap (λ (x : Role). row_with l.key x l.streams) is

        part-signature : (name : Name) (index : PartIndex) → l.role ≡ IsPart name index → signature_for state name.key ≡ name.signature
        part-signature name index is =
            let laid : IsPlacedAt state layout item = r.holds.lies.laid item there in
            let same : laid.loaded ≡ l = some_inj (sym laid.here ∙ here) in
            let item-is : part name.key name.part ≡ item = ap item_of (sym (row-is (IsPart name index) is)) ∙ item-of state layout r.holds.lies.laid item l there here in
            let pa : IsPartAt state layout name.key l = subst (λ (x : Loaded). IsPartAt state layout name.key x) same (subst (λ (i : Item). HasParentAt state layout i laid.loaded) (sym item-is) laid.parent) in
            let p = parent-signature pa.name pa.parent pa.of in
            signature-is name.key pa.parent p.0 pa.listed pa.at_parent p.1.0 ∙ p.1.1 ∙ ap (λ (x : Name). x.signature) (one-name pa.name name pa.index index (sym pa.role ∙ is))

        by-role : (e : RecordFields) → AreThree l.streams → (role : Role) → l.role ≡ role → role_of e l.key l.streams ≡ Some l.role → charge_of l ≡ row_charge state (row_of_loaded l)
        by-role e t IsPlain is of = plain-sum (length l.key) l.streams t ∙ ap (row_charge state) (sym (row-is IsPlain is))
        by-role e t (IsParent index) is of =
            let long = role-parent e l.key l.streams index (of ∙ ap (λ (x : Role). Some x) is) in
            parent-sum (length l.key) l.streams t long.0 long.1 ∙ ap (row_charge state) (sym (row-is (IsParent index) is))
        by-role e t (IsPart name index) is of =
            let said = role-part e l.key l.streams name index (of ∙ ap (λ (x : Role). Some x) is) in
            let printed : l.key ≡ child_name name.key name.signature name.part = (read_name-IsName l.key name said.0).printed in
            part-sum (length l.key) l.streams t said.1.0 said.1.1
            ∙ ap (λ (k : List ℕ). length k + length (stream 1 l.streams) + 192) (printed ∙ sym (part-names name.key name.signature name.part) ∙ ap (λ (x : ℕ). part_name name.key x name.part) (sym (part-signature name index is)))
            ∙ ap (row_charge state) (sym (row-is (IsPart name index) is))

  charges-sum : (items : List Item) → ((i : Item) → is_in items i ≡ true → is_listed state i ≡ true) → sum_by charge_of (filter_map layout.at (nodes_of layout items)) ≡ sum_by (row_charge state) (filter_map (model.row_of state) items)
  charges-sum [] sub = refl
  charges-sum (i ∷ items) sub =
      let there : is_listed state i ≡ true = sub i (or_left (same_item i i) (is_in items i) (same_item_self i)) in
      let laid : IsPlacedAt state layout i = r.holds.lies.laid i there in
      let more = charges-sum items (λ j h. sub j (or_right (same_item j i) (is_in items j) h)) in
      let one = charge-item i laid.loaded there laid.here in
      let first = sum_by-cons charge_of laid.loaded (filter_map layout.at (nodes_of layout items)) in
      let second = sum_by-cons (row_charge state) (row_of_loaded laid.loaded) (filter_map (model.row_of state) items) in
      ap (λ (o : Option Loaded). sum_by charge_of (cons_option o (filter_map layout.at (nodes_of layout items)))) laid.here
      ∙ (let e : sum_by charge_of (laid.loaded ∷ filter_map layout.at (nodes_of layout items)) ≡ sum_by (row_charge state) (row_of_loaded laid.loaded ∷ filter_map (model.row_of state) items) = omega (arith, more, one, first, second) in e)
      ∙ sym (ap (λ (o : Option Row). sum_by (row_charge state) (cons_option o (filter_map (model.row_of state) items))) laid.row)

pub items-charged : ItemsAreChargedAsRows
items-charged view state layout r item loaded there here = charge-item view state layout r item loaded there here

pub listed-charges : ListedChargesAreTheRows
unfolding model.rows
listed-charges image state layout r valid = ap (sum_by charge_of) (kept-at image state layout r valid) ∙ charges-sum (view_of image) state layout r state.uses (λ i h. h)

pub listed-totals : ListedChargesAreTheTotals
listed-totals image state layout r valid =
    let sums = totals_are_sums state valid in
    record {
      bytes = sums.bytes ∙ ap (λ (n : ℕ). n + sum_by doomed_charge state.objects) (sym (listed-charges image state layout r valid));
      count = sums.count ∙ ap (λ (n : ℕ). n + count_by is_doomed_slot state.objects) (ap length (sym (rows-kept (view_of image) state layout r valid)) ∙ length-map (kept_by listed_rule (view_of image)) row_of_loaded);
    }

-- a state that was just opened has no doomed objects
opened-none : (all rows : List Row) → (sum_by doomed_charge (model.objects_in all rows) ≡ 0) × (count_by is_doomed_slot (model.objects_in all rows) ≡ 0)
unfolding model.objects_in model.found_object
opened-none all [] = (refl, refl)
opened-none all (main_row key shape streams ∷ rows) =
    let more = opened-none all rows in
    let first = sum_by-cons doomed_charge (Some (model.found_object all key shape streams)) (model.objects_in all rows) in
    let second = sum_by-cons (λ (slot : Option Object). cond (is_doomed_slot slot) 1 0) (Some (model.found_object all key shape streams)) (model.objects_in all rows) in
    (omega (arith, more.0, first), omega (arith, more.1, second))
opened-none all (part_row key n value ∷ rows) = opened-none all rows

pub opened-totals : OpenedChargesAreTheTotals
unfolding model.open_state
opened-totals image limits layout r valid =
    let t = listed-totals image (model.open_state (found image) limits) layout r valid in
    let none = opened-none (found image) (found image) in
    record { bytes = omega (arith, t.bytes, none.0); count = omega (arith, t.count, none.1) }
