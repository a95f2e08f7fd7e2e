-- Fewer items and fewer bytes without an eviction unit.
use Rattle.std.proofs.Common.{◌≡◌, ℕ, suc, ◌+◌, ◌≤◌, Bool, true, false, not, ◌&&◌, ◌||◌, cond, List, [], ◌∷◌, ◌++◌, length, map, Option, Some, None, is_some, refl, sym, ap, subst, ◌∙◌, arith}
use Rattle.std.specs.List.{filter, filter_map, cons_option, count_by, sum_by}
use Rattle.std.specs.Option.{option_and_then, option_map, option_map_or}
use Rattle.std.specs.Str.{bytes_eq}
use Rattle.std.proofs.lemmas.Bool.{and_parts}
use Rattle.std.proofs.lemmas.List.Sums.{sum_by-cons}
use Rattle.blk_model.specs.Charge.{part_charge}
use Rattle.blk_model.specs.Holding.{owner, owner_object, row_in, row_of, rows}
use Rattle.blk_model.specs.Items.{Item, Row, main, main_row, part, part_row, PartValue, key_of, same_item, signature_of, times}
use Rattle.blk_model.specs.Room.{Group, single, is_out, is_pinned, items, items_of_group, left_of, not_out, own_charge, parts_among, total, without}
use Rattle.blk_model.specs.State.{Object, State, IsValidState, has_item, object_at, part_at, slot_has_item}
use Rattle.blk_model.specs.Totals.{doomed_charge, is_doomed_slot, row_charge, signature_for}
use Rattle.blk_model.proofs.Evicted.{kept_part_at, kept_parts, left_slot_has, map_at, out_with_main, state_without}
use Rattle.blk_model.proofs.Same.{one_item, same_bytes, same_item_self}
use Rattle.blk_model.proofs.Slots.{owners-first_none}
use Rattle.blk_model.proofs.Sums.{totals_are_sums}
use Rattle.blk_model.proofs.Times.{times-cons}
use Rattle.law_folder.proofs.claims.Owner.{IsOwned, its-key, owned}
use Rattle.blk_evict.specs.RoomLaws.{GroupsAreCountedLess, MayGo, group_for, item_charge}
use Rattle.blk_evict.proofs.RoomGroups.{first-same, loose-for}

-- ---- sums over lists

-- the sum over what is removed, and that over what stays
pub split-sum : (w : Item → ℕ) (p : Item → Bool) (l : List Item) → sum_by w l ≡ sum_by w (filter (λ i. not (p i)) l) + sum_by w (filter p l)
split-sum w p [] = refl
split-sum w p (i ∷ l) = sum_by-cons w i l ∙ go (p i) (split-sum w p l) where
  go : (b : Bool) → sum_by w l ≡ sum_by w (filter (λ i. not (p i)) l) + sum_by w (filter p l)
      → w i + sum_by w l ≡ sum_by w (cond (not b) (i ∷ filter (λ i. not (p i)) l) (filter (λ i. not (p i)) l)) + sum_by w (cond b (i ∷ filter p l) (filter p l))
  go true e = let c = sum_by-cons w i (filter p l) in omega (arith, e, c)
  go false e = let c = sum_by-cons w i (filter (λ i. not (p i)) l) in omega (arith, e, c)

-- the weight of one item, wherever it is
abbrev alone : (Item → ℕ) → Item → Item → ℕ
alone w x i = cond (same_item x i) (w x) 0

alone-none : (w : Item → ℕ) (x : Item) (l : List Item) → times x l ≡ 0 → sum_by (alone w x) l ≡ 0
alone-none w x [] none = refl
alone-none w x (i ∷ l) none = sum_by-cons (alone w x) i l ∙ go (same_item x i) (sym (times-cons x i l) ∙ none) (alone-none w x l) where
  go : (b : Bool) → cond b 1 0 + times x l ≡ 0 → (times x l ≡ 0 → sum_by (alone w x) l ≡ 0) → cond b (w x) 0 + sum_by (alone w x) l ≡ 0
  go true e more = absurd (omega (arith, e))
  go false e more = let z = more (omega (arith, e)) in omega (arith, z)

pub alone-once : (w : Item → ℕ) (x : Item) (l : List Item) → times x l ≡ 1 → sum_by (alone w x) l ≡ w x
alone-once w x [] once = absurd (let z : 0 ≡ 1 = once in omega (arith, z))
alone-once w x (i ∷ l) once = sum_by-cons (alone w x) i l ∙ go (same_item x i) (sym (times-cons x i l) ∙ once) (alone-once w x l) where
  go : (b : Bool) → cond b 1 0 + times x l ≡ 1 → (times x l ≡ 1 → sum_by (alone w x) l ≡ w x) → cond b (w x) 0 + sum_by (alone w x) l ≡ w x
  go true e more = let z = alone-none w x l (omega (arith, e)) in omega (arith, z)
  go false e more = let z = more (omega (arith, e)) in omega (arith, z)

-- the items of a key: its main item, and its parts in their order
pub of-key : (w : Item → ℕ) (key : List ℕ) (l : List Item) → sum_by w (filter (λ i. bytes_eq key (key_of i)) l) ≡ sum_by (alone w (main key)) l + sum_by w (map (part key) (parts_among key l))
of-key w key [] = refl
of-key w key (main other ∷ l) = go (bytes_eq key other) refl (of-key w key l) ∙ ap (λ (n : ℕ). n + sum_by w (map (part key) (parts_among key l))) (sym (sum_by-cons (alone w (main key)) (main other) l)) where
  go : (b : Bool) → bytes_eq key other ≡ b → sum_by w (filter (λ i. bytes_eq key (key_of i)) l) ≡ sum_by (alone w (main key)) l + sum_by w (map (part key) (parts_among key l))
      → sum_by w (cond b (main other ∷ filter (λ i. bytes_eq key (key_of i)) l) (filter (λ i. bytes_eq key (key_of i)) l)) ≡ (cond b (w (main key)) 0 + sum_by (alone w (main key)) l) + sum_by w (map (part key) (parts_among key l))
  go true is e = let c = sum_by-cons w (main other) (filter (λ i. bytes_eq key (key_of i)) l) in let same : w (main other) ≡ w (main key) = ap (λ (k : List ℕ). w (main k)) (sym (same_bytes key other is)) in omega (arith, c, same, e)
  go false is e = omega (arith, e)
of-key w key (part other n ∷ l) = go (bytes_eq key other) refl (of-key w key l) ∙ ap (λ (m : ℕ). m + sum_by w (map (part key) (parts_among key (part other n ∷ l)))) (sym (sum_by-cons (alone w (main key)) (part other n) l)) where
  go : (b : Bool) → bytes_eq key other ≡ b → sum_by w (filter (λ i. bytes_eq key (key_of i)) l) ≡ sum_by (alone w (main key)) l + sum_by w (map (part key) (parts_among key l))
      → sum_by w (cond b (part other n ∷ filter (λ i. bytes_eq key (key_of i)) l) (filter (λ i. bytes_eq key (key_of i)) l)) ≡ (0 + sum_by (alone w (main key)) l) + sum_by w (map (part key) (cons_option (cond b (Some n) None) (parts_among key l)))
  go true is e =
      let c = sum_by-cons w (part other n) (filter (λ i. bytes_eq key (key_of i)) l) in
      let d = sum_by-cons w (part key n) (map (part key) (parts_among key l)) in
      let same : w (part other n) ≡ w (part key n) = ap (λ (k : List ℕ). w (part k n)) (sym (same_bytes key other is)) in omega (arith, c, d, same, e)
  go false is e = omega (arith, e)

one-out : (w : Item → ℕ) (x : Item) (l : List Item) → sum_by w (filter (same_item x) l) ≡ sum_by (alone w x) l
one-out w x [] = refl
one-out w x (i ∷ l) = go (same_item x i) refl (one-out w x l) ∙ sym (sum_by-cons (alone w x) i l) where
  go : (b : Bool) → same_item x i ≡ b → sum_by w (filter (same_item x) l) ≡ sum_by (alone w x) l → sum_by w (cond b (i ∷ filter (same_item x) l) (filter (same_item x) l)) ≡ cond b (w x) 0 + sum_by (alone w x) l
  go true is e = let c = sum_by-cons w i (filter (same_item x) l) in let same : w i ≡ w x = ap w (sym (one_item x i is)) in omega (arith, c, same, e)
  go false is e = omega (arith, e)

same-filter : (p q : Item → Bool) (l : List Item) → ((i : Item) → p i ≡ q i) → filter p l ≡ filter q l
same-filter p q [] same = refl
same-filter p q (i ∷ l) same = ap (λ (b : Bool). cond b (i ∷ filter p l) (filter p l)) (same i) ∙ ap (λ (r : List Item). cond (q i) (i ∷ r) r) (same-filter p q l same)

or-none : (b : Bool) → (b || false) ≡ b
or-none true = refl
or-none false = refl

-- all parts of a main item are in front
abbrev HasParts : Item → List Item → List Item → Type 0
HasParts (main key) front all = parts_among key front ≡ parts_among key all
HasParts (part key n) front all = Unit {0}

-- the sum over what is removed with the eviction unit of an item of a list
group-sum : (w : Item → ℕ) (item : Item) (front all : List Item) → HasParts item front all → times item all ≡ 1 → sum_by w (filter (is_out (group_for item front ∷ [])) all) ≡ sum_by w (items_of_group (group_for item front))
group-sum w (main key) front all parts once =
    ap (sum_by w) (same-filter (is_out (group_for (main key) front ∷ [])) (λ i. bytes_eq key (key_of i)) all (λ i. or-none (bytes_eq key (key_of i))))
    ∙ of-key w key all
    ∙ ap (λ (n : ℕ). n + sum_by w (map (part key) (parts_among key all))) (alone-once w (main key) all once)
    ∙ sym (sum_by-cons w (main key) (map (part key) (parts_among key all)))
    ∙ ap (λ (ns : List ℕ). sum_by w (main key ∷ map (part key) ns)) (sym parts)
group-sum w (part key n) front all parts once =
    ap (sum_by w) (same-filter (is_out (single key n ∷ [])) (same_item (part key n)) all (λ i. or-none (same_item (part key n) i)))
    ∙ one-out w (part key n) all
    ∙ alone-once w (part key n) all once
    ∙ last
  where
    last : w (part key n) ≡ sum_by w (part key n ∷ [])
    last = let c = sum_by-cons w (part key n) [] in let z : sum_by w [] ≡ 0 = refl in omega (arith, c, z)

-- ---- rows

-- what the rows of items are, item by item
pub of-rows : (h : Row → ℕ) (f : Item → Option Row) (l : List Item) → sum_by h (filter_map f l) ≡ sum_by (λ i. option_map_or h (f i) 0) l
of-rows h f [] = refl
of-rows h f (i ∷ l) = go (f i) (of-rows h f l) ∙ sym (sum_by-cons (λ i. option_map_or h (f i) 0) i l) where
  go : (o : Option Row) → sum_by h (filter_map f l) ≡ sum_by (λ i. option_map_or h (f i) 0) l → sum_by h (cons_option o (filter_map f l)) ≡ option_map_or h o 0 + sum_by (λ i. option_map_or h (f i) 0) l
  go None e = omega (arith, e)
  go (Some row) e = let c = sum_by-cons h row (filter_map f l) in omega (arith, c, e)

-- how many there are, where each item has one
pub all-have : (f : Item → Option Row) (l : List Item) → ((i : Item) → 1 ≤ times i l → is_some (f i) ≡ true) → length (filter_map f l) ≡ length l
all-have f [] each = refl
all-have f (i ∷ l) each =
    go (f i) (each i (let c = times-cons i i l in let s : ◌≡◌ {A = ℕ} (cond (same_item i i) 1 0) 1 = ap (λ (b : Bool). cond {A = ℕ} b 1 0) (same_item_self i) in omega (arith, c, s))) (all-have f l (λ j h. each j (let c = times-cons j i l in omega (arith, c, h))))
  where
    go : (o : Option Row) → is_some o ≡ true → length (filter_map f l) ≡ length l → length (cons_option o (filter_map f l)) ≡ suc (length l)
    go None some e = absurd (let z : false ≡ true = some in cc)
    go (Some row) some e = ap suc e

pub long-sum : (l : List Item) → sum_by (λ (i : Item). 1) l ≡ length l
long-sum [] = refl
long-sum (i ∷ l) = let c = sum_by-cons (λ (i : Item). 1) i l in let e = long-sum l in omega (arith, c, e)

pub same-sum : (v w : Item → ℕ) (p : Item → Bool) (l : List Item) → ((i : Item) → p i ≡ true → v i ≡ w i) → sum_by v (filter p l) ≡ sum_by w (filter p l)
same-sum v w p [] same = refl
same-sum v w p (i ∷ l) same = go (p i) refl (same-sum v w p l same) where
  go : (b : Bool) → p i ≡ b → sum_by v (filter p l) ≡ sum_by w (filter p l) → sum_by v (cond b (i ∷ filter p l) (filter p l)) ≡ sum_by w (cond b (i ∷ filter p l) (filter p l))
  go true is e = let c = sum_by-cons v i (filter p l) in let d = sum_by-cons w i (filter p l) in let s = same i is in omega (arith, c, d, s, e)
  go false is e = e

-- ---- a listed item has a row

some-owner : (state : State) → IsValidState state → (item : Item) → 1 ≤ times item state.uses → (n : ℕ) × (owner state item ≡ Some n)
some-owner state valid item there = go (owner state item) refl where
  go : (o : Option ℕ) → owner state item ≡ o → (n : ℕ) × (owner state item ≡ Some n)
  go None e = absurd (let none = owners-first_none item 0 state.objects e in let listed = valid.listed item in omega (arith, there, none, listed))
  go (Some n) e = (n, e)

row-in-some : (object : Object) (item : Item) → has_item object item ≡ true → is_some (row_in object item) ≡ true
row-in-some object (main key) has = refl
row-in-some object (part key n) has = go (part_at object n) (and_parts (object.live && bytes_eq key object.key) (is_some (part_at object n)) has).1 where
  go : (o : Option PartValue) → is_some o ≡ true → is_some (option_map (λ value. part_row key n value) o) ≡ true
  go None e = absurd (let z : false ≡ true = e in cc)
  go (Some value) e = refl

pub has-row : (state : State) → IsValidState state → (item : Item) → 1 ≤ times item state.uses → is_some (row_of state item) ≡ true
unfolding row_of
has-row state valid item there =
    let n = some-owner state valid item there in
    let o : IsOwned state item n.0 = owned state item n.0 n.1 in
    ap (λ (w : Option ℕ). is_some (option_and_then (λ z. row_in z item) (option_and_then (object_at state) w))) n.1
    ∙ ap (λ (w : Option Object). is_some (option_and_then (λ z. row_in z item) w)) o.here
    ∙ row-in-some o.object item o.has

-- ---- what stays has the same row

module _ (group : Group) where
  shrunk : Object → Object
  shrunk object = record object { parts = kept_parts (group ∷ []) object }

  left-is : (item : Item) (object : Object) → is_out (group ∷ []) item ≡ false → has_item object item ≡ true → left_of (group ∷ []) object ≡ Some (shrunk object)
  unfolding left_of shrunk
  left-is item object stays has = go (object.live && is_out (group ∷ []) (main object.key)) refl (left_slot_has (group ∷ []) item (Some object) ∙ ap (λ b. cond b false (has_item object item)) stays ∙ has) where
    go : (b : Bool) → (object.live && is_out (group ∷ []) (main object.key)) ≡ b → slot_has_item item (cond (object.live && is_out (group ∷ []) (main object.key)) None (Some (record object { parts = kept_parts (group ∷ []) object }))) ≡ true
        → cond b None (Some (record object { parts = kept_parts (group ∷ []) object })) ≡ Some (record object { parts = kept_parts (group ∷ []) object })
    go true e h = absurd (let c : false ≡ true = sym (ap (λ b. slot_has_item item (cond b None (Some (record object { parts = kept_parts (group ∷ []) object })))) e) ∙ h in cc)
    go false e h = refl

  module _ (state : State) where
    owner-same : (item : Item) → is_out (group ∷ []) item ≡ false → owner (without (group ∷ []) state) item ≡ owner state item
    unfolding without
    owner-same item stays = first-same (group ∷ []) item 0 state.objects stays

    object-left : (n : ℕ) → object_at (without (group ∷ []) state) n ≡ option_and_then (left_of (group ∷ [])) (object_at state n)
    unfolding without
    object-left n = map_at (left_of (group ∷ [])) state.objects n

    -- the object that has it is the same but for its parts
    owner-left : (item : Item) → is_out (group ∷ []) item ≡ false → owner_object (without (group ∷ []) state) item ≡ option_map shrunk (owner_object state item)
    owner-left item stays = ap (option_and_then (object_at (without (group ∷ []) state))) (owner-same item stays) ∙ go (owner state item) refl where
      go : (o : Option ℕ) → owner state item ≡ o → option_and_then (object_at (without (group ∷ []) state)) o ≡ option_map shrunk (option_and_then (object_at state) o)
      go None e = refl
      go (Some n) e =
          let o : IsOwned state item n = owned state item n e in
          object-left n ∙ ap (option_and_then (left_of (group ∷ []))) o.here ∙ left-is item o.object stays o.has ∙ ap (option_map shrunk) (sym o.here)

    -- the row of the item stays
    row-left : (item : Item) (object : Object) → is_out (group ∷ []) item ≡ false → has_item object item ≡ true → row_in (shrunk object) item ≡ row_in object item
    unfolding shrunk
    row-left (main key) object stays has = refl
    row-left (part key n) object stays has =
        let same : key ≡ object.key = its-key object (part key n) has in
        ap (option_map (λ value. part_row key n value))
        (kept_part_at (group ∷ []) object n
        ∙ ap (λ (k : List ℕ). cond (not (is_out (group ∷ []) (part k n))) (part_at object n) None) (sym same)
        ∙ ap (λ (b : Bool). cond (not b) (part_at object n) None) stays)

    row-same : (item : Item) → is_out (group ∷ []) item ≡ false → row_of (without (group ∷ []) state) item ≡ row_of state item
    unfolding row_of
    row-same item stays = ap (option_and_then (λ object. row_in object item)) (owner-left item stays) ∙ go (owner state item) refl where
      go : (o : Option ℕ) → owner state item ≡ o → option_and_then (λ object. row_in object item) (option_map shrunk (option_and_then (object_at state) o)) ≡ option_and_then (λ object. row_in object item) (option_and_then (object_at state) o)
      go None e = refl
      go (Some n) e =
          let o : IsOwned state item n = owned state item n e in
          ap (λ (w : Option Object). option_and_then (λ object. row_in object item) (option_map shrunk w)) o.here
          ∙ row-left item o.object stays o.has
          ∙ ap (option_and_then (λ object. row_in object item)) (sym o.here)

    -- the cost of the item stays
    main-stays : (b : Bool) (key : List ℕ) (n : ℕ) → is_out (group ∷ []) (main key) ≡ b → is_out (group ∷ []) (part key n) ≡ false → is_out (group ∷ []) (main key) ≡ false
    main-stays true key n is stays = absurd (let z : true ≡ false = sym (out_with_main (group ∷ []) key n is) ∙ stays in cc)
    main-stays false key n is stays = is

    signature-same : (key : List ℕ) → is_out (group ∷ []) (main key) ≡ false → signature_for (without (group ∷ []) state) key ≡ signature_for state key
    unfolding shrunk
    signature-same key stays = ap (λ (w : Option Object). option_map_or (λ object. signature_of object.shape) w 0) (owner-left (main key) stays) ∙ go (owner_object state (main key)) where
      go : (w : Option Object) → option_map_or (λ object. signature_of object.shape) (option_map shrunk w) 0 ≡ option_map_or (λ object. signature_of object.shape) w 0
      go None = refl
      go (Some object) = refl

    in-of : (object : Object) (item : Item) (row : Row) → row_in object item ≡ Some row → is_out (group ∷ []) item ≡ false → row_charge (without (group ∷ []) state) row ≡ row_charge state row
    in-of object (main key) (main_row k shape streams) is stays = refl
    in-of object (main key) (part_row k n value) is stays = cc
    in-of object (part key n) row is stays = go (part_at object n) is where
      go : (o : Option PartValue) → option_map (λ value. part_row key n value) o ≡ Some row → row_charge (without (group ∷ []) state) row ≡ row_charge state row
      go None e = cc
      go (Some value) e =
          let same : part_row key n value ≡ row = cc in
          subst (λ (r : Row). row_charge (without (group ∷ []) state) r ≡ row_charge state r) same
          (ap (λ (s : ℕ). part_charge key s n value) (signature-same key (main-stays (is_out (group ∷ []) (main key)) key n refl stays)))

    charge-same : (item : Item) → is_out (group ∷ []) item ≡ false → item_charge (without (group ∷ []) state) item ≡ item_charge state item
    unfolding row_of
    charge-same item stays = ap (λ (o : Option Row). option_map_or (row_charge (without (group ∷ []) state)) o 0) (row-same item stays) ∙ go (owner_object state item) where
      in-row : (object : Object) (o : Option Row) → row_in object item ≡ o → option_map_or (row_charge (without (group ∷ []) state)) o 0 ≡ option_map_or (row_charge state) o 0
      in-row object None is = refl
      in-row object (Some row) is = in-of object item row is stays

      go : (w : Option Object) → option_map_or (row_charge (without (group ∷ []) state)) (option_and_then (λ object. row_in object item) w) 0 ≡ option_map_or (row_charge state) (option_and_then (λ object. row_in object item) w) 0
      go None = refl
      go (Some object) = in-row object (row_in object item) refl

  -- ---- doomed objects stay

  doomed-same : (slot : Option Object) → doomed_charge (option_and_then (left_of (group ∷ [])) slot) ≡ doomed_charge slot
  unfolding left_of
  doomed-same None = refl
  doomed-same (Some object) = go object.live (is_out (group ∷ []) (main object.key)) refl where
    go : (l o : Bool) → object.live ≡ l → doomed_charge (cond (object.live && o) None (Some (record object { parts = kept_parts (group ∷ []) object }))) ≡ cond object.live 0 (own_charge object)
    go true true alive = rw alive refl
    go true false alive = rw alive refl
    go false o dead = rw dead refl

  doom-slot-same : (slot : Option Object) → is_doomed_slot (option_and_then (left_of (group ∷ [])) slot) ≡ is_doomed_slot slot
  unfolding left_of
  doom-slot-same None = refl
  doom-slot-same (Some object) = go object.live (is_out (group ∷ []) (main object.key)) refl where
    go : (l o : Bool) → object.live ≡ l → is_doomed_slot (cond (object.live && o) None (Some (record object { parts = kept_parts (group ∷ []) object }))) ≡ not object.live
    go true true alive = rw alive refl
    go true false alive = rw alive refl
    go false o dead = rw dead refl

mapped-sum : (f : Option Object → ℕ) (change : Option Object → Option Object) (slots : List (Option Object)) → ((slot : Option Object) → f (change slot) ≡ f slot) → sum_by f (map change slots) ≡ sum_by f slots
mapped-sum f change [] same = refl
mapped-sum f change (slot ∷ slots) same =
    let c = sum_by-cons f (change slot) (map change slots) in let d = sum_by-cons f slot slots in let s = same slot in let e = mapped-sum f change slots same in omega (arith, c, d, s, e)

stands-middle : (front : List Item) (item : Item) (behind : List Item) → 1 ≤ times item (front ++ item ∷ behind)
stands-middle [] item behind =
    let c = times-cons item item behind in let s : ◌≡◌ {A = ℕ} (cond (same_item item item) 1 0) 1 = ap (λ (b : Bool). cond {A = ℕ} b 1 0) (same_item_self item) in omega (arith, c, s)
stands-middle (i ∷ front) item behind = let c = times-cons item i (front ++ item ∷ behind) in let e = stands-middle front item behind in omega (arith, c, e)

is-out-no : (b : Bool) → not b ≡ true → b ≡ false
is-out-no true e = cc
is-out-no false e = refl

module _ (state : State) (front : List Item) (item : Item) (behind : List Item) (valid : IsValidState state) (is : MayGo state front item behind) where
  abbrev group : Group
  group = group_for item front

  abbrev left : State
  left = without (group ∷ []) state

  left-valid : IsValidState left
  left-valid = state_without state valid [] (group ∷ []) (loose-for (is_pinned state []) item front is.unpinned, tt)

  once : times item state.uses ≡ 1
  once = let there = subst (λ (l : List Item). 1 ≤ times item l) (sym is.listed) (stands-middle front item behind) in let few = valid.once item in omega (arith, there, few)

  has-parts : (i : Item) → MayGo state front i behind → HasParts i front state.uses
  has-parts (main key) last = last.parts key refl
  has-parts (part key n) last = tt

  gone-sum : (w : Item → ℕ) → sum_by w state.uses ≡ sum_by w (not_out (group ∷ []) state.uses) + sum_by w (items_of_group group)
  gone-sum w = split-sum w (is_out (group ∷ [])) state.uses ∙ ap (λ (n : ℕ). sum_by w (not_out (group ∷ []) state.uses) + n) (group-sum w item front state.uses (has-parts item is) once)

  left-uses : left.uses ≡ not_out (group ∷ []) state.uses
  unfolding without
  left-uses = refl

  left-objects : left.objects ≡ map (option_and_then (left_of (group ∷ []))) state.objects
  unfolding without
  left-objects = refl

  charges-of : (s : State) → sum_by (row_charge s) (rows s) ≡ sum_by (item_charge s) s.uses
  unfolding rows
  charges-of s = of-rows (row_charge s) (row_of s) s.uses

  long-rows : (s : State) → IsValidState s → length (rows s) ≡ sum_by (λ (i : Item). 1) s.uses
  unfolding rows
  long-rows s v = all-have (row_of s) s.uses (has-row s v) ∙ sym (long-sum s.uses)

  bytes-less : total state ≡ total left + sum_by (item_charge state) (items_of_group group)
  bytes-less =
      let all = (totals_are_sums state valid).bytes in
      let some = (totals_are_sums left left-valid).bytes in
      let a = charges-of state in
      let b = charges-of left in
      let c : sum_by (item_charge left) left.uses ≡ sum_by (item_charge left) (not_out (group ∷ []) state.uses) = ap (sum_by (item_charge left)) left-uses in
      let d = same-sum (item_charge left) (item_charge state) (λ i. not (is_out (group ∷ []) i)) state.uses (λ i e. charge-same group state i (is-out-no (is_out (group ∷ []) i) e)) in
      let e = gone-sum (item_charge state) in
      let f : sum_by doomed_charge left.objects ≡ sum_by doomed_charge state.objects = ap (sum_by doomed_charge) left-objects ∙ mapped-sum doomed_charge (option_and_then (left_of (group ∷ []))) state.objects (doomed-same group) in
      omega (arith, all, some, a, b, c, d, e, f)

  items-less : items state ≡ items left + length (items_of_group group)
  items-less =
      let all = (totals_are_sums state valid).count in
      let some = (totals_are_sums left left-valid).count in
      let a = long-rows state valid in
      let b = long-rows left left-valid in
      let c : sum_by (λ (i : Item). 1) left.uses ≡ sum_by (λ (i : Item). 1) (not_out (group ∷ []) state.uses) = ap (sum_by (λ (i : Item). 1)) left-uses in
      let e = gone-sum (λ (i : Item). 1) in
      let g = long-sum (items_of_group group) in
      let f : count_by is_doomed_slot left.objects ≡ count_by is_doomed_slot state.objects =
      ap (count_by is_doomed_slot) left-objects ∙ mapped-sum (λ slot. cond (is_doomed_slot slot) 1 0) (option_and_then (left_of (group ∷ []))) state.objects (λ slot. ap (λ (b : Bool). cond {A = ℕ} b 1 0) (doom-slot-same group slot)) in
      omega (arith, all, some, a, b, c, e, f, g)

pub counted-less : GroupsAreCountedLess
counted-less state front item behind valid is = record { items_left = items-less state front item behind valid is; bytes_left = bytes-less state front item behind valid is }
