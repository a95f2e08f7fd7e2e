-- How many items and bytes are counted no longer once an object is doomed.
use Rattle.std.proofs.Common.{◌≡◌, ℕ, zero, suc, ◌+◌, Bool, true, false, cond, List, [], ◌∷◌, length, map, set, get_or, Option, Some, None, not, refl, sym, ap, subst, ◌∙◌, arith}
use Rattle.std.specs.List.{filter, count_by, sum_by}
use Rattle.std.specs.Option.{option_and_then, option_map, option_map_or}
use Rattle.std.specs.Str.{bytes_eq}
use Rattle.std.proofs.lemmas.List.Sums.{sum_by-cons}
use Rattle.blk_model.specs.Charge.{part_charge}
use Rattle.blk_model.specs.Effects.{doomed, doomed_slot}
use Rattle.blk_model.specs.Holding.{owner_object, row_in, row_of, rows}
use Rattle.blk_model.specs.Items.{Item, PartValue, Row, key_of, main, main_row, part, part_row, signature_of, times}
use Rattle.blk_model.specs.Room.{items, own_charge, parts_among, total}
use Rattle.blk_model.specs.State.{IsValidState, Object, State, is_named, object_at, part_at}
use Rattle.blk_model.specs.Totals.{doomed_charge, is_doomed_slot, row_charge, signature_for}
use Rattle.blk_model.proofs.Doomed.{state_doomed}
use Rattle.blk_model.proofs.Sums.{totals_are_sums}
use Rattle.spec_folder.specs.Removal.{is_of_another}
use Rattle.law_folder.proofs.commands.DoomedObjects.{object-aside, row-aside}
use Rattle.law_folder.proofs.commands.Dooming.{no-item, not-its}
use Rattle.law_folder.proofs.commands.Touches.{in-times}
use Rattle.law_folder.proofs.states.Settling.{main-listed, main-owned}
use Rattle.blk_evict.specs.RoomLaws.{item_charge}
use Rattle.blk_evict.proofs.RoomCounts.{all-have, alone-once, has-row, long-sum, of-key, of-rows, same-sum, split-sum}

-- what is counted of slots of which one becomes another
slot-sum : (f : Option Object → ℕ) (xs : List (Option Object)) (i : ℕ) (o : Object) (slot : Option Object) → get_or xs i None ≡ Some o → sum_by f (set xs i slot) + f (Some o) ≡ sum_by f xs + f slot
slot-sum f [] i o slot here = absurd (let c : ◌≡◌ {A = Option Object} None (Some o) = here in cc)
slot-sum f (x ∷ xs) zero o slot here =
    let now = sum_by-cons f slot xs in
    let was = sum_by-cons f x xs in
    let own : f x ≡ f (Some o) = ap f here in
    omega (arith, now, was, own)
slot-sum f (x ∷ xs) (suc i) o slot here =
    let more = slot-sum f xs i o slot here in
    let now = sum_by-cons f x (set xs i slot) in
    let was = sum_by-cons f x xs in
    omega (arith, more, now, was)

module _ (state : State) (number : ℕ) (object : Object) (valid : IsValidState state) (here : object_at state number ≡ Some object) (live : object.live ≡ true) where
  abbrev after : State
  after = doomed number state (Some object)

  after-valid : IsValidState after
  after-valid = state_doomed state valid number object here live

  -- its main item and its parts
  abbrev pub its-items : List Item
  its-items = main object.key ∷ map (part object.key) (parts_among object.key state.uses)

  after-uses : after.uses ≡ filter (is_of_another object.key) state.uses
  unfolding doomed
  after-uses = refl

  after-objects : after.objects ≡ set state.objects number (doomed_slot (is_named state number) object)
  unfolding doomed
  after-objects = refl

  once : times (main object.key) state.uses ≡ 1
  once =
      let some = in-times (main object.key) state.uses (main-listed state valid number object true here live) in
      let few = valid.once (main object.key) in
      omega (arith, some, few)

  gone-sum : (w : Item → ℕ) → sum_by w state.uses ≡ sum_by w (filter (is_of_another object.key) state.uses) + sum_by w its-items
  gone-sum w =
      split-sum w (λ i. bytes_eq object.key (key_of i)) state.uses
      ∙ ap (λ (n : ℕ). sum_by w (filter (is_of_another object.key) state.uses) + n)
      (of-key w object.key state.uses
      ∙ ap (λ (n : ℕ). n + sum_by w (map (part object.key) (parts_among object.key state.uses))) (alone-once w (main object.key) state.uses once)
      ∙ sym (sum_by-cons w (main object.key) (map (part object.key) (parts_among object.key state.uses))))

  -- ---- items of other keys have the same rows and the same costs

  row-same : (item : Item) → is_of_another object.key item ≡ true → row_of after item ≡ row_of state item
  unfolding row_of doomed
  row-same item other = row-aside state number (doomed_slot (is_named state number) object) item (not-its state number object here item other) (no-item state number object here item)

  signature-same : (key : List ℕ) → is_of_another object.key (main key) ≡ true → signature_for after key ≡ signature_for state key
  unfolding doomed
  signature-same key other =
      ap (λ (w : Option Object). option_map_or (λ o. signature_of o.shape) w 0) (object-aside state number (doomed_slot (is_named state number) object) (main key) (not-its state number object here (main key) other) (no-item state number object here (main key)))

  in-of : (o : Object) (item : Item) (row : Row) → row_in o item ≡ Some row → is_of_another object.key item ≡ true → row_charge after row ≡ row_charge state row
  in-of o (main key) (main_row k shape streams) is other = refl
  in-of o (main key) (part_row k n value) is other = cc
  in-of o (part key n) row is other = go (part_at o n) is where
    go : (v : Option PartValue) → option_map (λ value. part_row key n value) v ≡ Some row → row_charge after row ≡ row_charge state row
    go None e = cc
    go (Some value) e =
        let same : part_row key n value ≡ row = cc in
        subst (λ (r : Row). row_charge after r ≡ row_charge state r) same
        (ap (λ (s : ℕ). part_charge key s n value) (signature-same key other))

  charge-same : (item : Item) → is_of_another object.key item ≡ true → item_charge after item ≡ item_charge state item
  unfolding row_of
  charge-same item other = ap (λ (o : Option Row). option_map_or (row_charge after) o 0) (row-same item other) ∙ go (owner_object state item) where
    in-row : (o : Object) (r : Option Row) → row_in o item ≡ r → option_map_or (row_charge after) r 0 ≡ option_map_or (row_charge state) r 0
    in-row o None is = refl
    in-row o (Some row) is = in-of o item row is other

    go : (w : Option Object) → option_map_or (row_charge after) (option_and_then (λ o. row_in o item) w) 0 ≡ option_map_or (row_charge state) (option_and_then (λ o. row_in o item) w) 0
    go None = refl
    go (Some o) = in-row o (row_in o item) refl

  charges-of : (s : State) → sum_by (row_charge s) (rows s) ≡ sum_by (item_charge s) s.uses
  unfolding rows
  charges-of s = of-rows (row_charge s) (row_of s) s.uses

  long-rows : (s : State) → IsValidState s → length (rows s) ≡ sum_by (λ (i : Item). 1) s.uses
  unfolding rows
  long-rows s v = all-have (row_of s) s.uses (has-row s v) ∙ sym (long-sum s.uses)

  -- ---- doomed objects

  doomed-charged : sum_by doomed_charge after.objects ≡ sum_by doomed_charge state.objects + cond (is_named state number) (own_charge object) 0
  doomed-charged =
      let all = slot-sum doomed_charge state.objects number object (doomed_slot (is_named state number) object) here in
      let none : doomed_charge (Some object) ≡ 0 = ap (λ (b : Bool). cond {A = ℕ} b 0 (own_charge object)) live in
      let slots : sum_by doomed_charge after.objects ≡ sum_by doomed_charge (set state.objects number (doomed_slot (is_named state number) object)) = ap (sum_by doomed_charge) after-objects in
      let own = own-charged (is_named state number) in
      omega (arith, all, none, slots, own)
    where
      own-charged : (b : Bool) → doomed_charge (doomed_slot b object) ≡ cond b (own_charge object) 0
      own-charged true = refl
      own-charged false = refl

  doomed-counted : count_by is_doomed_slot after.objects ≡ count_by is_doomed_slot state.objects + cond (is_named state number) 1 0
  doomed-counted =
      let all = slot-sum (λ slot. cond (is_doomed_slot slot) 1 0) state.objects number object (doomed_slot (is_named state number) object) here in
      let none : ◌≡◌ {A = ℕ} (cond (is_doomed_slot (Some object)) 1 0) 0 = ap (λ (b : Bool). cond {A = ℕ} (not b) 1 0) live in
      let slots : count_by is_doomed_slot after.objects ≡ count_by is_doomed_slot (set state.objects number (doomed_slot (is_named state number) object)) = ap (count_by is_doomed_slot) after-objects in
      let own = own-counted (is_named state number) in
      omega (arith, all, none, slots, own)
    where
      own-counted : (b : Bool) → ◌≡◌ {A = ℕ} (cond (is_doomed_slot (doomed_slot b object)) 1 0) (cond b 1 0)
      own-counted true = refl
      own-counted false = refl

  -- ---- what is less

  pub bytes-less : total state + cond (is_named state number) (own_charge object) 0 ≡ total after + sum_by (item_charge state) its-items
  bytes-less =
      let all = (totals_are_sums state valid).bytes in
      let some = (totals_are_sums after after-valid).bytes in
      let a = charges-of state in
      let b = charges-of after in
      let c : sum_by (item_charge after) after.uses ≡ sum_by (item_charge after) (filter (is_of_another object.key) state.uses) = ap (sum_by (item_charge after)) after-uses in
      let d = same-sum (item_charge after) (item_charge state) (is_of_another object.key) state.uses charge-same in
      let e = gone-sum (item_charge state) in
      let f = doomed-charged in
      omega (arith, all, some, a, b, c, d, e, f)

  pub items-less : items state + cond (is_named state number) 1 0 ≡ items after + length its-items
  items-less =
      let all = (totals_are_sums state valid).count in
      let some = (totals_are_sums after after-valid).count in
      let a = long-rows state valid in
      let b = long-rows after after-valid in
      let c : sum_by (λ (i : Item). 1) after.uses ≡ sum_by (λ (i : Item). 1) (filter (is_of_another object.key) state.uses) = ap (sum_by (λ (i : Item). 1)) after-uses in
      let e = gone-sum (λ (i : Item). 1) in
      let g = long-sum its-items in
      let f = doomed-counted in
      omega (arith, all, some, a, b, c, e, f, g)

  -- the cost of its main item is its own
  pub main-charge : item_charge state (main object.key) ≡ own_charge object
  unfolding row_of
  main-charge =
      ap (λ (w : Option ℕ). option_map_or (row_charge state) (option_and_then (λ z. row_in z (main object.key)) (option_and_then (object_at state) w)) 0) (main-owned state valid number object true here live)
      ∙ ap (λ (w : Option Object). option_map_or (row_charge state) (option_and_then (λ z. row_in z (main object.key)) w) 0) here
