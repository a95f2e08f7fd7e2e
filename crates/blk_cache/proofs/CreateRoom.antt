-- The space that a Create has once all that it evicts is out.
use Rattle.std.proofs.Common.{◌≡◌, ◌⊎◌, inl, inr, ⊎_elim, ℕ, suc, ◌+◌, ◌-◌, ◌≤◌, Bool, true, false, not, ◌&&◌, ◌||◌, cond, List, [], ◌∷◌, ◌++◌, length, Some, None, Option, refl, sym, ap, ap₂, subst, ◌∙◌, arith, get_or, map, reverse, append-nil, append_assoc, T}
use Rattle.std.specs.Prelude.{IfSome, is_some, nat_le}
use Rattle.std.specs.Bool.{nat_lt, ◌==◌}
use Rattle.std.specs.List.{filter, list_any}
use Rattle.std.specs.Option.{option_and_then, option_map_or}
use Rattle.std.specs.Ordering.{nat_cmp}
use Rattle.std.specs.Bool.{passes}
use Rattle.std.specs.Cmp.{nat_cmp_total}
use Rattle.std.specs.FinMap.{find, is_sorted, nat_cmp-IsAntisymmetric}
use Rattle.std.specs.FinMap.Entries.{find-where_key, is_sorted-where_key, same_entries}
use Rattle.std.specs.List.{AllByRecursion}
use Rattle.std.specs.Str.{bytes_eq}
use Rattle.std.proofs.lemmas.Bool.{and_from, and_parts, and_right, cases_Bool, or_left, or_parts, or_right}
use Rattle.std.proofs.lemmas.Bool.Decides.{nat_tests}
use Rattle.std.proofs.lemmas.List.Sorted.{sum_by-IsPermutation, IsPermutation-reverse}
use Rattle.blk_model.specs.Items.{Item, main, part, PartValue, key_of, same_item, times}
use Rattle.blk_model.specs.State.{Bounds, Object, State, IsObject, IsValidState, has_item, is_named, live_with, object_at, part_at, slot_has_item}
use Rattle.blk_model.specs.Effects.{created, effect}
use Rattle.blk_model.specs.Refusals.{evicted, evicted_for, is_full, refusals, refused, room_for}
use Rattle.blk_model.specs.Request.{to_create}
use Rattle.blk_model.specs.Room.{Group, Room, full, after, whole, single, count_of, evicted_until, fits, groups_from_back, is_out, is_pinned, items, left_of, low, parts_among, pinned, pinned_from, pinned_of, room, shortest, total, total_of, without}
use Rattle.blk_model.proofs.Evicted.{IsLoose, groups_are_loose, kept_part_at, kept_parts, named_stays}
use Rattle.blk_model.proofs.Same.{bytes_eq_self, one_item, same_bytes}
use Rattle.blk_model.proofs.Slots.{first_with_found, owners-has}
use Rattle.blk_model.proofs.States.{has_main, main_owner}
use Rattle.blk_model.proofs.Steps.{none_comes}
use Rattle.blk_model.proofs.Times.{same_item-sym, times-cons}
use Rattle.law_state.specs.CommandStates.{with_room}
use Rattle.blk_object.proofs.MakingCreates.{creates-can}
use Rattle.blk_cache.specs.CreatingLaws.{CreatesHaveRoom, CreatesWantRoomForOneItem}
use Rattle.blk_cache.proofs.Creates.{items-after, total-after}

-- ---- what is evicted

clash : true ≡ false → ⊥
clash h = cc

apart-by : (stays : Item → Bool) (i j : Item) → stays i ≡ false → stays j ≡ true → same_item i j ≡ false
apart-by stays i j free held = ⊎_elim
    (λ (e : same_item i j ≡ true). absurd (clash (sym held ∙ ap stays (sym (one_item i j e)) ∙ free)))
    (λ (e : same_item i j ≡ false). e)
    (cases_Bool (same_item i j))

apart-keys : (key : List ℕ) (i : Item) → bytes_eq key (key_of i) ≡ false → same_item i (main key) ≡ false
apart-keys key i other = ⊎_elim
    (λ (e : same_item i (main key) ≡ true). absurd (clash (sym (bytes_eq_self key) ∙ ap (λ (j : Item). bytes_eq key (key_of j)) (sym (one_item i (main key) e)) ∙ other)))
    (λ (e : same_item i (main key) ≡ false). e)
    (cases_Bool (same_item i (main key)))

left-behind : (i j : Item) (list : List Item) → same_item i j ≡ false → 1 ≤ times i (j ∷ list) → 1 ≤ times i list
left-behind i j list apart there =
    let c = times-cons i j list in
    let z : ◌≡◌ {A = ℕ} (cond (same_item i j) 1 0) 0 = ap (λ (b : Bool). cond {A = ℕ} b 1 0) apart in
    omega (arith, c, z, there)

-- each listed item that need not stay is in an eviction unit that may be evicted
goes : (stays : Item → Bool) (list : List Item) (item : Item) → 1 ≤ times item list → stays item ≡ false → is_out (groups_from_back stays list) item ≡ true
unfolding groups_from_back
goes stays [] item there free = let none : times item [] ≡ 0 = refl in absurd (omega (arith, there, none))
goes stays (main key ∷ before) item there free = ⊎_elim
    (λ (h : stays (main key) ≡ true).
    ap (λ (b : Bool). is_out (cond b (groups_from_back stays before) (whole key (reverse (parts_among key before)) ∷ groups_from_back (λ i. stays i || bytes_eq key (key_of i)) before)) item) h
    ∙ goes stays before item (left-behind item (main key) before (apart-by stays item (main key) free h) there) free)
    (λ (h : stays (main key) ≡ false).
    ap (λ (b : Bool). is_out (cond b (groups_from_back stays before) (whole key (reverse (parts_among key before)) ∷ groups_from_back (λ i. stays i || bytes_eq key (key_of i)) before)) item) h
    ∙ ⊎_elim
    (λ (e : bytes_eq key (key_of item) ≡ true). or_left (bytes_eq key (key_of item)) (is_out (groups_from_back (λ i. stays i || bytes_eq key (key_of i)) before) item) e)
    (λ (e : bytes_eq key (key_of item) ≡ false). or_right (bytes_eq key (key_of item)) (is_out (groups_from_back (λ i. stays i || bytes_eq key (key_of i)) before) item)
    (goes (λ i. stays i || bytes_eq key (key_of i)) before item (left-behind item (main key) before (apart-keys key item e) there) (ap₂ (λ (a b : Bool). a || b) free e)))
    (cases_Bool (bytes_eq key (key_of item))))
    (cases_Bool (stays (main key)))
goes stays (part key n ∷ before) item there free = ⊎_elim
    (λ (h : stays (part key n) ≡ true).
    ap (λ (b : Bool). is_out (cond b (groups_from_back stays before) (single key n ∷ groups_from_back stays before)) item) h
    ∙ goes stays before item (left-behind item (part key n) before (apart-by stays item (part key n) free h) there) free)
    (λ (h : stays (part key n) ≡ false).
    ap (λ (b : Bool). is_out (cond b (groups_from_back stays before) (single key n ∷ groups_from_back stays before)) item) h
    ∙ ⊎_elim
    (λ (e : same_item item (part key n) ≡ true). or_left (same_item (part key n) item) (is_out (groups_from_back stays before) item) (same_item-sym (part key n) item ∙ e))
    (λ (e : same_item item (part key n) ≡ false). or_right (same_item (part key n) item) (is_out (groups_from_back stays before) item) (goes stays before item (left-behind item (part key n) before e there) free))
    (cases_Bool (same_item item (part key n))))
    (cases_Bool (stays (part key n)))

either-not : (a b : Bool) → (a ≡ true → ⊥) → b ≡ false → (a || b) ≡ false
either-not true b never e = absurd (never refl)
either-not false b never e = e

-- a part that stays is in none of the eviction units, where its main item stays too
pub loose-part : (stays : Item → Bool) (groups : List Group) (key : List ℕ) (n : ℕ) → AllByRecursion (IsLoose stays) groups → stays (part key n) ≡ true → stays (main key) ≡ true → is_out groups (part key n) ≡ false
loose-part stays [] key n all held main_held = refl
loose-part stays (whole other parts ∷ groups) key n all held main_held =
    either-not (bytes_eq other key) (is_out groups (part key n)) (λ same. clash (sym main_held ∙ ap (λ (k : List ℕ). stays (main k)) (sym (same_bytes other key same)) ∙ all.0)) (loose-part stays groups key n all.1 held main_held)
loose-part stays (single other m ∷ groups) key n all held main_held =
    either-not (same_item (part other m) (part key n)) (is_out groups (part key n)) (λ same. clash (sym held ∙ ap stays (sym (one_item (part other m) (part key n) same)) ∙ all.0)) (loose-part stays groups key n all.1 held main_held)

alike : (a b : Bool) (o : Option PartValue) → o ≡ None → cond a o None ≡ cond b o None
alike true true o e = refl
alike true false o e = e
alike false true o e = sym e
alike false false o e = refl

-- eviction units are evicted until there is enough, or all are out
shortest-ends : (enough : List Group → Bool) (done groups : List Group) → (enough (shortest enough done groups) ≡ true) ⊎ (shortest enough done groups ≡ done ++ groups)
shortest-ends enough done [] = inr (sym (append-nil done))
shortest-ends enough done (group ∷ groups) = ⊎_elim
    (λ (h : enough done ≡ true). inl (ap (λ (b : Bool). enough (cond b done (shortest enough (done ++ group ∷ []) groups))) h ∙ h))
    (λ (h : enough done ≡ false). ⊎_elim
    (λ (e : enough (shortest enough (done ++ group ∷ []) groups) ≡ true). inl (ap (λ (b : Bool). enough (cond b done (shortest enough (done ++ group ∷ []) groups))) h ∙ e))
    (λ (e : shortest enough (done ++ group ∷ []) groups ≡ (done ++ group ∷ []) ++ groups). inr (ap (λ (b : Bool). cond b done (shortest enough (done ++ group ∷ []) groups)) h ∙ e ∙ append_assoc done (group ∷ []) groups))
    (shortest-ends enough (done ++ group ∷ []) groups))
    (cases_Bool (enough done))

-- ---- what is left once all is out that isn't pinned

all-kept : (parts : List (ℕ × PartValue)) → filter (λ (p : ℕ × PartValue). true) parts ≡ parts
all-kept [] = refl
all-kept (p ∷ parts) = ap (λ (l : List (ℕ × PartValue)). p ∷ l) (all-kept parts)

none-left : (object : Object) → left_of [] object ≡ Some object
unfolding left_of
none-left object = by object.live where
  by : (b : Bool) → cond (b && false) None (Some (record object { parts = filter (λ (p : ℕ × PartValue). true) object.parts })) ≡ Some object
  by true = ap (λ (ps : List (ℕ × PartValue)). Some (record object { parts = ps })) (all-kept object.parts)
  by false = ap (λ (ps : List (ℕ × PartValue)). Some (record object { parts = ps })) (all-kept object.parts)

slots-stay : (slots : List (Option Object)) → map (option_and_then (left_of [])) slots ≡ slots
slots-stay [] = refl
slots-stay (None ∷ slots) = ap (λ (l : List (Option Object)). None ∷ l) (slots-stay slots)
slots-stay (Some o ∷ slots) = ap₂ (λ (s : Option Object) (l : List (Option Object)). s ∷ l) (none-left o) (slots-stay slots)

-- the objects of a state without eviction units
pub objects-without : (state : State) (groups : List Group) → (without groups state).objects ≡ map (option_and_then (left_of groups)) state.objects
unfolding without
objects-without state [] = sym (slots-stay state.objects)
objects-without state (group ∷ groups) = refl

pub limits-without : (state : State) (groups : List Group) → (without groups state).limits ≡ state.limits
unfolding without
limits-without state [] = refl
limits-without state (group ∷ groups) = refl

none-without : (state : State) → without [] state ≡ state
unfolding without
none-without state = refl

-- how space is decided
abbrev decided : Bool → Bool → Bool → List Group → Room
decided none over all gone = cond none (after []) (cond over full (cond all (after []) (after gone)))

times-back : (item : Item) (list : List Item) → times item (reverse list) ≡ times item list
times-back item list = sum_by-IsPermutation (λ i. cond (same_item item i) 1 0) list (reverse list) (IsPermutation-reverse list)

module _ (state : State) (valid : IsValidState state) (covered : List Item) where
  -- all eviction units that may be evicted
  abbrev all : List Group
  all = groups_from_back (is_pinned state covered) (reverse state.uses)

  out-item : (n : ℕ) (o : Object) (item : Item) → object_at state n ≡ Some o → has_item o item ≡ true → is_pinned state covered item ≡ false → is_out all item ≡ true
  out-item n o item here has free =
      let one = owners-has item n state.objects (ap (slot_has_item item) here ∙ has) in
      let listed = valid.listed item in
      let back = times-back item state.uses in
      goes (is_pinned state covered) (reverse state.uses) item (omega (arith, one, listed, back)) free

  -- the parts of an object that are in range
  abbrev pinned_parts : Object → List (ℕ × PartValue)
  pinned_parts o = filter (λ (p : ℕ × PartValue). list_any (same_item (part o.key p.0)) covered) o.parts

  pinned-found : (o : Object) (m : ℕ) → find nat_cmp m (pinned_parts o) ≡ cond (list_any (same_item (part o.key m)) covered) (part_at o m) None
  pinned-found o m = find-where_key nat_cmp (λ k. list_any (same_item (part o.key k)) covered) m (λ k e. ap (λ j. list_any (same_item (part o.key j)) covered) (sym (nat_cmp-IsAntisymmetric m k e))) o.parts

  -- the main item of an object that a handle names is pinned
  pub main-pinned : (n : ℕ) (o : Object) → object_at state n ≡ Some o → o.live ≡ true → (named : Bool) → is_named state n ≡ named → is_pinned state covered (main o.key) ≡ named
  main-pinned n o here alive named held =
      let one = main_owner state valid n o here alive in
      let number : live_with state o.key ≡ Some n = first_with_found (main o.key) 0 n state.objects (ap (slot_has_item (main o.key)) here ∙ has_main o alive) (omega (arith, one)) ∙ ap Some (let e : 0 + n ≡ n = omega arith in e) in
      ap (λ (m : Option ℕ). option_map_or (is_named state) m false) number ∙ held

  -- of an object that a handle names the parts in range stay, and no others
  parts-kept : (n : ℕ) (o : Object) → object_at state n ≡ Some o → o.live ≡ true → is_named state n ≡ true → kept_parts all o ≡ pinned_parts o
  parts-kept n o here alive held =
      same_entries nat_cmp nat_cmp_total (λ x y e. nat_cmp-IsAntisymmetric x y e) (kept_parts all o) (pinned_parts o)
      (is_sorted-where_key nat_cmp (λ m. not (is_out all (part o.key m))) o.parts sorted) (is_sorted-where_key nat_cmp (λ m. list_any (same_item (part o.key m)) covered) o.parts sorted)
      (λ m. kept_part_at all o m ∙ each m (part_at o m) refl ∙ sym (pinned-found o m))
    where
      sorted : T (is_sorted nat_cmp o.parts)
      sorted = let is : IsObject o = subst (λ (s : Option Object). IfSome s IsObject) here (valid.objects n) in passes _ is.rising

      each : (m : ℕ) (v : Option PartValue) → part_at o m ≡ v → cond (not (is_out all (part o.key m))) (part_at o m) None ≡ cond (list_any (same_item (part o.key m)) covered) (part_at o m) None
      each m None e = alike (not (is_out all (part o.key m))) (list_any (same_item (part o.key m)) covered) (part_at o m) e
      each m (Some v) e = ap (λ (b : Bool). cond b (part_at o m) None) (stays (list_any (same_item (part o.key m)) covered) refl)
        where
          stays : (t : Bool) → list_any (same_item (part o.key m)) covered ≡ t → not (is_out all (part o.key m)) ≡ list_any (same_item (part o.key m)) covered
          stays true held_part = ap not (loose-part (is_pinned state covered) all o.key m (groups_are_loose (is_pinned state covered) (reverse state.uses)) held_part (main-pinned n o here alive true held)) ∙ sym held_part
          stays false free = ap not (out-item n o (part o.key m) here (and_from (o.live && bytes_eq o.key o.key) (is_some (part_at o m)) (and_from o.live (bytes_eq o.key o.key) alive (bytes_eq_self o.key)) (ap is_some e)) free) ∙ sym free

  abbrev LeftAsPinned : ℕ → Option Object → Type 0
  LeftAsPinned n slot = option_and_then (left_of all) slot ≡ option_and_then (pinned_of state covered n) slot

  -- of each object what is pinned is left
  module _ (n : ℕ) (o : Object) (here : object_at state n ≡ Some o) where
    abbrev with_parts : List (ℕ × PartValue) → Option Object
    with_parts ps = Some (record o { parts = ps })

    no-parts : o.live ≡ false → o.parts ≡ []
    no-parts dead = let is : IsObject o = subst (λ (s : Option Object). IfSome s IsObject) here (valid.objects n) in is.doomed_has_no_parts dead

    by-marks : (live named : Bool) → o.live ≡ live → is_named state n ≡ named → cond (o.live && is_out all (main o.key)) None (with_parts (kept_parts all o)) ≡ cond (not o.live || is_named state n) (with_parts (pinned_parts o)) None
    by-marks true true alive held =
        ap (λ (b : Bool). cond b None (with_parts (kept_parts all o))) (named_stays state valid covered all (groups_are_loose (is_pinned state covered) (reverse state.uses)) n o here held)
        ∙ ap with_parts (parts-kept n o here alive held)
        ∙ ap (λ (b : Bool). cond b (with_parts (pinned_parts o)) None) (sym (or_right (not o.live) (is_named state n) held))
    by-marks true false alive loose =
        let free : is_pinned state covered (main o.key) ≡ false = main-pinned n o here alive false loose in
        ap (λ (b : Bool). cond b None (with_parts (kept_parts all o))) (and_from o.live (is_out all (main o.key)) alive (out-item n o (main o.key) here (has_main o alive) free))
        ∙ ap₂ (λ (a b : Bool). cond (not a || b) (with_parts (pinned_parts o)) None) (sym alive) (sym loose)
    by-marks false named dead held =
        ap (λ (b : Bool). cond (b && is_out all (main o.key)) None (with_parts (kept_parts all o))) dead
        ∙ ap with_parts (ap (filter (λ (p : ℕ × PartValue). not (is_out all (part o.key p.0)))) (no-parts dead) ∙ sym (ap (filter (λ (p : ℕ × PartValue). list_any (same_item (part o.key p.0)) covered)) (no-parts dead)))
        ∙ ap (λ (b : Bool). cond (not b || is_named state n) (with_parts (pinned_parts o)) None) (sym dead)

    object-left : LeftAsPinned n (Some o)
    unfolding left_of pinned_of
    object-left = by-marks o.live (is_named state n) refl refl

  slot-left : (n : ℕ) (slot : Option Object) → object_at state n ≡ slot → LeftAsPinned n slot
  slot-left n None here = refl
  slot-left n (Some o) here = object-left n o here

  from-left : (start : ℕ) (slots : List (Option Object)) → ((k : ℕ) → LeftAsPinned (start + k) (get_or slots k None)) → map (option_and_then (left_of all)) slots ≡ pinned_from state covered start slots
  from-left start [] each = refl
  from-left start (slot ∷ slots) each =
      ap₂ (λ (o : Option Object) (more : List (Option Object)). o ∷ more)
      (subst (λ n. LeftAsPinned n slot) (let e : start + 0 ≡ start = omega arith in e) (each 0))
      (from-left (start + 1) slots (λ k. subst (λ n. LeftAsPinned n (get_or slots k None)) (let e : start + suc k ≡ start + 1 + k = omega arith in e) (each (suc k))))

  objects-left : (without all state).objects ≡ pinned state covered
  objects-left = objects-without state all ∙ from-left 0 state.objects (λ k. subst (λ n. LeftAsPinned n (get_or state.objects k None)) (let e : k ≡ 0 + k = omega arith in e) (slot-left k (object_at state k) refl))

  -- ---- space

  module _ (bytes more : ℕ) where
    -- so much fits in what is left
    pub record HasEnough (left : State) : Type 0 where
      pub within : total left + bytes ≤ state.limits.max_bytes
      pub few : items left + more ≤ state.limits.max_items

    fits-facts : (most : ℕ) (left : State) → left.limits ≡ state.limits → most ≤ state.limits.max_bytes → fits most bytes more left ≡ true → HasEnough left
    fits-facts most left limits less fit =
        let p = and_parts (nat_le (total left + bytes) most) (nat_le (items left + more) left.limits.max_items) fit in
        let first : nat_le (total left + bytes) most ≡ true = p.0 in
        let second : nat_le (items left + more) left.limits.max_items ≡ true = p.1 in
        let one : total left + bytes ≤ most = grind (arith, nat_tests) in
        let two : items left + more ≤ left.limits.max_items = grind (arith, nat_tests) in
        let same : left.limits.max_items ≡ state.limits.max_items = ap (λ (l : Bounds). l.max_items) limits in
        record { within = omega (arith, one, less); few = omega (arith, two, same) }

    low-less : low state ≤ state.limits.max_bytes
    low-less = omega arith

    evicted-enough : nat_lt state.limits.max_bytes (total_of (pinned state covered) + bytes) || nat_lt state.limits.max_items (count_of (pinned state covered) + more) ≡ false → HasEnough (without (evicted_until (fits (low state) bytes more) state covered) state)
    unfolding evicted_until
    evicted-enough under = ⊎_elim
        (λ (e : fits (low state) bytes more (without (shortest (λ groups. fits (low state) bytes more (without groups state)) [] all) state) ≡ true).
        fits-facts (low state) (without (shortest (λ groups. fits (low state) bytes more (without groups state)) [] all) state) (limits-without state (shortest (λ groups. fits (low state) bytes more (without groups state)) [] all)) low-less e)
        (λ (e : shortest (λ groups. fits (low state) bytes more (without groups state)) [] all ≡ [] ++ all). subst (λ (groups : List Group). HasEnough (without groups state)) (sym e)
        (let first : nat_lt state.limits.max_bytes (total_of (pinned state covered) + bytes) ≡ false = (or_parts (nat_lt state.limits.max_bytes (total_of (pinned state covered) + bytes)) (nat_lt state.limits.max_items (count_of (pinned state covered) + more)) under).0 in
        let second : nat_lt state.limits.max_items (count_of (pinned state covered) + more) ≡ false = (or_parts (nat_lt state.limits.max_bytes (total_of (pinned state covered) + bytes)) (nat_lt state.limits.max_items (count_of (pinned state covered) + more)) under).1 in
        let one : total_of (pinned state covered) + bytes ≤ state.limits.max_bytes = grind (arith, nat_tests) in
        let two : count_of (pinned state covered) + more ≤ state.limits.max_items = grind (arith, nat_tests) in
        let bytes-left : total (without all state) ≡ total_of (pinned state covered) = ap total_of objects-left in
        let items-left : items (without all state) ≡ count_of (pinned state covered) = ap count_of objects-left in
        record { within = omega (arith, one, bytes-left); few = omega (arith, two, items-left) }))
        (shortest-ends (λ groups. fits (low state) bytes more (without groups state)) [] all)

    abbrev over : Bool
    over = nat_lt state.limits.max_bytes (total_of (pinned state covered) + bytes) || nat_lt state.limits.max_items (count_of (pinned state covered) + more)

    abbrev fit : Bool
    fit = fits state.limits.max_bytes bytes more state

    abbrev gone : List Group
    gone = evicted_until (fits (low state) bytes more) state covered

    by-tests : (o f : Bool) → over ≡ o → fit ≡ f → is_full (decided false o f gone) ≡ false → HasEnough (without (evicted_for (decided false o f gone)) state)
    by-tests true f is-over is-fit free = absurd (clash free)
    by-tests false true is-over is-fit free = fits-facts state.limits.max_bytes (without [] state) (limits-without state []) (omega arith) (ap (fits state.limits.max_bytes bytes more) (none-without state) ∙ is-fit)
    by-tests false false is-over is-fit free = evicted-enough is-over

    room-is : room state covered bytes more ≡ decided (bytes == 0 && more == 0) over fit gone
    unfolding room
    room-is = refl

    pub room-enough : (bytes == 0 && more == 0) ≡ false → is_full (room state covered bytes more) ≡ false → HasEnough (without (evicted_for (room state covered bytes more)) state)
    room-enough some free =
        let is : room state covered bytes more ≡ decided false over fit gone = room-is ∙ ap (λ (b : Bool). decided b over fit gone) some in
        subst (λ (r : Room). HasEnough (without (evicted_for r) state)) (sym is) (by-tests over fit refl refl (sym (ap is_full is) ∙ free))

-- ---- a Create

pub wants-one : CreatesWantRoomForOneItem
unfolding room_for effect
wants-one state moment handle key =
    let bytes = total-after state handle key in
    let more = items-after state handle key in
    ap₂ (λ (b m : ℕ). room state [] b m) (let e : total (created handle key state) - total state ≡ length key = omega (arith, bytes) in e) (let e : items (created handle key state) - items state ≡ 1 = omega (arith, more) in e)

-- a Create that isn't refused finds space
pub finds-room : (state : State) (moment handle : ℕ) (key : List ℕ) → refused moment (to_create handle key) state ≡ None → is_full (room_for moment (to_create handle key) state) ≡ false
unfolding refusals
finds-room state moment handle key passes = let p = none_comes (refusals moment (to_create handle key) state) passes in p.1.1.1.1.0

evicted-for : (state : State) (moment handle : ℕ) (key : List ℕ) → evicted moment (to_create handle key) state ≡ evicted_for (room_for moment (to_create handle key) state)
unfolding evicted
evicted-for state moment handle key = refl

pub have-room : CreatesHaveRoom
have-room state moment handle key valid most can passes =
    let wants = wants-one state moment handle key in
    let enough : HasEnough state valid [] (length key) 1 (without (evicted_for (room state [] (length key) 1)) state) =
    room-enough state valid [] (length key) 1 (and_right (length key == 0) false refl) (sym (ap is_full wants) ∙ finds-room state moment handle key passes) in
    let here : HasEnough state valid [] (length key) 1 (with_room state moment (to_create handle key)) =
    subst (λ (groups : List Group). HasEnough state valid [] (length key) 1 (without groups state)) (sym (evicted-for state moment handle key ∙ ap evicted_for wants)) enough in
    let few = here.few in
    let within = here.within in
    let limit : (with_room state moment (to_create handle key)).limits.max_bytes ≡ state.limits.max_bytes = ap (λ (l : Bounds). l.max_bytes) (limits-without state (evicted moment (to_create handle key) state)) in
    record {
      can = creates-can state moment handle key valid can passes (omega (arith, few, most));
      room = omega (arith, within, limit);
    }
