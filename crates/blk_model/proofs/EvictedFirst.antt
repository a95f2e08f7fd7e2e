-- What a command evicts is removed first: what stays of the rest is what stays of the whole.
use Rattle.std.proofs.Common.{◌≡◌, ℕ, zero, suc, ◌+◌, ◌≤◌, Bool, true, false, not, ◌&&◌, ◌||◌, cond, List, [], ◌∷◌, ◌++◌, Some, None, Option, refl, ap, sym, ◌∙◌, subst, arith, length, map, take, ◌⊎◌, inl, inr, ⊎_elim, append_assoc, length-append}
use Rattle.std.specs.List.{filter, filter_map, cons_option, list_any, AllByRecursion}
use Rattle.std.specs.Option.{option_and_then, option_map}
use Rattle.std.specs.Str.{bytes_eq}
use Rattle.std.specs.Prelude.{◌==◌}
use Rattle.std.proofs.lemmas.Bool.{cases_Bool, or_parts, or_left, or_right, eq-eqb, eqb-true, not-false}
use Rattle.blk_model.specs.Items.{Item, main, part, Row, PartValue, part_row, key_of, same_item}
use Rattle.blk_model.specs.State.{Object, State, IsValidState, object_at, part_at, has_item, slot_has_item, first_with, live_with}
use Rattle.blk_model.specs.Holding.{row_in, owner, settled_row, rest}
use Rattle.blk_model.specs.Sparse.{covered_parts}
use Rattle.blk_model.specs.Request.{Request, to_create, to_open, to_read, to_write, to_size, to_sparse_write, to_sparse_read, to_sparse_range, to_doom, to_doom_key, to_close, to_flush, to_list, to_trim, to_total}
use Rattle.blk_model.specs.Room.{Group, whole, single, takes, is_out, is_pinned, left_of, parts_among, not_out, without}
use Rattle.blk_model.specs.Refusals.{refused, refusals, evicted, covered, names_none}
use Rattle.blk_model.specs.Effects.{object_of, used}
use Rattle.blk_model.specs.Step.{step}
use Rattle.blk_model.specs.ListSteps.{ListStep, out, front, after_steps, doom_steps, dooms, uses_of, steps_unless, list_steps, list_after}
use Rattle.blk_model.specs.Stops.{is_live, is_live_and_settled, is_safe, is_turned, pick, picked, StopOutcome}
use Rattle.blk_model.specs.EvictionLaws.{later_steps, EvictsFirst, LaterOutcome, EvictionsMayStop, EvictionsComeFirst, RestsOfCommandsAreOfThem}
use Rattle.blk_model.proofs.Same.{one_item, same_item_self}
use Rattle.blk_model.proofs.States.{named_object, none_of}
use Rattle.blk_model.proofs.Each.{any_has}
use Rattle.blk_model.proofs.Steps.{none_comes, room_for_is_loose}
use Rattle.blk_model.proofs.Evicted.{IsLoose, kept_parts, kept_part_at, left_slot_has, map_at, named_stays}
use Rattle.blk_model.proofs.LruList.{after_steps-append, outs, without_uses}
use Rattle.blk_model.proofs.StopRests.{picked_before, owner_key}
use Rattle.blk_model.proofs.Leads.{may_settle, step_leads}
use Rattle.blk_model.proofs.Chosen.{Owner, owner_of, picked_chooses, settled_chooses, stays_through}

-- Evictions leave who has an item that isn't out.

left_first : (groups : List Group) (item : Item) (start : ℕ) (slots : List (Option Object)) → is_out groups item ≡ false → first_with item start (map (option_and_then (left_of groups)) slots) ≡ first_with item start slots
left_first groups item start [] stays = refl
left_first groups item start (slot ∷ slots) stays =
    let here : slot_has_item item (option_and_then (left_of groups) slot) ≡ slot_has_item item slot = left_slot_has groups item slot ∙ ap (λ b. cond b false (slot_has_item item slot)) stays in
    ap (λ b. cond b (Some start) (first_with item (start + 1) (map (option_and_then (left_of groups)) slots))) here
    ∙ ap (cond (slot_has_item item slot) (Some start)) (left_first groups item (start + 1) slots stays)

-- an item that no object has no object has afterwards
left_none : (groups : List Group) (item : Item) (start : ℕ) (slots : List (Option Object)) → first_with item start slots ≡ None → first_with item start (map (option_and_then (left_of groups)) slots) ≡ None
left_none groups item start [] none = refl
left_none groups item start (slot ∷ slots) none = go (slot_has_item item slot) refl none (left_none groups item (start + 1) slots) where
  either : (b : Bool) → cond b false false ≡ false
  either true = refl
  either false = refl

  go : (b : Bool) → slot_has_item item slot ≡ b → cond b (Some start) (first_with item (start + 1) slots) ≡ None → (first_with item (start + 1) slots ≡ None → first_with item (start + 1) (map (option_and_then (left_of groups)) slots) ≡ None)
      → cond (slot_has_item item (option_and_then (left_of groups) slot)) (Some start) (first_with item (start + 1) (map (option_and_then (left_of groups)) slots)) ≡ None
  go true has e more = cc
  go false has e more =
      let here : slot_has_item item (option_and_then (left_of groups) slot) ≡ false = left_slot_has groups item slot ∙ ap (λ b. cond (is_out groups item) false b) has ∙ either (is_out groups item) in
      ap (λ b. cond b (Some start) (first_with item (start + 1) (map (option_and_then (left_of groups)) slots))) here ∙ more e

-- what the eviction units leave of an object with an item that isn't out
left_is : (groups : List Group) (item : Item) (object : Object) → is_out groups item ≡ false → has_item object item ≡ true → left_of groups object ≡ Some (record object { parts = kept_parts groups object })
unfolding left_of
left_is groups item object stays has = go (object.live && is_out groups (main object.key)) refl (left_slot_has groups item (Some object) ∙ ap (λ b. cond b false (has_item object item)) stays ∙ has) where
  go : (b : Bool) → (object.live && is_out groups (main object.key)) ≡ b → slot_has_item item (cond (object.live && is_out groups (main object.key)) None (Some (record object { parts = kept_parts groups object }))) ≡ true
      → cond b None (Some (record object { parts = kept_parts groups object })) ≡ Some (record object { parts = kept_parts groups object })
  go true e h = absurd (let c : false ≡ true = sym (ap (λ b. slot_has_item item (cond b None (Some (record object { parts = kept_parts groups object })))) e) ∙ h in cc)
  go false e h = refl

left_row : (groups : List Group) (item : Item) (object : Object) → is_out groups item ≡ false → key_of item ≡ object.key → row_in (record object { parts = kept_parts groups object }) item ≡ row_in object item
left_row groups (main key) object stays own = refl
left_row groups (part key n) object stays own =
    let out_not : is_out groups (part object.key n) ≡ false = subst (λ k. is_out groups (part k n) ≡ false) own stays in
    ap (option_map (λ (value : PartValue). part_row key n value)) (kept_part_at groups object n ∙ ap (λ b. cond (not b) (part_at object n) None) out_not)

-- Without the eviction units.

module _ (state : State) (group : Group) (groups : List Group) where
  left_owner : (item : Item) → is_out (group ∷ groups) item ≡ false → owner (without (group ∷ groups) state) item ≡ owner state item
  unfolding without
  left_owner item stays = left_first (group ∷ groups) item 0 state.objects stays

  pub left_nobody : (item : Item) → owner state item ≡ None → owner (without (group ∷ groups) state) item ≡ None
  unfolding without
  left_nobody item none = left_none (group ∷ groups) item 0 state.objects none

  left_object : (item : Item) (o : Owner state item) → is_out (group ∷ groups) item ≡ false → object_at (without (group ∷ groups) state) o.number ≡ Some (record o.object { parts = kept_parts (group ∷ groups) o.object })
  unfolding without
  left_object item o stays = map_at (left_of (group ∷ groups)) state.objects o.number ∙ ap (option_and_then (left_of (group ∷ groups))) o.here ∙ left_is (group ∷ groups) item o.object stays o.has

  left_has : (item : Item) (o : Owner state item) → has_item (record o.object { parts = kept_parts (group ∷ groups) o.object }) item ≡ has_item o.object item → is_out (group ∷ groups) item ≡ false → Owner (without (group ∷ groups) state) item
  left_has item o has stays = record {
    number = o.number;
    object = record o.object { parts = kept_parts (group ∷ groups) o.object };
    found = left_owner item stays ∙ o.found;
    here = left_object item o stays;
    has = has ∙ o.has;
  }

  has_same : (item : Item) (o : Owner state item) → is_out (group ∷ groups) item ≡ false → has_item (record o.object { parts = kept_parts (group ∷ groups) o.object }) item ≡ has_item o.object item
  has_same item o stays =
      ap (slot_has_item item) (sym (left_is (group ∷ groups) item o.object stays o.has)) ∙ left_slot_has (group ∷ groups) item (Some o.object) ∙ ap (λ b. cond b false (has_item o.object item)) stays

  -- the tests of a crash on its object are the same
  stays_same : (after : State) (with : Bool) (item : Item) (o : Owner state item) → is_out (group ∷ groups) item ≡ false → stays_through (without (group ∷ groups) state) after with o.number ≡ stays_through state after with o.number
  unfolding is_safe is_turned
  stays_same after with item o stays =
      let a : is_live_and_settled (object_at (without (group ∷ groups) state) o.number) ≡ is_live_and_settled (object_at state o.number) = ap is_live_and_settled (left_object item o stays) ∙ sym (ap is_live_and_settled o.here) in
      let b : is_live (object_at (without (group ∷ groups) state) o.number) ≡ is_live (object_at state o.number) = ap is_live (left_object item o stays) ∙ sym (ap is_live o.here) in
      rw (a, b) refl

  row_same : (item : Item) (o : Owner state item) → is_out (group ∷ groups) item ≡ false → row_in (record o.object { parts = kept_parts (group ∷ groups) o.object }) item ≡ row_in o.object item
  row_same item o stays = left_row (group ∷ groups) item o.object stays (owner_key o.object item o.has)

  -- an item that isn't out stays through a crash as it did
  picked_left : (after : State) (with : Bool) (item : Item) → is_out (group ∷ groups) item ≡ false → picked (without (group ∷ groups) state) after with item ≡ picked state after with item
  unfolding left_has picked
  picked_left after with item stays = go (owner state item) refl where
    go : (w : Option ℕ) → owner state item ≡ w → picked (without (group ∷ groups) state) after with item ≡ picked state after with item
    go None e = (picked_chooses (without (group ∷ groups) state) after with).nobody item (left_nobody item e) ∙ sym ((picked_chooses state after with).nobody item e)
    go (Some m) e =
        let o = owner_of state item m e in
        let l = left_has item o (has_same item o stays) stays in
        (picked_chooses (without (group ∷ groups) state) after with).somebody item l
        ∙ ap (λ b. cond b (row_in (record o.object { parts = kept_parts (group ∷ groups) o.object }) item) None) (stays_same after with item o stays)
        ∙ ap (λ r. cond (stays_through state after with o.number) r None) (row_same item o stays)
        ∙ sym ((picked_chooses state after with).somebody item o)

  -- an item that isn't out is durable as it was
  pub settled_left : (item : Item) → is_out (group ∷ groups) item ≡ false → settled_row (without (group ∷ groups) state) item ≡ settled_row state item
  unfolding left_has settled_row
  settled_left item stays = go (owner state item) refl where
    go : (w : Option ℕ) → owner state item ≡ w → settled_row (without (group ∷ groups) state) item ≡ settled_row state item
    go None e = (settled_chooses (without (group ∷ groups) state)).nobody item (left_nobody item e) ∙ sym ((settled_chooses state).nobody item e)
    go (Some m) e =
        let o = owner_of state item m e in
        let l = left_has item o (has_same item o stays) stays in
        (settled_chooses (without (group ∷ groups) state)).somebody item l
        ∙ ap (λ r. cond o.object.settled r None) (row_same item o stays)
        ∙ sym ((settled_chooses state).somebody item o)

-- Items that stay, or that no object has.

abbrev pub StaysOrNobody : State → List Group → Item → Type 0
StaysOrNobody state groups item = (is_out groups item ≡ false) ⊎ (owner state item ≡ None)

picked_either : (state : State) (groups : List Group) (after : State) (with : Bool) (item : Item) → StaysOrNobody state groups item → picked (without groups state) after with item ≡ picked state after with item
unfolding without
picked_either state [] after with item either = refl
picked_either state (group ∷ groups) after with item (inl stays) = picked_left state group groups after with item stays
picked_either state (group ∷ groups) after with item (inr none) = (picked_chooses (without (group ∷ groups) state) after with).nobody item (left_nobody state group groups item none) ∙ sym ((picked_chooses state after with).nobody item none)

pub each_same : (f g : Item → Option Row) (P : Item → Type 0) (list : List Item) → ((item : Item) → P item → f item ≡ g item) → AllByRecursion P list → filter_map f list ≡ filter_map g list
each_same f g P [] same each = refl
each_same f g P (i ∷ list) same each = ap (λ o. cons_option o (filter_map f list)) (same i each.0) ∙ ap (cons_option (g i)) (each_same f g P list same each.1)

each_filtered : (P : Item → Type 0) (test : Item → Bool) (list : List Item) → AllByRecursion P list → AllByRecursion P (filter test list)
each_filtered P test [] each = tt
each_filtered P test (i ∷ list) each = go (test i) (each_filtered P test list each.1) where
  go : (b : Bool) → AllByRecursion P (filter test list) → AllByRecursion P (cond b (i ∷ filter test list) (filter test list))
  go true more = (each.0, more)
  go false more = more

-- what isn't out
each_left : (state : State) (groups : List Group) (list : List Item) → AllByRecursion (StaysOrNobody state groups) (not_out groups list)
each_left state groups [] = tt
each_left state groups (i ∷ list) = go (is_out groups i) refl (each_left state groups list) where
  go : (b : Bool) → is_out groups i ≡ b → AllByRecursion (StaysOrNobody state groups) (not_out groups list) → AllByRecursion (StaysOrNobody state groups) (cond (not b) (i ∷ not_out groups list) (not_out groups list))
  go true e more = more
  go false e more = (inl e, more)

-- the items that steps put in front
abbrev AllFronts : (Item → Type 0) → List ListStep → Type 0
AllFronts P [] = Unit {0}
AllFronts P (out group ∷ steps) = AllFronts P steps
AllFronts P (front item ∷ steps) = P item × AllFronts P steps

each_after : (P : Item → Type 0) (steps : List ListStep) (list : List Item) → AllFronts P steps → AllByRecursion P list → AllByRecursion P (after_steps steps list)
each_after P [] list fronts each = each
each_after P (out group ∷ steps) list fronts each = each_after P steps (filter (λ item. not (takes item group)) list) fronts (each_filtered P (λ item. not (takes item group)) list each)
each_after P (front item ∷ steps) list fronts each = each_after P steps (used item list) fronts.1 (fronts.0, each_filtered P (λ other. not (same_item item other)) list each)

fronts_take : (P : Item → Type 0) (n : ℕ) (steps : List ListStep) → AllFronts P steps → AllFronts P (take n steps)
fronts_take P zero steps all = tt
fronts_take P (suc n) [] all = tt
fronts_take P (suc n) (out group ∷ steps) all = fronts_take P n steps all
fronts_take P (suc n) (front item ∷ steps) all = (all.0, fronts_take P n steps all.1)

fronts_append : (P : Item → Type 0) (a b : List ListStep) → AllFronts P a → AllFronts P b → AllFronts P (a ++ b)
fronts_append P [] b first second = second
fronts_append P (out group ∷ a) b first second = fronts_append P a b first second
fronts_append P (front item ∷ a) b first second = (first.0, fronts_append P a b first.1 second)

fronts_outs : (P : Item → Type 0) (groups : List Group) → AllFronts P (map out groups)
fronts_outs P [] = tt
fronts_outs P (group ∷ groups) = fronts_outs P groups

fronts_of : (P : Item → Type 0) (list : List Item) → AllByRecursion P list → AllFronts P (map front list)
fronts_of P [] each = tt
fronts_of P (i ∷ list) each = (each.0, fronts_of P list each.1)

fronts_doom : (P : Item → Type 0) (state : State) (slot : Option Object) → AllFronts P (doom_steps state slot)
unfolding doom_steps
fronts_doom P state None = tt
fronts_doom P state (Some object) = go object.live where
  go : (b : Bool) → AllFronts P (cond b (out (whole object.key (parts_among object.key state.uses)) ∷ []) [])
  go true = tt
  go false = tt

fronts_dooms : (P : Item → Type 0) (request : Request) (state : State) → AllFronts P (dooms request state)
unfolding dooms
fronts_dooms P (to_doom handle) state = fronts_doom P state _
fronts_dooms P (to_doom_key key) state = fronts_doom P state _
fronts_dooms P (to_create handle key) state = tt
fronts_dooms P (to_open handle key) state = tt
fronts_dooms P (to_read handle stream offset count) state = tt
fronts_dooms P (to_write handle stream offset cut bytes) state = tt
fronts_dooms P (to_size handle stream) state = tt
fronts_dooms P (to_sparse_write handle offset bytes) state = tt
fronts_dooms P (to_sparse_read handle offset count) state = tt
fronts_dooms P (to_sparse_range handle offset count) state = tt
fronts_dooms P (to_close handle) state = tt
fronts_dooms P (to_flush handle) state = tt
fronts_dooms P to_list state = tt
fronts_dooms P (to_trim bytes) state = tt
fronts_dooms P to_total state = tt

-- What a command accesses stays, or no object has it.

loose_prefix : (stays : Item → Bool) (first others : List Group) → AllByRecursion (IsLoose stays) (first ++ others) → AllByRecursion (IsLoose stays) first
loose_prefix stays [] others all = tt
loose_prefix stays (group ∷ first) others all = (all.0, loose_prefix stays first others all.1)

-- a part is evicted alone, or with its main item
loose_part : (stays : Item → Bool) (groups : List Group) (key : List ℕ) (n : ℕ) → AllByRecursion (IsLoose stays) groups → is_out groups (main key) ≡ false → stays (part key n) ≡ true → is_out groups (part key n) ≡ false
loose_part stays [] key n all main_stays pinned = refl
loose_part stays (whole other parts ∷ groups) key n all main_stays pinned =
    let p = or_parts (bytes_eq other key) (is_out groups (main key)) main_stays in
    ap (λ b. b || is_out groups (part key n)) p.0 ∙ loose_part stays groups key n all.1 p.1 pinned
loose_part stays (single other m ∷ groups) key n all main_stays pinned =
    ⊎_elim
    (λ (e : same_item (part other m) (part key n) ≡ true).
    let c : stays (part key n) ≡ false = subst (λ (i : Item). stays i ≡ false) (one_item (part other m) (part key n) e) all.0 in
    absurd (let z : true ≡ false = sym pinned ∙ c in cc))
    (λ (e : same_item (part other m) (part key n) ≡ false). ap (λ b. b || is_out groups (part key n)) e ∙ loose_part stays groups key n all.1 main_stays pinned)
    (cases_Bool (same_item (part other m) (part key n)))

live_stays : (live gone : Bool) → (live && gone) ≡ false → live ≡ true → gone ≡ false
live_stays true gone e h = e
live_stays false gone e h = cc

module _ (state : State) (valid : IsValidState state) (moment : ℕ) (first others : List Group) where
  -- the main item of a handle's live object
  handle_stays : (covers : List Item) (handle : ℕ) → AllByRecursion (IsLoose (is_pinned state covers)) first → names_none state handle ≡ false → (object_of state handle).live ≡ true → is_out first (main (object_of state handle).key) ≡ false
  handle_stays covers handle loose bound live =
      let named = named_object state valid handle bound in
      let stays = named_stays state valid covers first loose named.number named.object named.here (any_has state.names handle named.number named.by_name) in
      let alive : named.object.live ≡ true = ap (λ (o : Object). o.live) (sym named.object_is) ∙ live in
      subst (λ (o : Object). is_out first (main o.key) ≡ false) (sym named.object_is) (live_stays named.object.live (is_out first (main named.object.key)) stays alive)

  parts_stay : (stays : Item → Bool) (key : List ℕ) (ns : List ℕ) → AllByRecursion (IsLoose stays) first → is_out first (main key) ≡ false → ((n : ℕ) → list_any (λ m. m == n) ns ≡ true → stays (part key n) ≡ true) → AllByRecursion (StaysOrNobody state first) (map (part key) ns)
  parts_stay stays key [] loose main_stays pinned = tt
  parts_stay stays key (n ∷ ns) loose main_stays pinned = (
    inl (loose_part stays first key n loose main_stays (pinned n (or_left (n == n) (list_any (λ m. m == n) ns) (eq-eqb n n refl)))),
    parts_stay stays key ns loose main_stays (λ k h. pinned k (or_right (n == k) (list_any (λ m. m == k) ns) h)),
  )

  covers-part : (key : List ℕ) (ns : List ℕ) (n : ℕ) → list_any (λ m. m == n) ns ≡ true → list_any (same_item (part key n)) (map (part key) ns) ≡ true
  covers-part key [] n h = h
  covers-part key (m ∷ ns) n h = ⊎_elim
      (λ (e : (m == n) ≡ true). or_left (same_item (part key n) (part key m)) (list_any (same_item (part key n)) (map (part key) ns)) (subst (λ (k : ℕ). same_item (part key n) (part key k) ≡ true) (sym (eqb-true m n e)) (same_item_self (part key n))))
      (λ (e : (m == n) ≡ false). or_right (same_item (part key n) (part key m)) (list_any (same_item (part key n)) (map (part key) ns)) (covers-part key ns n (rw e at h)))
      (cases_Bool (m == n))

  -- where nothing is evicted
  none_out : first ++ others ≡ [] → (list : List Item) → AllByRecursion (StaysOrNobody state first) list
  none_out none list = subst (λ (gs : List Group). AllByRecursion (StaysOrNobody state gs) list) (sym (prefix-none first others none)) (all list) where
    prefix-none : (first others : List Group) → first ++ others ≡ [] → first ≡ []
    prefix-none [] others e = refl
    prefix-none (g ∷ first) others e = cc

    all : (list : List Item) → AllByRecursion (StaysOrNobody state []) list
    all [] = tt
    all (i ∷ list) = (inl refl, all list)

  uses_stay : (request : Request) → refused moment request state ≡ None → evicted moment request state ≡ first ++ others → AllByRecursion (StaysOrNobody state first) (uses_of request state)
  unfolding uses_of evicted refusals
  uses_stay (to_create handle key) passed groups =
      let p = none_comes (refusals moment (to_create handle key) state) passed in
      (inr (none_of (live_with state key) p.1.1.1.0), tt)
  uses_stay (to_write handle stream offset cut bytes) passed groups =
      let request = to_write handle stream offset cut bytes in
      let p = none_comes (refusals moment request state) passed in
      let loose = loose_prefix (is_pinned state []) first others (subst (AllByRecursion (IsLoose (is_pinned state []))) groups (room_for_is_loose moment request state)) in
      go (object_of state handle).live refl loose p.0 where
        go : (b : Bool) → (object_of state handle).live ≡ b → AllByRecursion (IsLoose (is_pinned state [])) first → names_none state handle ≡ false → AllByRecursion (StaysOrNobody state first) (cond b (main (object_of state handle).key ∷ []) [])
        go true live loose bound = (inl (handle_stays [] handle loose bound live), tt)
        go false live loose bound = tt
  uses_stay (to_sparse_write handle offset bytes) passed groups =
      let request = to_sparse_write handle offset bytes in
      let p = none_comes (refusals moment request state) passed in
      let covers = covered request state in
      let loose = loose_prefix (is_pinned state covers) first others (subst (AllByRecursion (IsLoose (is_pinned state covers))) groups (room_for_is_loose moment request state)) in
      let live : (object_of state handle).live ≡ true = not-false _ p.1.1.1.0 in
      let stays = handle_stays covers handle loose p.0 live in
      (inl stays, parts_stay (is_pinned state covers) (object_of state handle).key (covered_parts offset (length bytes)) loose stays (λ n h. covers-part (object_of state handle).key (covered_parts offset (length bytes)) n h))
  uses_stay (to_trim bytes) passed groups = tt
  uses_stay (to_open handle key) passed groups = none_out (sym groups) (uses_of (to_open handle key) state)
  uses_stay (to_read handle stream offset count) passed groups = none_out (sym groups) (uses_of (to_read handle stream offset count) state)
  uses_stay (to_size handle stream) passed groups = none_out (sym groups) (uses_of (to_size handle stream) state)
  uses_stay (to_sparse_read handle offset count) passed groups = none_out (sym groups) (uses_of (to_sparse_read handle offset count) state)
  uses_stay (to_sparse_range handle offset count) passed groups = none_out (sym groups) (uses_of (to_sparse_range handle offset count) state)
  uses_stay (to_doom handle) passed groups = none_out (sym groups) (uses_of (to_doom handle) state)
  uses_stay (to_doom_key key) passed groups = none_out (sym groups) (uses_of (to_doom_key key) state)
  uses_stay (to_close handle) passed groups = none_out (sym groups) (uses_of (to_close handle) state)
  uses_stay (to_flush handle) passed groups = none_out (sym groups) (uses_of (to_flush handle) state)
  uses_stay to_list passed groups = none_out (sym groups) (uses_of to_list state)
  uses_stay to_total passed groups = none_out (sym groups) (uses_of to_total state)

-- Together.

take_behind : (a b : List ListStep) (n : ℕ) → take (length a + n) (a ++ b) ≡ a ++ take n b
take_behind [] b n = ap (λ (k : ℕ). take k b) (let e : 0 + n ≡ n = omega arith in e)
take_behind (x ∷ a) b n = ap (λ (k : ℕ). take k (x ∷ a ++ b)) (let e : suc (length a) + n ≡ suc (length a + n) = omega arith in e) ∙ ap (λ (l : List ListStep). x ∷ l) (take_behind a b n)

map-append : (a b : List Group) → map out (a ++ b) ≡ map out a ++ map out b
map-append [] b = refl
map-append (x ∷ a) b = ap (λ (l : List ListStep). out x ∷ l) (map-append a b)

length-map-out : (a : List Group) → length (map out a) ≡ length a
length-map-out [] = refl
length-map-out (x ∷ a) = ap suc (length-map-out a)

module _ (state : State) (moment : ℕ) (request : Request) (first others : List Group) (valid : IsValidState state) (is : EvictsFirst state moment request first others) where
  steps-are : list_steps state moment request ≡ map out first ++ later_steps state request others
  unfolding list_steps steps_unless
  steps-are = rw (is.passes, is.groups) (ap (λ (l : List ListStep). l ++ dooms request state ++ map front (uses_of request state)) (map-append first others) ∙ regroup (map out first) (map out others) (dooms request state) (map front (uses_of request state))) where
    regroup : (a b c d : List ListStep) → (a ++ b) ++ c ++ d ≡ a ++ (b ++ c ++ d)
    regroup a b c d = ap (λ (l : List ListStep). l ++ d) (append_assoc a b c) ∙ append_assoc a (b ++ c) d

  pub after-first : (n : ℕ) → list_after state moment request (length first + n) ≡ after_steps (take n (later_steps state request others)) (without first state).uses
  unfolding list_after
  after-first n =
      ap (λ (l : List ListStep). after_steps (take (length first + n) l) state.uses) steps-are
      ∙ ap (λ (k : ℕ). after_steps (take (k + n) (map out first ++ later_steps state request others)) state.uses) (sym (length-map-out first))
      ∙ ap (λ (l : List ListStep). after_steps l state.uses) (take_behind (map out first) (later_steps state request others) n)
      ∙ after_steps-append (map out first) (take n (later_steps state request others)) state.uses
      ∙ ap (after_steps (take n (later_steps state request others))) (outs first state.uses ∙ without_uses first state)

  pub each-stays : (n : ℕ) → AllByRecursion (StaysOrNobody state first) (after_steps (take n (later_steps state request others)) (without first state).uses)
  each-stays n =
      let P : Item → Type 0 = StaysOrNobody state first in
      let fronts : AllFronts P (later_steps state request others) = fronts_append P (map out others ++ dooms request state) (map front (uses_of request state)) (fronts_append P (map out others) (dooms request state) (fronts_outs P others) (fronts_dooms P request state))
      (fronts_of P (uses_of request state) (uses_stay state valid moment first others request is.passes is.groups)) in
      each_after P (take n (later_steps state request others)) (without first state).uses (fronts_take P n (later_steps state request others) fronts)
      (subst (AllByRecursion P) (without_uses first state) (each_left state first state.uses))

  pub long : length (list_steps state moment request) ≡ length first + length (later_steps state request others)
  long = ap length steps-are ∙ length-append (map out first) (later_steps state request others) ∙ ap (λ (k : ℕ). k + length (later_steps state request others)) (length-map-out first)

  later : (held : List Row) → LaterOutcome state moment request first others held → StopOutcome state moment request (step state moment request).state held
  unfolding pick
  later held o = record {
    step_count = length first + o.step_count;
    within = let a = o.within in omega (arith, a, long);
    with_turned = o.with_turned;
    picked_rows = o.picked_rows
        ∙ each_same (picked (without first state) (step state moment request).state o.with_turned) (picked state (step state moment request).state o.with_turned) (StaysOrNobody state first) _ (λ item either. picked_either state first (step state moment request).state o.with_turned item either) (each-stays o.step_count)
        ∙ ap (filter_map (picked state (step state moment request).state o.with_turned)) (sym (after-first o.step_count));
  }

  settled-either : (item : Item) → is_out first item ≡ false → settled_row (without first state) item ≡ settled_row state item
  settled-either item stays = go first refl stays where
    go : (gs : List Group) → first ≡ gs → is_out gs item ≡ false → settled_row (without first state) item ≡ settled_row state item
    go [] e h = ap (λ (gs : List Group). settled_row (without gs state) item) e ∙ (unfold without in refl)
    go (g ∷ gs) e h = ap (λ (all : List Group). settled_row (without all state) item) e ∙ settled_left state g gs item h

  each-in : (list : List Item) → AllByRecursion (λ (item : Item). is_out first item ≡ false) (not_out first list)
  each-in [] = tt
  each-in (i ∷ list) = go (is_out first i) refl (each-in list) where
    go : (b : Bool) → is_out first i ≡ b → AllByRecursion (λ (item : Item). is_out first item ≡ false) (not_out first list) → AllByRecursion (λ (item : Item). is_out first item ≡ false) (cond (not b) (i ∷ not_out first list) (not_out first list))
    go true e more = more
    go false e more = (e, more)

  evicting : StopOutcome state moment request (step state moment request).state (rest (without first state))
  unfolding rest pick
  evicting =
      let closes = may_settle request in
      let after = (step state moment request).state in
      record {
        step_count = length first + 0;
        within = omega (arith, long);
        with_turned = not closes;
        picked_rows = ap (filter_map (settled_row (without first state))) (sym (without_uses first state))
            ∙ each_same (settled_row (without first state)) (picked state after (not closes)) (λ (item : Item). is_out first item ≡ false) (not_out first state.uses)
            (λ item stays. settled-either item stays ∙ sym (picked_before state after closes (step_leads state valid moment request) item)) (each-in state.uses)
            ∙ ap (filter_map (picked state after (not closes))) (without_uses first state ∙ sym (after-first 0));
      }

pub evictions-stop : EvictionsMayStop
evictions-stop state moment request first others valid is = evicting state moment request first others valid is

pub evictions-first : EvictionsComeFirst
evictions-first state moment request first others held valid is o = later state moment request first others valid is held o

pub rests-of : RestsOfCommandsAreOfThem
unfolding list_after
rests-of state moment request first others held valid is steps ends o =
    later state moment request first others valid is held (record {
      step_count = o.step_count;
      within = subst (λ (l : List ListStep). o.step_count ≤ length l) steps o.within;
      with_turned = o.with_turned;
      picked_rows = o.picked_rows
          ∙ ap (λ (after : State). pick (without first state) after o.with_turned (after_steps (take o.step_count (list_steps (without first state) moment request)) (without first state).uses)) ends
          ∙ ap (λ (l : List ListStep). pick (without first state) (step state moment request).state o.with_turned (after_steps (take o.step_count l) (without first state).uses)) steps;
    })
