-- Where a command crashes in a valid state, the items of an object are found together, and none of an object that it makes.
use Rattle.std.proofs.Common.{ℕ, zero, suc, ◌≤◌, ◌≡◌, ◌⊎◌, inl, inr, ⊎_elim, Bool, true, false, not, ◌&&◌, ◌||◌, cond, List, [], ◌∷◌, ◌++◌, length, map, take, Option, None, Some, is_some, refl, sym, ◌∙◌, ap, subst, arith}
use Rattle.std.specs.List.{AllByRecursion, Contains, list_any}
use Rattle.std.specs.Str.{bytes_eq}
use Rattle.std.proofs.lemmas.Bool.{and_parts, cases_Bool, not-false, or_parts}
use Rattle.blk_model.specs.declared.Refusal.{Refusal}
use Rattle.blk_model.specs.Effects.{number_of, object_of, used}
use Rattle.blk_model.specs.Holding.{owner}
use Rattle.blk_model.specs.Items.{Item, main, part, item_of, key_of, same_item, times}
use Rattle.blk_model.specs.ListSteps.{ListStep, out, front, after_step, after_steps, doom_steps, dooms, list_after, list_steps, object_for, steps_unless, uses_of}
use Rattle.blk_model.specs.Refusals.{covered, evicted, names_none, refusals, refused}
use Rattle.blk_model.specs.Request.{Request, to_create, to_open, to_read, to_write, to_size, to_sparse_write, to_sparse_read, to_sparse_range, to_doom, to_doom_key, to_close, to_flush, to_list, to_trim, to_total}
use Rattle.blk_model.specs.Room.{Group, whole, single, is_out, is_pinned, parts_among, takes}
use Rattle.blk_model.specs.Sparse.{covered_parts}
use Rattle.blk_model.specs.State.{Object, State, IsValidState, has_item, live_with, object_at, owners, slot_has_item}
use Rattle.blk_model.specs.Step.{outcome, step}
use Rattle.blk_model.proofs.Chosen.{Owner, owner_of}
use Rattle.blk_model.proofs.Each.{any_has}
use Rattle.blk_model.proofs.Evicted.{IsLoose, named_stays}
use Rattle.blk_model.proofs.Leads.{IsFresh, Leads, may_settle, step_leads}
use Rattle.blk_model.proofs.LruList.{after_steps-append, outs}
use Rattle.blk_model.proofs.Owners.{has_item_main, owners_main}
use Rattle.blk_model.proofs.Same.{one_item, same_bytes, same_item_self}
use Rattle.blk_model.proofs.Slots.{owners-has}
use Rattle.blk_model.proofs.States.{named_object}
use Rattle.blk_model.proofs.Steps.{none_comes, room_for_is_loose}
use Rattle.blk_model.proofs.Times.{times-cons, times-filter, times-used}
use Rattle.spec_folder.specs.Found.{found}
use Rattle.spec_run.specs.Run.{Stamped, outcome_in, state_then}
use Rattle.spec_run.specs.Laws.{EntriesAreFoundWhole, IsEvictedAlone, NewEntriesAreLost}
use Rattle.spec_run.proofs.CrashedCommands.{crash_leaves, leaves_by, number_same, row_from_before}
use Rattle.spec_run.proofs.ListOrder.{contained_cases, first_contained, later_contained, none_contained}
use Rattle.spec_run.proofs.StepFacts.{true_false}

-- Items in a list.

pub counted : (item : Item) (items : List Item) → Contains items item → 1 ≤ times item items
counted item [] there = none_contained item there
counted item (i ∷ items) there =
    let more = times-cons item i items in
    ⊎_elim
    (λ (same : i ≡ item).
    let one : ◌≡◌ {A = ℕ} (cond (same_item item i) 1 0) 1 = ap (λ (j : Item). cond (same_item item j) 1 0) same ∙ ap (λ (b : Bool). cond b 1 0) (same_item_self item) in
    omega (arith, more, one))
    (λ (later : Contains items item). let rest = counted item items later in omega (arith, more, rest))
    (contained_cases i items item there)

pub contained : (item : Item) (items : List Item) → 1 ≤ times item items → Contains items item
contained item [] some = absurd (omega (arith, some))
contained item (i ∷ items) some =
    let more = times-cons item i items in
    ⊎_elim
    (λ (same : same_item item i ≡ true). subst (λ (j : Item). Contains (j ∷ items) item) (one_item item i same) (first_contained item items))
    (λ (other : same_item item i ≡ false).
    let none : ◌≡◌ {A = ℕ} (cond (same_item item i) 1 0) 0 = ap (λ (b : Bool). cond b 1 0) other in
    later_contained i items item (contained item items (omega (arith, some, more, none))))
    (cases_Bool (same_item item i))

-- an item that somebody has is listed
pub owned_is_listed : (state : State) → IsValidState state → (item : Item) → Owner state item → 1 ≤ times item state.uses
owned_is_listed state valid item o =
    let has = owners-has item o.number state.objects (ap (slot_has_item item) o.here ∙ o.has) in
    let listed = valid.listed item in
    omega (arith, has, listed)

key_is : (object : Object) (item : Item) → has_item object item ≡ true → key_of item ≡ object.key
key_is object item has = same_bytes (key_of item) object.key (and_parts object.live (bytes_eq (key_of item) object.key) (has_item_main item (Some object) has)).1

some_same : (a b : Object) → Some a ≡ Some b → a ≡ b
some_same a b e = cc

-- items of one object have one key
one_key : (state : State) (a b : Item) (n : ℕ) → owner state a ≡ Some n → owner state b ≡ Some n → key_of a ≡ key_of b
one_key state a b n owned owned_too =
    let o = owner_of state a n owned in
    let p = owner_of state b n owned_too in
    let number : o.number ≡ p.number = number_same o.number p.number (sym o.found ∙ owned ∙ sym owned_too ∙ p.found) in
    let object : o.object ≡ p.object = some_same o.object p.object (sym o.here ∙ ap (object_at state) number ∙ p.here) in
    key_is o.object a o.has ∙ ap (λ (x : Object). x.key) object ∙ sym (key_is p.object b p.has)

-- Steps that keep an item with another.

-- a step that takes one item takes the other, and one that brings the other to the front leaves the one
abbrev IsFine : Item → Item → List Item → ListStep → Type 0
IsFine a b items (out group) = takes b group ≡ true → takes a group ≡ true
IsFine a b items (front item) = same_item a item ≡ true → 1 ≤ times b (used item items)

abbrev AreFine : Item → Item → List Item → List ListStep → Type 0
AreFine a b items [] = Unit {0}
AreFine a b items (step ∷ steps) = IsFine a b items step × AreFine a b (after_step items step) steps

-- where the one is listed the other is
abbrev IsWith : Item → Item → List Item → Type 0
IsWith a b items = 1 ≤ times a items → 1 ≤ times b items

out_with : (takes_a takes_b : Bool) (m n : ℕ) → (takes_b ≡ true → takes_a ≡ true) → (1 ≤ m → 1 ≤ n) → 1 ≤ cond (not takes_a) m 0 → 1 ≤ cond (not takes_b) n 0
out_with true takes_b m n both closed some = absurd (omega (arith, some))
out_with false true m n both closed some = true_false (both refl) refl
out_with false false m n both closed some = closed some

more_used : (same : Bool) (n : ℕ) → 1 ≤ n → 1 ≤ cond same 1 n
more_used true n some = omega arith
more_used false n some = some

still_used : (b item : Item) (items : List Item) → 1 ≤ times b items → 1 ≤ times b (used item items)
still_used b item items some = subst (λ (n : ℕ). 1 ≤ n) (sym (times-used b item items)) (more_used (same_item b item) (times b items) some)

front_with : (same : Bool) (m n after : ℕ) → (same ≡ true → 1 ≤ after) → (1 ≤ n → 1 ≤ after) → (1 ≤ m → 1 ≤ n) → 1 ≤ cond same 1 m → 1 ≤ after
front_with true m n after fine stays closed some = fine refl
front_with false m n after fine stays closed some = stays (closed some)

step_with : (a b : Item) (items : List Item) (step : ListStep) → IsFine a b items step → IsWith a b items → IsWith a b (after_step items step)
step_with a b items (out group) fine closed some =
    let of_a = times-filter (λ (i : Item). not (takes i group)) a items in
    let of_b = times-filter (λ (i : Item). not (takes i group)) b items in
    subst (λ (n : ℕ). 1 ≤ n) (sym of_b) (out_with (takes a group) (takes b group) (times a items) (times b items) fine closed (subst (λ (n : ℕ). 1 ≤ n) of_a some))
step_with a b items (front item) fine closed some =
    front_with (same_item a item) (times a items) (times b items) (times b (used item items)) fine (still_used b item items) closed (subst (λ (n : ℕ). 1 ≤ n) (times-used a item items) some)

steps_with : (a b : Item) (steps : List ListStep) (items : List Item) → AreFine a b items steps → IsWith a b items → (count : ℕ) → IsWith a b (after_steps (take count steps) items)
steps_with a b steps items fine closed zero = closed
steps_with a b [] items fine closed (suc count) = closed
steps_with a b (step ∷ steps) items fine closed (suc count) = steps_with a b steps (after_step items step) fine.1 (step_with a b items step fine.0 closed) count

fine-append : (a b : Item) (s t : List ListStep) (items : List Item) → AreFine a b items s → AreFine a b (after_steps s items) t → AreFine a b items (s ++ t)
fine-append a b [] t items fine later = later
fine-append a b (step ∷ s) t items fine later = (fine.0, fine-append a b s t (after_step items step) fine.1 later)

-- an item is in no eviction unit of its own
abbrev IsNotAlone : Item → List Group → Type 0
IsNotAlone b groups = (key : List ℕ) (n : ℕ) → b ≡ part key n → Contains groups (single key n) → ⊥

later_not_alone : (b : Item) (group : Group) (groups : List Group) → IsNotAlone b (group ∷ groups) → IsNotAlone b groups
later_not_alone b group groups apart key n is there = apart key n is (later_contained group groups (single key n) there)

whole_takes : (a b : Item) (key : List ℕ) → key_of a ≡ key_of b → bytes_eq key (key_of b) ≡ true → bytes_eq key (key_of a) ≡ true
whole_takes a b key same takes_b = ap (bytes_eq key) same ∙ takes_b

group_fine : (a b : Item) (group : Group) (groups : List Group) → key_of a ≡ key_of b → IsNotAlone b (group ∷ groups) → takes b group ≡ true → takes a group ≡ true
group_fine a b (whole key parts) groups same apart takes_b = whole_takes a b key same takes_b
group_fine a b (single key n) groups same apart takes_b = absurd (apart key n (sym (one_item (part key n) b takes_b)) (first_contained (single key n) groups))

outs_fine : (a b : Item) (groups : List Group) (items : List Item) → key_of a ≡ key_of b → IsNotAlone b groups → AreFine a b items (map out groups)
outs_fine a b [] items same apart = tt
outs_fine a b (group ∷ groups) items same apart = (group_fine a b group groups same apart, outs_fine a b groups (after_step items (out group)) same (later_not_alone b group groups apart))

doom_steps_fine : (a b : Item) (state : State) (slot : Option Object) (items : List Item) → key_of a ≡ key_of b → AreFine a b items (doom_steps state slot)
unfolding doom_steps
doom_steps_fine a b state None items same = tt
doom_steps_fine a b state (Some object) items same =
    elim (object.live) as (λ live. AreFine a b items (cond live (out (whole object.key (parts_among object.key state.uses)) ∷ []) [])) [ true ↦ (whole_takes a b object.key same, tt) | false ↦ tt ]

dooms_fine : (a b : Item) (request : Request) (state : State) (items : List Item) → key_of a ≡ key_of b → AreFine a b items (dooms request state)
unfolding dooms
dooms_fine a b (to_create handle key) state items same = tt
dooms_fine a b (to_open handle key) state items same = tt
dooms_fine a b (to_read handle stream offset count) state items same = tt
dooms_fine a b (to_write handle stream offset cut bytes) state items same = tt
dooms_fine a b (to_size handle stream) state items same = tt
dooms_fine a b (to_sparse_write handle offset bytes) state items same = tt
dooms_fine a b (to_sparse_read handle offset count) state items same = tt
dooms_fine a b (to_sparse_range handle offset count) state items same = tt
dooms_fine a b (to_doom handle) state items same = doom_steps_fine a b state (object_at state (number_of state handle)) items same
dooms_fine a b (to_doom_key key) state items same = doom_steps_fine a b state (object_for state (live_with state key)) items same
dooms_fine a b (to_close handle) state items same = tt
dooms_fine a b (to_flush handle) state items same = tt
dooms_fine a b to_list state items same = tt
dooms_fine a b (to_trim bytes) state items same = tt
dooms_fine a b to_total state items same = tt

fronts_fine : (a b : Item) (list : List Item) (items : List Item) → (list_any (same_item a) list ≡ false) ⊎ (1 ≤ times b items) → AreFine a b items (map front list)
fronts_fine a b [] items either = tt
fronts_fine a b (item ∷ list) items (inl none) =
    let parts = or_parts (same_item a item) (list_any (same_item a) list) none in
    ((λ same. true_false same parts.0), fronts_fine a b list (used item items) (inl parts.1))
fronts_fine a b (item ∷ list) items (inr some) =
    ((λ same. still_used b item items some), fronts_fine a b list (used item items) (inr (still_used b item items some)))

-- What a command accesses it doesn't evict.

-- an item is evicted alone, or with its main item
stays_in : (b : Item) (groups : List Group) → IsNotAlone b groups → is_out groups (main (key_of b)) ≡ false → is_out groups b ≡ false
stays_in b [] apart main_stays = refl
stays_in b (whole key parts ∷ groups) apart main_stays =
    let both = or_parts (bytes_eq key (key_of b)) (is_out groups (main (key_of b))) main_stays in
    ap (λ (t : Bool). t || is_out groups b) both.0 ∙ stays_in b groups (later_not_alone b (whole key parts) groups apart) both.1
stays_in b (single key n ∷ groups) apart main_stays =
    ⊎_elim
    (λ (alone : same_item (part key n) b ≡ true). absurd (apart key n (sym (one_item (part key n) b alone)) (first_contained (single key n) groups)))
    (λ (other : same_item (part key n) b ≡ false). ap (λ (t : Bool). t || is_out groups b) other ∙ stays_in b groups (later_not_alone b (single key n) groups apart) main_stays)
    (cases_Bool (same_item (part key n) b))

in_after_outs : (b : Item) (groups : List Group) (items : List Item) → is_out groups b ≡ false → 1 ≤ times b items → 1 ≤ times b (after_steps (map out groups ++ []) items)
in_after_outs b groups items stays some =
    subst (λ (list : List Item). 1 ≤ times b list) (sym (after_steps-append (map out groups) [] items ∙ outs groups items))
    (subst (λ (n : ℕ). 1 ≤ n) (sym (times-filter (λ (i : Item). not (is_out groups i)) b items ∙ ap (λ (t : Bool). cond (not t) (times b items) 0) stays)) some)

live_stays : (live gone : Bool) → (live && gone) ≡ false → live ≡ true → gone ≡ false
live_stays true gone none live = none
live_stays false gone none live = true_false live refl

-- the main item of a handle's live object isn't evicted
handle_stays : (state : State) → IsValidState state → (covers : List Item) (groups : List Group) (handle : ℕ) → AllByRecursion (IsLoose (is_pinned state covers)) groups → names_none state handle ≡ false
    → (object_of state handle).live ≡ true → is_out groups (main (object_of state handle).key) ≡ false
handle_stays state valid covers groups handle loose bound live =
    let named = named_object state valid handle bound in
    let stays = named_stays state valid covers groups loose named.number named.object named.here (any_has state.names handle named.number named.by_name) in
    let alive : named.object.live ≡ true = ap (λ (o : Object). o.live) (sym named.object_is) ∙ live in
    subst (λ (o : Object). is_out groups (main o.key) ≡ false) (sym named.object_is) (live_stays named.object.live (is_out groups (main named.object.key)) stays alive)

one_used : (a : Item) (item : Item) → list_any (same_item a) (item ∷ []) ≡ true → same_item a item ≡ true
one_used a item among = first (same_item a item) among
  where
    first : (t : Bool) → (t || false) ≡ true → t ≡ true
    first true e = refl
    first false e = e

live_used : (live : Bool) (a item : Item) → list_any (same_item a) (cond live (item ∷ []) []) ≡ true → (live ≡ true) × (same_item a item ≡ true)
live_used true a item among = (refl, one_used a item among)
live_used false a item among = true_false among refl

used_key : (a : Item) (key : List ℕ) (ns : List ℕ) → list_any (same_item a) (map (part key) ns) ≡ true → key_of a ≡ key
used_key a key [] among = true_false among refl
used_key a key (n ∷ ns) among =
    ⊎_elim
    (λ (same : same_item a (part key n) ≡ true). ap key_of (one_item a (part key n) same))
    (λ (other : same_item a (part key n) ≡ false). used_key a key ns (ap (λ (t : Bool). t || list_any (same_item a) (map (part key) ns)) (sym other) ∙ among))
    (cases_Bool (same_item a (part key n)))

used_key_of_all : (a : Item) (key : List ℕ) (ns : List ℕ) → list_any (same_item a) (main key ∷ map (part key) ns) ≡ true → key_of a ≡ key
used_key_of_all a key ns among =
    ⊎_elim
    (λ (same : same_item a (main key) ≡ true). ap key_of (one_item a (main key) same))
    (λ (other : same_item a (main key) ≡ false). used_key a key ns (ap (λ (t : Bool). t || list_any (same_item a) (map (part key) ns)) (sym other) ∙ among))
    (cases_Bool (same_item a (main key)))

nobody_has : {P : Type 0} (o : Option ℕ) (n : ℕ) → o ≡ Some n → is_some o ≡ false → P
nobody_has o n is none = true_false (ap is_some is) none

-- where a command accesses an item of an object, the others are in the list before it does
kept_where_used : (state : State) (valid : IsValidState state) (moment : ℕ) (request : Request) (a b : Item) (n : ℕ) → refused moment request state ≡ None → owner state a ≡ Some n → key_of a ≡ key_of b → 1 ≤ times b state.uses
    → IsNotAlone b (evicted moment request state) → list_any (same_item a) (uses_of request state) ≡ true → 1 ≤ times b (after_steps (map out (evicted moment request state) ++ dooms request state) state.uses)
unfolding dooms uses_of evicted refusals
kept_where_used state valid moment (to_create handle key) a b n passes owned same listed apart among =
    let passed = none_comes (refusals moment (to_create handle key) state) passes in
    let is : a ≡ main key = one_item a (main key) (one_used a (main key) among) in
    nobody_has (live_with state key) n (ap (owner state) (sym is) ∙ owned) passed.1.1.1.0
kept_where_used state valid moment (to_open handle key) a b n passes owned same listed apart among = listed
kept_where_used state valid moment (to_read handle stream offset count) a b n passes owned same listed apart among = listed
kept_where_used state valid moment (to_write handle stream offset cut bytes) a b n passes owned same listed apart among =
    let request = to_write handle stream offset cut bytes in
    let groups = evicted moment request state in
    let passed = none_comes (refusals moment request state) passes in
    let object = object_of state handle in
    let is = live_used object.live a (main object.key) among in
    let key : object.key ≡ key_of b = sym (ap key_of (one_item a (main object.key) is.1)) ∙ same in
    let stays = handle_stays state valid (covered request state) groups handle (room_for_is_loose moment request state) passed.0 is.0 in
    in_after_outs b groups state.uses (stays_in b groups apart (subst (λ (k : List ℕ). is_out groups (main k) ≡ false) key stays)) listed
kept_where_used state valid moment (to_size handle stream) a b n passes owned same listed apart among = true_false among refl
kept_where_used state valid moment (to_sparse_write handle offset bytes) a b n passes owned same listed apart among =
    let request = to_sparse_write handle offset bytes in
    let groups = evicted moment request state in
    let passed = none_comes (refusals moment request state) passes in
    let object = object_of state handle in
    let key : object.key ≡ key_of b = sym (used_key_of_all a object.key (covered_parts offset (length bytes)) among) ∙ same in
    let stays = handle_stays state valid (covered request state) groups handle (room_for_is_loose moment request state) passed.0 (not-false object.live passed.1.1.1.0) in
    in_after_outs b groups state.uses (stays_in b groups apart (subst (λ (k : List ℕ). is_out groups (main k) ≡ false) key stays)) listed
kept_where_used state valid moment (to_sparse_read handle offset count) a b n passes owned same listed apart among = listed
kept_where_used state valid moment (to_sparse_range handle offset count) a b n passes owned same listed apart among = listed
kept_where_used state valid moment (to_doom handle) a b n passes owned same listed apart among = true_false among refl
kept_where_used state valid moment (to_doom_key key) a b n passes owned same listed apart among = true_false among refl
kept_where_used state valid moment (to_close handle) a b n passes owned same listed apart among = true_false among refl
kept_where_used state valid moment (to_flush handle) a b n passes owned same listed apart among = true_false among refl
kept_where_used state valid moment to_list a b n passes owned same listed apart among = true_false among refl
kept_where_used state valid moment (to_trim bytes) a b n passes owned same listed apart among = true_false among refl
kept_where_used state valid moment to_total a b n passes owned same listed apart among = true_false among refl

-- The steps of a command.

groups_of : (state : State) (command : Stamped) → refused command.moment command.request state ≡ None → (outcome_in state command).groups ≡ evicted command.moment command.request state
unfolding step outcome
groups_of state command passes = ap (λ (why : Option Refusal). (outcome command.moment command.request state why).groups) passes

evicted_alone : (state : State) (command : Stamped) (b : Item) → (IsEvictedAlone state command b → ⊥) → refused command.moment command.request state ≡ None → IsNotAlone b (evicted command.moment command.request state)
evicted_alone state command b apart passes key n is there =
    apart (subst (λ (i : Item). IsEvictedAlone state command i) (sym is) (subst (λ (groups : List Group). Contains groups (single key n)) (sym (groups_of state command passes)) there))

steps_fine : (state : State) (valid : IsValidState state) (command : Stamped) (a b : Item) (n : ℕ) → owner state a ≡ Some n → owner state b ≡ Some n → (IsEvictedAlone state command b → ⊥)
    → AreFine a b state.uses (list_steps state command.moment command.request)
unfolding list_steps steps_unless
steps_fine state valid command a b n owned owned_too apart =
    let moment = command.moment in
    let request = command.request in
    let same = one_key state a b n owned owned_too in
    let listed = owned_is_listed state valid b (owner_of state b n owned_too) in
    elim (refused moment request state) as (λ why. refused moment request state ≡ why → AreFine a b state.uses (steps_unless moment request state why)) [
      | Some why ↦ λ is. tt
      | None ↦ λ passes.
          let groups = evicted moment request state in
          let not_alone = evicted_alone state command b apart passes in
          let gone = after_steps (map out groups ++ dooms request state) state.uses in
          let either : (list_any (same_item a) (uses_of request state) ≡ false) ⊎ (1 ≤ times b gone) =
          ⊎_elim
          (λ (among : list_any (same_item a) (uses_of request state) ≡ true). inr (kept_where_used state valid moment request a b n passes owned same listed not_alone among))
          (λ (none : list_any (same_item a) (uses_of request state) ≡ false). inl none)
          (cases_Bool (list_any (same_item a) (uses_of request state))) in
          fine-append a b (map out groups ++ dooms request state) (map front (uses_of request state)) state.uses
          (fine-append a b (map out groups) (dooms request state) state.uses (outs_fine a b groups state.uses same not_alone) (dooms_fine a b request state (after_steps (map out groups) state.uses) same))
          (fronts_fine a b (uses_of request state) gone either)
    ] refl

listed_together : (state : State) (valid : IsValidState state) (command : Stamped) (a b : Item) (n : ℕ) → owner state a ≡ Some n → owner state b ≡ Some n → (IsEvictedAlone state command b → ⊥) → (count : ℕ)
    → Contains (list_after state command.moment command.request count) a → Contains (list_after state command.moment command.request count) b
unfolding list_after
listed_together state valid command a b n owned owned_too apart count there =
    let steps = list_steps state command.moment command.request in
    let list = after_steps (take count steps) state.uses in
    let listed = owned_is_listed state valid b (owner_of state b n owned_too) in
    contained b list (steps_with a b steps state.uses (steps_fine state valid command a b n owned owned_too apart) (λ some. listed) count (counted a list there))

pub entries_are_whole : EntriesAreFoundWhole
entries_are_whole from image opened state commands steps command crash valid row item there same apart =
    let left = crash_leaves from image opened state commands steps command crash in
    let by = leaves_by state command (found image) left in
    let before = row_from_before state command (found image) left row there in
    by.together row item there same
    (listed_together state valid command (item_of row) item before.number before.owned (same ∙ before.owned) apart left.step_count (by.listed row there))

-- An object that a command makes.

-- before the command no object had an item of the new one
fresh_item : (state : State) (valid : IsValidState state) (command : Stamped) (item : Item) (n m : ℕ) → owner (state_then state command) item ≡ Some n → object_at state n ≡ None → owner state item ≡ Some m → ⊥
fresh_item state valid command item n m owned_after none owned =
    let after = state_then state command in
    let o = owner_of after item n owned_after in
    let number : o.number ≡ n = number_same o.number n (sym o.found ∙ owned_after) in
    let here : object_at after n ≡ Some o.object = ap (object_at after) (sym number) ∙ o.here in
    let leads = step_leads state valid command.moment command.request n in
    let fresh : Leads (may_settle command.request) (IsFresh state) None (Some o.object) =
    subst (λ (slot : Option Object). Leads (may_settle command.request) (IsFresh state) None slot) here (subst (λ (slot : Option Object). Leads (may_settle command.request) (IsFresh state) slot (object_at after n)) none leads) in
    let p = owner_of state item m owned in
    let has = owners-has item p.number state.objects (ap (slot_has_item item) p.here ∙ p.has) in
    let more = owners_main item state.objects in
    let key : ◌≡◌ {A = ℕ} (owners (main (key_of item)) state.objects) 0 = ap (λ (k : List ℕ). owners (main k) state.objects) (key_is o.object item o.has) ∙ fresh.1 in
    omega (arith, has, more, key)

pub new_are_lost : NewEntriesAreLost
new_are_lost from image opened state commands steps command crash valid row number owned_after none there =
    let left = crash_leaves from image opened state commands steps command crash in
    let before = row_from_before state command (found image) left row there in
    fresh_item state valid command (item_of row) number before.number owned_after none before.owned
