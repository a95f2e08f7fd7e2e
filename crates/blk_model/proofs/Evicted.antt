-- States that stay valid while eviction units of items that are not pinned are evicted.
use Rattle.std.proofs.Common.{◌≡◌, ℕ, zero, suc, ◌+◌, ◌<◌, ◌≤◌, Bool, true, false, not, ◌&&◌, ◌||◌, cond, List, [], ◌∷◌, ◌++◌, Some, None, Option, IfSome, IsSome, is_some, refl, ap, sym, ◌∙◌, subst, arith, get_or, map, reverse, ◌⊎◌, inl, inr}
use Rattle.std.specs.List.{filter, AllByRecursion}
use Rattle.std.specs.Option.{option_and_then, option_map_or}
use Rattle.std.specs.Bool.{passes}
use Rattle.std.specs.Str.{bytes_eq}
use Rattle.std.specs.Ordering.{nat_cmp}
use Rattle.std.specs.FinMap.{find, nat_cmp-IsAntisymmetric}
use Rattle.std.specs.FinMap.Entries.{find-where_key, is_sorted-where_key}
use Rattle.std.proofs.lemmas.Bool.{and_parts, or_cases, or_parts}
use Rattle.std.proofs.lemmas.List.Elements.{All-filter}
use Rattle.std.proofs.Math.Dec.{T}
use Rattle.blk_model.specs.Items.{Item, main, part, key_of, times, IsPartValue, PartValue}
use Rattle.blk_model.specs.State.{Object, State, IsValidState, IsObject, object_at, is_named, has_item, slot_has_item, owners, live_with, part_at}
use Rattle.blk_model.specs.Room.{Group, whole, single, is_out, is_pinned, left_of, without, not_out, groups_from_back, shortest, evicted_until, parts_among}
use Rattle.blk_model.specs.Sizes.{part_count}
use Rattle.blk_model.proofs.Same.{same_bytes}
use Rattle.blk_model.proofs.Slots.{owners-map, first_with_found}
use Rattle.blk_model.proofs.Times.{times-filter}
use Rattle.blk_model.proofs.Each.{Each-map, Each-weaker, any_has}
use Rattle.blk_model.proofs.States.{some_of, has_main, main_owner}
use Rattle.blk_model.proofs.Doomed.{contrary}

-- an eviction unit is evicted for an item that need not stay
abbrev pub IsLoose : (Item → Bool) → Group → Type 0
IsLoose stays (whole key parts) = stays (main key) ≡ false
IsLoose stays (single key n) = stays (part key n) ≡ false

-- with what an item is evicted: alone, or with its main item
pub loose_main : (stays : Item → Bool) (groups : List Group) (key : List ℕ) → AllByRecursion (IsLoose stays) groups → is_out groups (main key) ≡ true → stays (main key) ≡ false
loose_main stays [] key all gone = cc
loose_main stays (whole other parts ∷ groups) key all gone =
    let cases : (bytes_eq other key ≡ true) ⊎ (is_out groups (main key) ≡ true) = or_cases _ _ gone in
    elim cases as (λ _. stays (main key) ≡ false) [
      | inl here ↦ subst (λ k. stays (main k) ≡ false) (same_bytes other key here) all.0
      | inr later ↦ loose_main stays groups key all.1 later
    ]
loose_main stays (single other n ∷ groups) key all gone = loose_main stays groups key all.1 gone

-- a main item takes its parts along
pub out_with_main : (groups : List Group) (key : List ℕ) (n : ℕ) → is_out groups (main key) ≡ true → is_out groups (part key n) ≡ true
out_with_main [] key n gone = cc
out_with_main (whole other parts ∷ groups) key n gone = or_lift _ _ _ gone (out_with_main groups key n)
  where
    or_lift : (x y z : Bool) → (x || y) ≡ true → (y ≡ true → z ≡ true) → (x || z) ≡ true
    or_lift true y z e h = refl
    or_lift false y z e h = h e
out_with_main (single other m ∷ groups) key n gone = or_after _ _ (out_with_main groups key n gone)
  where
    or_after : (x y : Bool) → y ≡ true → (x || y) ≡ true
    or_after true y e = refl
    or_after false y e = e

T_true : (b : Bool) → T b → b ≡ true
T_true true h = refl
T_true false h = absurd h

-- the parts that an eviction unit leaves
abbrev pub kept_parts : List Group → Object → List (ℕ × PartValue)
kept_parts groups object = filter (λ p. not (is_out groups (part object.key p.0))) object.parts

pub left_is_object : (groups : List Group) (object : Object) → IsObject object → IsObject (record object { parts = kept_parts groups object })
left_is_object groups object valid = record {
  key = valid.key;
  streams = valid.streams;
  signature = valid.signature;
  plain_has_no_parts = λ e. ap (λ ps. filter (λ (p : ℕ × PartValue). not (is_out groups (part object.key p.0))) ps) (valid.plain_has_no_parts e);
  doomed_has_no_parts = λ e. ap (λ ps. filter (λ (p : ℕ × PartValue). not (is_out groups (part object.key p.0))) ps) (valid.doomed_has_no_parts e);
  sparse_has_one_stream = valid.sparse_has_one_stream;
  rising = T_true _ (is_sorted-where_key nat_cmp (λ n. not (is_out groups (part object.key n))) object.parts (passes _ valid.rising));
  parts = All-filter (λ p. not (is_out groups (part object.key p.0))) (λ (p : ℕ × PartValue). (p.0 < part_count) × IsPartValue p.1) object.parts valid.parts;
}

left_slot_is : (groups : List Group) (object : Object) → IsObject object → IfSome (left_of groups object) IsObject
unfolding left_of
left_slot_is groups object valid =
    elim (object.live && is_out groups (main object.key)) as (λ b. IfSome (cond b None (Some (record object { parts = kept_parts groups object }))) IsObject) [ true ↦ tt | false ↦ left_is_object groups object valid ]

-- a part that stays is found as before
pub kept_part_at : (groups : List Group) (object : Object) (n : ℕ) → find nat_cmp n (kept_parts groups object) ≡ cond (not (is_out groups (part object.key n))) (part_at object n) None
kept_part_at groups object n =
    find-where_key nat_cmp (λ m. not (is_out groups (part object.key m))) n (λ m e. ap (λ k. not (is_out groups (part object.key k))) (sym (nat_cmp-IsAntisymmetric n m e))) object.parts

is_some-cond : (b : Bool) (o : Option PartValue) → is_some (cond b o None) ≡ cond b (is_some o) false
is_some-cond true o = refl
is_some-cond false o = refl

part_left : (both out some kept : Bool) → (both ≡ true → kept ≡ cond (not out) some false) → (both && kept) ≡ cond out false (both && some)
part_left true true some kept h = h refl
part_left true false some kept h = h refl
part_left false true some kept h = refl
part_left false false some kept h = refl

taken_main : (out live key : Bool) → (live && key ≡ true → out ≡ false) → (live && key) ≡ cond out false (live && key)
taken_main true true true apart = absurd (contrary (apart refl) refl)
taken_main true true false apart = refl
taken_main true false key apart = refl
taken_main false live key apart = refl

none_left : (gone out has : Bool) → gone ≡ true → (has ≡ true → out ≡ true) → false ≡ cond out false has
none_left gone true has g h = refl
none_left gone false true g h = h refl
none_left gone false false g h = refl

-- what the eviction units leave of an object has its items that are not out
pub left_has : (groups : List Group) (item : Item) (object : Object) → slot_has_item item (left_of groups object) ≡ cond (is_out groups item) false (has_item object item)
unfolding left_of
left_has groups (main key) object =
    elim (object.live && is_out groups (main object.key)) as (λ b. object.live && is_out groups (main object.key) ≡ b → slot_has_item (main key) (cond b None (Some (record object { parts = kept_parts groups object }))) ≡ cond (is_out groups (main key)) false (object.live && bytes_eq key object.key)) [
      | true ↦ λ gone. none_left _ _ _ gone (λ has. subst (λ k. is_out groups (main k) ≡ true) (sym (same_bytes key object.key (and_parts object.live _ has).1)) (and_parts object.live _ gone).1)
      | false ↦ λ left. taken_main (is_out groups (main key)) object.live (bytes_eq key object.key) (λ has. out_false _ _ (and_parts _ _ has).0 (subst (λ k. object.live && is_out groups (main k) ≡ false) (sym (same_bytes key object.key (and_parts object.live _ has).1)) left))
    ] refl
  where
    out_false : (live out : Bool) → live ≡ true → live && out ≡ false → out ≡ false
    out_false true out l e = e
    out_false false out l e = cc
left_has groups (part key n) object =
    elim (object.live && is_out groups (main object.key)) as (λ b. object.live && is_out groups (main object.key) ≡ b → slot_has_item (part key n) (cond b None (Some (record object { parts = kept_parts groups object }))) ≡ cond (is_out groups (part key n)) false (object.live && bytes_eq key object.key && is_some (part_at object n))) [
      | true ↦ λ gone. none_left _ _ _ gone (λ has. out_with_main groups key n (subst (λ k. is_out groups (main k) ≡ true) (sym (same_bytes key object.key (and_parts object.live _ (and_parts _ _ has).0).1)) (and_parts object.live _ gone).1))
      | false ↦ λ left. part_left (object.live && bytes_eq key object.key) (is_out groups (part key n)) (is_some (part_at object n)) (is_some (find nat_cmp n (kept_parts groups object)))
          (λ both. ap is_some (kept_part_at groups object n) ∙ is_some-cond (not (is_out groups (part object.key n))) (part_at object n)
          ∙ ap (λ k. cond (not (is_out groups (part k n))) (is_some (part_at object n)) false) (sym (same_bytes key object.key (and_parts object.live _ both).1)))
    ] refl

pub left_slot_has : (groups : List Group) (item : Item) (slot : Option Object) → slot_has_item item (option_and_then (left_of groups) slot) ≡ cond (is_out groups item) false (slot_has_item item slot)
left_slot_has groups item None = elim (is_out groups item) as (λ b. false ≡ cond b false false) [ true ↦ refl | false ↦ refl ]
left_slot_has groups item (Some object) = left_has groups item object

pub map_at : {X : Type 0} (change : X → Option X) (slots : List (Option X)) (n : ℕ) → get_or (map (option_and_then change) slots) n None ≡ option_and_then change (get_or slots n None)
map_at change [] n = refl
map_at change (s ∷ slots) zero = refl
map_at change (s ∷ slots) (suc n) = map_at change slots n

cond_not : (b : Bool) (n : ℕ) → cond (not b) n 0 ≡ cond b 0 n
cond_not true n = refl
cond_not false n = refl

-- the main item of a live object with a handle is not evicted
pub named_stays : (state : State) (valid : IsValidState state) (covered : List Item) (groups : List Group) → AllByRecursion (IsLoose (is_pinned state covered)) groups → (n : ℕ) (object : Object) → object_at state n ≡ Some object → is_named state n ≡ true →
    (object.live && is_out groups (main object.key)) ≡ false
named_stays state valid covered groups loose n object here held =
    elim (object.live && is_out groups (main object.key)) as (λ b. object.live && is_out groups (main object.key) ≡ b → b ≡ false) [
      | true ↦ λ gone.
          let live : object.live ≡ true = (and_parts _ _ gone).0 in
          let stays : is_pinned state covered (main object.key) ≡ false = loose_main (is_pinned state covered) groups object.key loose (and_parts object.live _ gone).1 in
          let one : owners (main object.key) state.objects ≡ 1 = main_owner state valid n object here live in
          let found : live_with state object.key ≡ Some (0 + n) = first_with_found (main object.key) 0 n state.objects (ap (slot_has_item (main object.key)) here ∙ has_main object live) (omega arith) in
          let number : live_with state object.key ≡ Some n = found ∙ ap Some (omega arith) in
          absurd (contrary stays (ap (λ o. option_map_or (is_named state) o false) number ∙ held))
      | false ↦ λ left. refl
    ] refl

-- so what the eviction units leave of an object with a handle is the object without the parts that are evicted
pub named_left : (state : State) (valid : IsValidState state) (covered : List Item) (groups : List Group) → AllByRecursion (IsLoose (is_pinned state covered)) groups → (n : ℕ) (object : Object) → object_at state n ≡ Some object → is_named state n ≡ true →
    left_of groups object ≡ Some (record object { parts = kept_parts groups object })
unfolding left_of
named_left state valid covered groups loose n object here held =
    ap (λ b. cond b None (Some (record object { parts = kept_parts groups object }))) (named_stays state valid covered groups loose n object here held)

state_without_some : (state : State) (valid : IsValidState state) (covered : List Item) (groups : List Group) → AllByRecursion (IsLoose (is_pinned state covered)) groups →
    IsValidState (record state { objects = map (option_and_then (left_of groups)) state.objects; uses = not_out groups state.uses })
unfolding left_of
state_without_some state valid covered groups loose =
    let listed : (item : Item) → times item (not_out groups state.uses) ≡ owners item (map (option_and_then (left_of groups)) state.objects) = λ item.
    times-filter (λ i. not (is_out groups i)) item state.uses ∙ cond_not (is_out groups item) (times item state.uses) ∙ ap (λ n. cond (is_out groups item) 0 n) (valid.listed item)
    ∙ sym (owners-map item (is_out groups item) (option_and_then (left_of groups)) state.objects (left_slot_has groups item)) in
    record {
      objects = Each-map (λ n. IsObject) (λ n. IsObject) (left_of groups) state.objects (λ n object is. left_slot_is groups object is) valid.objects;
      names = valid.names;
      bound = Each-weaker (λ name n. IsSome (object_at state n)) (λ name n. IsSome (get_or (map (option_and_then (left_of groups)) state.objects) n None)) state.names
          (λ name n e is. let found = some_of (object_at state n) is in
          ap is_some (map_at (left_of groups) state.objects n ∙ ap (option_and_then (left_of groups)) found.1 ∙ named_left state valid covered groups loose n found.0 found.1 (any_has state.names name n e)))
          valid.bound;
      listed = listed;
      once = λ item. subst (λ n. n ≤ 1) (sym (times-filter (λ i. not (is_out groups i)) item state.uses)) (most (not (is_out groups item)) _ (valid.once item));
      held = Each-map (λ n o. (o.live && o.settled ≡ false) → is_named state n ≡ true) (λ n o. (o.live && o.settled ≡ false) → is_named state n ≡ true) (left_of groups) state.objects
          (λ n object was. elim (object.live && is_out groups (main object.key)) as (λ b. IfSome (cond b None (Some (record object { parts = kept_parts groups object }))) (λ o. (o.live && o.settled ≡ false) → is_named state n ≡ true)) [ true ↦ tt | false ↦ was ]) valid.held;
    }
  where
    most : (b : Bool) (n : ℕ) → n ≤ 1 → cond b n 0 ≤ 1
    most true n le = le
    most false n le = omega arith

-- eviction units of items that are not pinned may be evicted
pub state_without : (state : State) (valid : IsValidState state) (covered : List Item) (groups : List Group) → AllByRecursion (IsLoose (is_pinned state covered)) groups → IsValidState (without groups state)
unfolding without
state_without state valid covered [] loose = valid
state_without state valid covered (group ∷ groups) loose = state_without_some state valid covered (group ∷ groups) loose

-- the eviction units that could be evicted are of items that need not stay
pub groups_are_loose : (stays : Item → Bool) (items : List Item) → AllByRecursion (IsLoose stays) (groups_from_back stays items)
unfolding groups_from_back
groups_are_loose stays [] = tt
groups_are_loose stays (main key ∷ before) =
    elim (stays (main key)) as (λ b. stays (main key) ≡ b → AllByRecursion (IsLoose stays) (cond b (groups_from_back stays before) (whole key (reverse (parts_among key before)) ∷ groups_from_back (λ item. stays item || bytes_eq key (key_of item)) before))) [
      | true ↦ λ e. groups_are_loose stays before
      | false ↦ λ e. (e, looser stays key (groups_from_back (λ item. stays item || bytes_eq key (key_of item)) before) (groups_are_loose (λ item. stays item || bytes_eq key (key_of item)) before))
    ] refl
  where
    looser_one : (stays : Item → Bool) (key : List ℕ) (group : Group) → IsLoose (λ item. stays item || bytes_eq key (key_of item)) group → IsLoose stays group
    looser_one stays key (whole other parts) e = (or_parts _ _ e).0
    looser_one stays key (single other n) e = (or_parts _ _ e).0

    looser : (stays : Item → Bool) (key : List ℕ) (groups : List Group) → AllByRecursion (IsLoose (λ item. stays item || bytes_eq key (key_of item))) groups → AllByRecursion (IsLoose stays) groups
    looser stays key [] all = tt
    looser stays key (group ∷ groups) all = (looser_one stays key group all.0, looser stays key groups all.1)
groups_are_loose stays (part key n ∷ before) =
    elim (stays (part key n)) as (λ b. stays (part key n) ≡ b → AllByRecursion (IsLoose stays) (cond b (groups_from_back stays before) (single key n ∷ groups_from_back stays before))) [
      | true ↦ λ e. groups_are_loose stays before
      | false ↦ λ e. (e, groups_are_loose stays before)
    ] refl

All_push : (P : Group → Type 0) (groups : List Group) (group : Group) → AllByRecursion P groups → P group → AllByRecursion P (groups ++ group ∷ [])
All_push P [] group all is = (is, tt)
All_push P (g ∷ groups) group all is = (all.0, All_push P groups group all.1 is)

shortest_are : (P : Group → Type 0) (enough : List Group → Bool) (done groups : List Group) → AllByRecursion P done → AllByRecursion P groups → AllByRecursion P (shortest enough done groups)
shortest_are P enough done [] before all = before
shortest_are P enough done (group ∷ groups) before all =
    elim (enough done) as (λ b. AllByRecursion P (cond b done (shortest enough (done ++ group ∷ []) groups))) [
      | true ↦ before
      | false ↦ shortest_are P enough (done ++ group ∷ []) groups (All_push P done group before all.0) all.1
    ]

pub evicted_are_loose : (enough : State → Bool) (state : State) (covered : List Item) → AllByRecursion (IsLoose (is_pinned state covered)) (evicted_until enough state covered)
unfolding evicted_until groups_from_back
evicted_are_loose enough state covered =
    shortest_are (IsLoose (is_pinned state covered)) (λ groups. enough (without groups state)) [] (groups_from_back (is_pinned state covered) (reverse state.uses)) tt (groups_are_loose (is_pinned state covered) (reverse state.uses))
