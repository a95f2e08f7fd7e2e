-- Space on the state without the first eviction units: what is pinned is the same, and what is evicted until there is enough are the others.
use Rattle.std.proofs.Common.{◌≡◌, ℕ, suc, ◌+◌, ◌-◌, ◌/◌, ◌≤◌, Bool, true, false, not, ◌&&◌, ◌||◌, cond, List, [], ◌∷◌, ◌++◌, Some, None, Option, refl, ap, ap₂, sym, ◌∙◌, subst, arith, get_or, map, reverse, append-nil, ◌⊎◌, inl, inr}
use Rattle.std.specs.List.{filter, list_any, AllByRecursion}
use Rattle.std.specs.Option.{option_and_then, option_map_or}
use Rattle.std.specs.Bool.{nat_lt, ◌==◌}
use mathlib.Core.List.{reverse-cons}
use Rattle.std.proofs.lemmas.List.Elements.{filter-append}
use Rattle.std.proofs.lemmas.List.Sorted.{sum_by-IsPermutation, IsPermutation-reverse}
use Rattle.blk_model.specs.Sizes.{free_share}
use Rattle.blk_model.specs.Items.{Item, main, part, PartValue, same_item, times}
use Rattle.blk_model.specs.State.{Object, State, Bounds, IsValidState, object_at, is_named, slot_has_item, first_with}
use Rattle.blk_model.specs.Room.{Group, Room, full, after, is_out, is_pinned, pinned, pinned_from, pinned_of, left_of, not_out, without, groups_from_back, shortest, evicted_until, fits, low, room, total_of, count_of}
use Rattle.blk_model.specs.Refusals.{evicted_for, is_full}
use Rattle.blk_model.proofs.Evicted.{IsLoose, kept_parts, left_slot_has, named_stays}
use Rattle.law_state.proofs.CommandEnding.{groups-turn}
use Rattle.law_state.proofs.RestGroups.{Going, others-left, same-shortest, rest-of}

filter-reverse : (p : Item → Bool) (list : List Item) → reverse (filter p list) ≡ filter p (reverse list)
filter-reverse p [] = refl
filter-reverse p (i ∷ list) =
    go (p i)
    ∙ ap (λ (l : List Item). l ++ cond (p i) (i ∷ []) []) (filter-reverse p list)
    ∙ sym (filter-append p (reverse list) (i ∷ []))
    ∙ ap (filter p) (sym (reverse-cons i list))
  where
    go : (b : Bool) → reverse (cond b (i ∷ filter p list) (filter p list)) ≡ reverse (filter p list) ++ cond b (i ∷ []) []
    go true = reverse-cons i (filter p list)
    go false = sym (append-nil (reverse (filter p list)))

times-reverse : (item : Item) (list : List Item) → times item (reverse list) ≡ times item list
times-reverse item list = sum_by-IsPermutation (λ i. cond (same_item item i) 1 0) list (reverse list) (IsPermutation-reverse list)

filter-both : (p q : (ℕ × PartValue) → Bool) (parts : List (ℕ × PartValue)) → ((e : ℕ × PartValue) → p e ≡ true → q e ≡ true) → filter p (filter q parts) ≡ filter p parts
filter-both p q [] implies = refl
filter-both p q (e ∷ parts) implies = go (p e) (q e) refl refl (filter-both p q parts implies) where
  go : (a b : Bool) → p e ≡ a → q e ≡ b → filter p (filter q parts) ≡ filter p parts → filter p (cond (q e) (e ∷ filter q parts) (filter q parts)) ≡ cond (p e) (e ∷ filter p parts) (filter p parts)
  go a true pa qb more = ap (λ (b : Bool). filter p (cond b (e ∷ filter q parts) (filter q parts))) qb ∙ ap (λ (l : List (ℕ × PartValue)). cond (p e) (e ∷ l) l) more
  go true false pa qb more = absurd (let z : true ≡ false = sym (implies e pa) ∙ qb in cc)
  go false false pa qb more = ap (λ (b : Bool). filter p (cond b (e ∷ filter q parts) (filter q parts))) qb ∙ more ∙ sym (ap (λ (b : Bool). cond b (e ∷ filter p parts) (filter p parts)) pa)

-- an item that isn't out has the same first owner
first-same : (groups : List Group) (item : Item) (start : ℕ) (slots : List (Option Object)) → is_out groups item ≡ false → first_with item start (map (option_and_then (left_of groups)) slots) ≡ first_with item start slots
first-same groups item start [] stays = refl
first-same groups item start (slot ∷ slots) stays =
    let here : slot_has_item item (option_and_then (left_of groups) slot) ≡ slot_has_item item slot = left_slot_has groups item slot ∙ ap (λ b. cond b false (slot_has_item item slot)) stays in
    ap (λ b. cond b (Some start) (first_with item (start + 1) (map (option_and_then (left_of groups)) slots))) here
    ∙ ap (cond (slot_has_item item slot) (Some start)) (first-same groups item (start + 1) slots stays)

then-cond : (f : Object → Option Object) (c : Bool) (object : Object) → option_and_then f (cond c None (Some object)) ≡ cond c None (f object)
then-cond f true object = refl
then-cond f false object = refl

-- what is pinned of an object isn't evicted
stays-pinned : (live named out : Bool) (x y : Option Object) → x ≡ y → (named ≡ true → (live && out) ≡ false) → cond (live && out) None (cond (not live || named) x None) ≡ cond (not live || named) y None
stays-pinned true true true x y e h = absurd (let z : true ≡ false = h refl in cc)
stays-pinned true true false x y e h = e
stays-pinned true false true x y e h = refl
stays-pinned true false false x y e h = refl
stays-pinned false named out x y e h = e

-- how space is decided
abbrev decided : Bool → Bool → Bool → List Group → Room
decided none over all gone = cond none (after []) (cond over full (cond all (after []) (after gone)))

abbrev over_in : Bounds → List (Option Object) → ℕ → ℕ → Bool
over_in limits slots bytes more = nat_lt limits.max_bytes (total_of slots + bytes) || nat_lt limits.max_items (count_of slots + more)

abbrev over : State → List Item → ℕ → ℕ → Bool
over state covers bytes more = over_in state.limits (pinned state covers) bytes more

room-is : (state : State) (covers : List Item) (bytes more : ℕ) → room state covers bytes more ≡ decided (bytes == 0 && more == 0) (over state covers bytes more) (fits state.limits.max_bytes bytes more state) (evicted_until (fits (low state) bytes more) state covers)
unfolding room
room-is state covers bytes more = refl

decided-facts : (a b c : Bool) (gone : List Group) (group : Group) (groups : List Group) → is_full (decided a b c gone) ≡ false → evicted_for (decided a b c gone) ≡ group ∷ groups → (a ≡ false) × (b ≡ false) × (gone ≡ group ∷ groups)
decided-facts true b c gone group groups free goes = cc
decided-facts false true c gone group groups free goes = cc
decided-facts false false true gone group groups free goes = cc
decided-facts false false false gone group groups free goes = (refl, refl, goes)

module _ (state : State) (valid : IsValidState state) (covers : List Item) (group : Group) (groups : List Group) (loose : AllByRecursion (IsLoose (is_pinned state covers)) (group ∷ groups)) where
  pub pinned-item : (item : Item) → is_out (group ∷ groups) item ≡ false → is_pinned (without (group ∷ groups) state) covers item ≡ is_pinned state covers item
  unfolding without
  pinned-item (main key) stays = ap (λ (o : Option ℕ). option_map_or (is_named state) o false) (first-same (group ∷ groups) (main key) 0 state.objects stays)
  pinned-item (part key n) stays = refl

  -- what may be evicted after the first eviction units
  groups-behind : (behind : List Group) → groups_from_back (is_pinned state covers) (reverse state.uses) ≡ (group ∷ groups) ++ behind → groups_from_back (is_pinned (without (group ∷ groups) state) covers) (reverse (without (group ∷ groups) state).uses) ≡ behind
  unfolding without
  groups-behind behind e =
      ap (groups_from_back (is_pinned (without (group ∷ groups) state) covers)) uses-are
      ∙ others-left (group ∷ groups) (reverse state.uses) (group ∷ groups) behind (is_pinned state covers) (is_pinned (without (group ∷ groups) state) covers) going e
    where
      uses-are : reverse (without (group ∷ groups) state).uses ≡ not_out (group ∷ groups) (reverse state.uses)
      uses-are = filter-reverse (λ item. not (is_out (group ∷ groups) item)) state.uses

      going : Going (group ∷ groups) (group ∷ groups) (is_pinned state covers) (is_pinned (without (group ∷ groups) state) covers) (reverse state.uses)
      going = record {
        same = pinned-item;
        gone = λ item h out. inl out;
        among = λ item out. out;
        once = λ item. subst (λ n. n ≤ 1) (sym (times-reverse item state.uses)) (valid.once item);
      }

  -- until there is enough the others are evicted
  pub others-go : (enough : State → Bool) (others : List Group) → evicted_until enough state covers ≡ (group ∷ groups) ++ others → evicted_until enough (without (group ∷ groups) state) covers ≡ others
  unfolding evicted_until
  others-go enough others e =
      let r = rest-of (λ gone. enough (without gone state)) (groups_from_back (is_pinned state covers) (reverse state.uses)) (group ∷ groups) others e in
      ap (shortest (λ gone. enough (without gone (without (group ∷ groups) state))) []) (groups-behind r.behind r.are)
      ∙ same-shortest (λ gone. enough (without gone (without (group ∷ groups) state))) (λ gone. enough (without ((group ∷ groups) ++ gone) state)) [] r.behind (λ gone. ap enough (groups-turn state (group ∷ groups) gone))
      ∙ r.shortest-is

  module _ (stay : (key : List ℕ) (n : ℕ) → list_any (same_item (part key n)) covers ≡ true → is_out (group ∷ groups) (part key n) ≡ false) where
    parts-same : (object : Object) → filter (λ (p : ℕ × PartValue). list_any (same_item (part object.key p.0)) covers) (kept_parts (group ∷ groups) object) ≡ filter (λ (p : ℕ × PartValue). list_any (same_item (part object.key p.0)) covers) object.parts
    parts-same object = filter-both (λ (p : ℕ × PartValue). list_any (same_item (part object.key p.0)) covers) (λ (p : ℕ × PartValue). not (is_out (group ∷ groups) (part object.key p.0))) object.parts (λ p h. ap not (stay object.key p.0 h))

    abbrev PinnedSame : ℕ → Option Object → Type 0
    PinnedSame n slot = option_and_then (pinned_of (without (group ∷ groups) state) covers n) (option_and_then (left_of (group ∷ groups)) slot) ≡ option_and_then (pinned_of state covers n) slot

    slot-same : (n : ℕ) (slot : Option Object) → object_at state n ≡ slot → PinnedSame n slot
    unfolding pinned_of left_of without
    slot-same n None here = refl
    slot-same n (Some object) here =
        then-cond (pinned_of (without (group ∷ groups) state) covers n) (object.live && is_out (group ∷ groups) (main object.key)) (record object { parts = kept_parts (group ∷ groups) object })
        ∙ stays-pinned object.live (is_named state n) (is_out (group ∷ groups) (main object.key)) _ _
        (ap (λ (ps : List (ℕ × PartValue)). Some (record object { parts = ps })) (parts-same object))
        (λ held. named_stays state valid covers (group ∷ groups) loose n object here held)

    from-same : (start : ℕ) (slots : List (Option Object)) → ((k : ℕ) → PinnedSame (start + k) (get_or slots k None)) → pinned_from (without (group ∷ groups) state) covers start (map (option_and_then (left_of (group ∷ groups))) slots) ≡ pinned_from state covers start slots
    from-same start [] each = refl
    from-same start (slot ∷ slots) each =
        ap₂ (λ (o : Option Object) (more : List (Option Object)). o ∷ more)
        (subst (λ n. PinnedSame n slot) (let e : start + 0 ≡ start = omega arith in e) (each 0))
        (from-same (start + 1) slots (λ k. subst (λ n. PinnedSame n (get_or slots k None)) (let e : start + suc k ≡ start + 1 + k = omega arith in e) (each (suc k))))

    pub pinned-same : pinned (without (group ∷ groups) state) covers ≡ pinned state covers
    unfolding without
    pinned-same = from-same 0 state.objects (λ k. subst (λ n. PinnedSame n (get_or state.objects k None)) (let e : k ≡ 0 + k = omega arith in e) (slot-same k (object_at state k) refl))

    limits-same : (without (group ∷ groups) state).limits ≡ state.limits
    unfolding without
    limits-same = refl

    -- space for as much is made by the others, or all fits
    pub room-left : (bytes more : ℕ) (others : List Group) → is_full (room state covers bytes more) ≡ false → evicted_for (room state covers bytes more) ≡ (group ∷ groups) ++ others
        → (room (without (group ∷ groups) state) covers bytes more ≡ after others) ⊎ (room (without (group ∷ groups) state) covers bytes more ≡ after [])
    room-left bytes more others free goes = go (fits state.limits.max_bytes bytes more left) refl where
      left : State
      left = without (group ∷ groups) state

      facts : ((bytes == 0 && more == 0) ≡ false) × (over state covers bytes more ≡ false) × (evicted_until (fits (low state) bytes more) state covers ≡ group ∷ groups ++ others)
      facts = decided-facts (bytes == 0 && more == 0) (over state covers bytes more) (fits state.limits.max_bytes bytes more state) (evicted_until (fits (low state) bytes more) state covers) group (groups ++ others)
          (ap is_full (sym (room-is state covers bytes more)) ∙ free) (ap evicted_for (sym (room-is state covers bytes more)) ∙ goes)

      over-same : over left covers bytes more ≡ false
      over-same = ap (λ (slots : List (Option Object)). over_in left.limits slots bytes more) pinned-same ∙ ap (λ (l : Bounds). over_in l (pinned state covers) bytes more) limits-same ∙ facts.1

      low-same : fits (low left) bytes more ≡ fits (low state) bytes more
      low-same = ap (λ (l : Bounds). fits (l.max_bytes - l.max_bytes / free_share) bytes more) limits-same

      room-is-left : room left covers bytes more ≡ cond (fits state.limits.max_bytes bytes more left) (after []) (after others)
      room-is-left =
          room-is left covers bytes more
          ∙ ap (λ (b : Bool). decided b (over left covers bytes more) (fits left.limits.max_bytes bytes more left) (evicted_until (fits (low left) bytes more) left covers)) facts.0
          ∙ ap (λ (b : Bool). decided false b (fits left.limits.max_bytes bytes more left) (evicted_until (fits (low left) bytes more) left covers)) over-same
          ∙ ap (λ (l : Bounds). cond (fits l.max_bytes bytes more left) (after []) (after (evicted_until (fits (low left) bytes more) left covers))) limits-same
          ∙ ap (λ (gs : List Group). cond (fits state.limits.max_bytes bytes more left) (after []) (after gs)) (ap (λ (enough : State → Bool). evicted_until enough left covers) low-same ∙ others-go (fits (low state) bytes more) others facts.2)

      go : (b : Bool) → fits state.limits.max_bytes bytes more left ≡ b → (room left covers bytes more ≡ after others) ⊎ (room left covers bytes more ≡ after [])
      go true e = inr (room-is-left ∙ ap (λ (b : Bool). cond b (after []) (after others)) e)
      go false e = inl (room-is-left ∙ ap (λ (b : Bool). cond b (after []) (after others)) e)
