-- What is pinned where no part is in range, and where there is space.
use Rattle.std.proofs.Common.{◌≡◌, ℕ, suc, ◌+◌, Bool, true, false, not, ◌&&◌, ◌||◌, cond, List, [], ◌∷◌, length, Some, None, Option, IfSome, refl, sym, ap, subst, ◌∙◌, arith, get_or}
use Rattle.std.specs.Bool.{◌==◌}
use Rattle.std.specs.List.{filter, list_any, sum_by}
use Rattle.std.proofs.lemmas.List.Sums.{sum_by-cons}
use Rattle.blk_model.specs.Bounds.{bounds_of}
use Rattle.blk_model.specs.Items.{Item, part, PartValue, same_item}
use Rattle.blk_model.specs.State.{Bounds, Object, State, is_named, object_at}
use Rattle.blk_model.specs.Refusals.{evicted_for, is_full}
use Rattle.blk_model.specs.Room.{Group, Room, full, after, charge, count_of, evicted_until, fits, item_count, low, of_slot, own_charge, pinned, pinned_from, pinned_of, room, total_of}
use Rattle.blk_cache.specs.CacheKeeping.{named_from}
use Rattle.blk_cache.specs.Covering.{count_in_range}
use Rattle.blk_cache.specs.RoomTold.{NamedObjectsArePinned, RoomIsMade, RoomIsTold, is_over}

-- where no part is in range none is pinned
none-covered : (key : List ℕ) (parts : List (ℕ × PartValue)) → filter (λ (p : ℕ × PartValue). list_any (same_item (part key p.0)) []) parts ≡ []
none-covered key [] = refl
none-covered key (p ∷ parts) = none-covered key parts

-- a doomed object is named
named-too : (live settled named : Bool) → ((live && settled ≡ false) → named ≡ true) → (not live || named) ≡ named
named-too true settled named h = refl
named-too false settled named h = sym (h refl)

one : (n : ℕ) → 1 + 0 + n ≡ suc n
one n = omega arith

none-more : (n m : ℕ) → n ≡ m → 0 + n ≡ m
none-more n m e = omega (arith, e)

-- the slots where what is named is pinned, counted from a number on
abbrev HeldFrom : State → ℕ → List (Option Object) → Type 0
HeldFrom state number slots = (k : ℕ) → IfSome (get_or slots k None) (λ object. (object.live && object.settled ≡ false) → is_named state (number + k) ≡ true)

module _ (state : State) where
  -- what is pinned of an object that is held where it must be
  pinned-is : (number : ℕ) (object : Object) → ((object.live && object.settled ≡ false) → is_named state number ≡ true) → pinned_of state [] number object ≡ cond (is_named state number) (Some (record object { parts = [] })) None
  unfolding pinned_of
  pinned-is number object held =
      ap (λ (b : Bool). cond b (Some (record object { parts = filter (λ (p : ℕ × PartValue). list_any (same_item (part object.key p.0)) []) object.parts })) None) (named-too object.live object.settled (is_named state number) held)
      ∙ ap (λ (ps : List (ℕ × PartValue)). cond (is_named state number) (Some (record object { parts = ps })) None) (none-covered object.key object.parts)

  behind : (number : ℕ) (slot : Option Object) (slots : List (Option Object)) → HeldFrom state number (slot ∷ slots) → HeldFrom state (number + 1) slots
  behind number slot slots held k = subst (λ n. IfSome (get_or slots k None) (λ object. (object.live && object.settled ≡ false) → is_named state n ≡ true)) (let e : number + suc k ≡ number + 1 + k = omega arith in e) (held (suc k))

  here : (number : ℕ) (object : Object) (slots : List (Option Object)) → HeldFrom state number (Some object ∷ slots) → (object.live && object.settled ≡ false) → is_named state number ≡ true
  here number object slots held = subst (λ n. (object.live && object.settled ≡ false) → is_named state n ≡ true) (let e : number + 0 ≡ number = omega arith in e) (held 0)

  alone-charge : (object : Object) → charge (record object { parts = [] }) ≡ own_charge object
  unfolding charge
  alone-charge object = let e : own_charge object + 0 ≡ own_charge object = omega arith in e

  total-from : (number : ℕ) (slots : List (Option Object)) → HeldFrom state number slots → total_of (pinned_from state [] number slots) ≡ sum_by own_charge (named_from state number slots)
  total-from number [] held = refl
  total-from number (None ∷ slots) held = sum_by-cons (of_slot charge) None (pinned_from state [] (number + 1) slots) ∙ none-more (total_of (pinned_from state [] (number + 1) slots)) (sum_by own_charge (named_from state (number + 1) slots)) (total-from (number + 1) slots (behind number None slots held))
  total-from number (Some object ∷ slots) held =
      sum_by-cons (of_slot charge) (pinned_of state [] number object) (pinned_from state [] (number + 1) slots)
      ∙ ap (λ (o : Option Object). of_slot charge o + total_of (pinned_from state [] (number + 1) slots)) (pinned-is number object (here number object slots held))
      ∙ ap (λ (n : ℕ). of_slot charge (cond (is_named state number) (Some (record object { parts = [] })) None) + n) (total-from (number + 1) slots (behind number (Some object) slots held))
      ∙ go (is_named state number)
    where
      go : (b : Bool) → of_slot charge (cond b (Some (record object { parts = [] })) None) + sum_by own_charge (named_from state (number + 1) slots) ≡ sum_by own_charge (cond b (object ∷ named_from state (number + 1) slots) (named_from state (number + 1) slots))
      go true = ap (λ (n : ℕ). n + sum_by own_charge (named_from state (number + 1) slots)) (alone-charge object) ∙ sym (sum_by-cons own_charge object (named_from state (number + 1) slots))
      go false = none-more (sum_by own_charge (named_from state (number + 1) slots)) (sum_by own_charge (named_from state (number + 1) slots)) refl

  count-from : (number : ℕ) (slots : List (Option Object)) → HeldFrom state number slots → count_of (pinned_from state [] number slots) ≡ length (named_from state number slots)
  count-from number [] held = refl
  count-from number (None ∷ slots) held = sum_by-cons (of_slot item_count) None (pinned_from state [] (number + 1) slots) ∙ none-more (count_of (pinned_from state [] (number + 1) slots)) (length (named_from state (number + 1) slots)) (count-from (number + 1) slots (behind number None slots held))
  count-from number (Some object ∷ slots) held =
      sum_by-cons (of_slot item_count) (pinned_of state [] number object) (pinned_from state [] (number + 1) slots)
      ∙ ap (λ (o : Option Object). of_slot item_count o + count_of (pinned_from state [] (number + 1) slots)) (pinned-is number object (here number object slots held))
      ∙ ap (λ (n : ℕ). of_slot item_count (cond (is_named state number) (Some (record object { parts = [] })) None) + n) (count-from (number + 1) slots (behind number (Some object) slots held))
      ∙ go (is_named state number)
    where
      go : (b : Bool) → of_slot item_count (cond b (Some (record object { parts = [] })) None) + length (named_from state (number + 1) slots) ≡ length (cond b (object ∷ named_from state (number + 1) slots) (named_from state (number + 1) slots))
      go true = one (length (named_from state (number + 1) slots))
      go false = none-more (length (named_from state (number + 1) slots)) (length (named_from state (number + 1) slots)) refl

pub named-pinned : NamedObjectsArePinned
named-pinned state valid = record { bytes = total-from state 0 state.objects held; items = count-from state 0 state.objects held } where
  held : HeldFrom state 0 state.objects
  held k = subst (λ n. IfSome (object_at state k) (λ object. (object.live && object.settled ≡ false) → is_named state n ≡ true)) (let e : k ≡ 0 + k = omega arith in e) (valid.held k)

-- ---- space

abbrev decided : Bool → Bool → Bool → List Group → Room
decided none over all gone = cond none (after []) (cond over full (cond all (after []) (after gone)))

room-is : (state : State) (covered : List Item) (bytes more : ℕ) → room state covered bytes more
    ≡ decided (bytes == 0 && more == 0) (is_over state.limits (total_of (pinned state covered)) (count_of (pinned state covered)) bytes more) (fits state.limits.max_bytes bytes more state) (evicted_until (fits (low state) bytes more) state covered)
unfolding room
room-is state covered bytes more = refl

full-is : (none over all : Bool) (gone : List Group) → is_full (decided none over all gone) ≡ not none && over
full-is true over all gone = refl
full-is false true all gone = refl
full-is false false true gone = refl
full-is false false false gone = refl

made-is : (none over all : Bool) (gone : List Group) → is_full (decided none over all gone) ≡ false → evicted_for (decided none over all gone) ≡ cond (none || all) [] gone
made-is true over all gone e = refl
made-is false true all gone e = cc
made-is false false true gone e = refl
made-is false false false gone e = refl

pub room-told : RoomIsTold
room-told cache state image covered parts bytes more k are =
    let p = named-pinned state k.kept.entries.valid in
    ap is_full (room-is state covered bytes more)
    ∙ full-is (bytes == 0 && more == 0) (is_over state.limits (total_of (pinned state covered)) (count_of (pinned state covered)) bytes more) (fits state.limits.max_bytes bytes more state) (evicted_until (fits (low state) bytes more) state covered)
    ∙ ap (λ (l : Bounds). not (bytes == 0 && more == 0) && is_over l (total_of (pinned state covered)) (count_of (pinned state covered)) bytes more) k.limits
    ∙ ap (λ (n : ℕ). not (bytes == 0 && more == 0) && is_over (bounds_of cache.limits) n (count_of (pinned state covered)) bytes more) (are.bytes ∙ ap (λ (n : ℕ). n + parts.bytes) (p.bytes ∙ sym k.open_bytes))
    ∙ ap (λ (n : ℕ). not (bytes == 0 && more == 0) && is_over (bounds_of cache.limits) (cache.open_bytes + parts.bytes) n bytes more) (are.items ∙ ap (λ (n : ℕ). n + count_in_range parts) (p.items ∙ sym k.open_objects))

pub room-made : RoomIsMade
room-made state covered bytes more free =
    ap evicted_for (room-is state covered bytes more)
    ∙ made-is (bytes == 0 && more == 0) (is_over state.limits (total_of (pinned state covered)) (count_of (pinned state covered)) bytes more) (fits state.limits.max_bytes bytes more state) (evicted_until (fits (low state) bytes more) state covered)
    (sym (ap is_full (room-is state covered bytes more)) ∙ free)
