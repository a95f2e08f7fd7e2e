-- The durable contents before a command and after it are something that a crash in it may leave.
use Rattle.std.proofs.Common.{◌≡◌, ℕ, ◌+◌, ◌≤◌, Bool, true, false, not, ◌&&◌, ◌||◌, cond, List, [], ◌∷◌, Some, None, Option, refl, ap, sym, ◌∙◌, subst, arith, length}
use Rattle.std.specs.List.{filter_map, cons_option}
use Rattle.std.specs.Str.{bytes_eq}
use Rattle.std.proofs.lemmas.Bool.{and_parts, and_from}
use Rattle.std.proofs.lemmas.List.{take_all}
use Rattle.blk_model.specs.Items.{Item, main, part, Row, key_of, times}
use Rattle.blk_model.specs.State.{Object, State, IsValidState, object_at, has_item, slot_has_item, owners}
use Rattle.blk_model.specs.Holding.{row_in, owner, settled_row, rest}
use Rattle.blk_model.specs.Request.{Request, IsRequest}
use Rattle.blk_model.specs.Step.{step}
use Rattle.blk_model.specs.ListSteps.{after_steps, list_steps, list_after}
use Rattle.blk_model.specs.Stops.{is_live, is_live_and_settled, differ, is_safe, is_turned, picked, pick, StopOutcome}
use Rattle.blk_model.proofs.Same.{same_bytes, bytes_eq_self, same_item_self}
use Rattle.blk_model.proofs.Slots.{owners-has}
use Rattle.blk_model.proofs.Times.{times-cons}
use Rattle.blk_model.proofs.Owners.{has_item_main}
use Rattle.blk_model.proofs.Doomed.{contrary}
use Rattle.blk_model.proofs.Steps.{step_valid}
use Rattle.blk_model.proofs.LruList.{uses_after_steps}
use Rattle.blk_model.proofs.Leads.{Leads, LeadsTo, IsFresh, may_settle, step_leads}
use Rattle.blk_model.proofs.Chosen.{Owner, owned_at, owner_of, has_owner, settled_chooses, picked_chooses, stays_through}

-- two tests that agree on the items of a list give the same rows
same_rows : (f g : Item → Option Row) (list : List Item) → ((item : Item) → 1 ≤ times item list → f item ≡ g item) → filter_map f list ≡ filter_map g list
same_rows f g [] same = refl
same_rows f g (j ∷ list) same =
    let stands : times j (j ∷ list) ≡ 1 + times j list = times-cons j j list ∙ ap (λ b. cond b 1 0 + times j list) (same_item_self j) in
    let rest = same_rows f g list (λ item some. let more = times-cons item j list in same item (omega arith)) in
    ap (λ o. cons_option o (filter_map f list)) (same j (omega arith)) ∙ ap (cons_option (g j)) rest

-- who has an item is live
pub owner_live : (object : Object) (item : Item) → has_item object item ≡ true → object.live ≡ true
owner_live object (main key) has = (and_parts _ _ has).0
owner_live object (part key n) has = (and_parts object.live _ (and_parts (object.live && bytes_eq key object.key) _ has).0).0

pub owner_key : (object : Object) (item : Item) → has_item object item ≡ true → key_of item ≡ object.key
owner_key object (main key) has = same_bytes key object.key (and_parts object.live _ has).1
owner_key object (part key n) has = same_bytes key object.key (and_parts object.live _ (and_parts (object.live && bytes_eq key object.key) _ has).0).1

-- the tests of a crash, of one object that is live before
stays_by : (settled live_after settled_after with : Bool) → Bool
stays_by settled live_after settled_after with = (settled && (settled_after || not live_after)) || (with && (live_after && differ settled settled_after))

-- with objects in transition what stays is what was clean, if no object becomes clean by the command
turned_stay : (settled live after_settled : Bool) → (live ≡ true → after_settled ≡ true → settled ≡ true) → stays_by settled live (live && after_settled) true ≡ settled
unfolding stays_by
turned_stay true true true h = refl
turned_stay true true false h = refl
turned_stay true false after h = refl
turned_stay false true true h = sym (h refl refl)
turned_stay false true false h = refl
turned_stay false false after h = refl

-- without them the same, if no object becomes dirty by the command
unturned_stay : (settled live after_settled : Bool) → (live ≡ true → settled ≡ true → after_settled ≡ true) → stays_by settled live (live && after_settled) false ≡ settled
unfolding stays_by
unturned_stay true true true h = refl
unturned_stay true true false h = h refl refl
unturned_stay true false after h = refl
unturned_stay false true true h = refl
unturned_stay false true false h = refl
unturned_stay false false after h = refl

-- what stays of an object that is live before and after
either_stays : (with closes settled after_settled : Bool) → with ≡ closes → (closes ≡ false → after_settled ≡ true → settled ≡ true) → (closes ≡ true → settled ≡ true → after_settled ≡ true) → stays_by settled true after_settled with ≡ after_settled
unfolding stays_by
either_stays true true true true e h g = refl
either_stays true true true false e h g = sym (g refl refl)
either_stays true true false true e h g = refl
either_stays true true false false e h g = refl
either_stays true false settled after e h g = absurd (contrary e refl)
either_stays false true settled after e h g = absurd (contrary refl e)
either_stays false false true true e h g = refl
either_stays false false true false e h g = refl
either_stays false false false true e h g = h refl refl
either_stays false false false false e h g = refl

-- the test of a pick, of an object that is there before
stays_is : (before after : State) (with : Bool) (number : ℕ) (object : Object) → object_at before number ≡ Some object → object.live ≡ true →
    stays_through before after with number ≡ stays_by object.settled (is_live (object_at after number)) (is_live_and_settled (object_at after number)) with
unfolding stays_by is_safe is_turned
stays_is before after with number object here live =
    let a = is_live (object_at after number) in
    let t = is_live_and_settled (object_at after number) in
    ap (λ s. (is_live_and_settled s && (t || not a)) || (with && (is_live s && a && differ (is_live_and_settled s) t))) here
    ∙ ap (λ l. ((l && object.settled) && (t || not a)) || (with && (l && a && differ (l && object.settled) t))) live

-- what an object is after a command, as the tests see it
after_of : (slot : Option Object) → Bool
after_of None = false
after_of (Some object) = object.settled

live_and_settled_is : (slot : Option Object) → is_live_and_settled slot ≡ (is_live slot && after_of slot)
unfolding after_of
live_and_settled_is None = refl
live_and_settled_is (Some object) = refl

-- no object becomes clean by a command that makes none clean, and none becomes dirty by one that may make some clean
none_settled : (closes : Bool) (Fresh : Object → Type 0) (old : Object) (slot : Option Object) → Leads closes Fresh (Some old) slot → closes ≡ false → is_live slot ≡ true → after_of slot ≡ true → old.settled ≡ true
unfolding after_of
none_settled closes Fresh old None leads no_close live settled = cc
none_settled closes Fresh old (Some new) leads no_close live settled = leads.unturned no_close live settled

none_unsettled : (closes : Bool) (Fresh : Object → Type 0) (old : Object) (slot : Option Object) → Leads closes Fresh (Some old) slot → closes ≡ true → is_live slot ≡ true → old.settled ≡ true → after_of slot ≡ true
unfolding after_of
none_unsettled closes Fresh old None leads may live settled = cc
none_unsettled closes Fresh old (Some new) leads may live settled = leads.stays may live settled

before_stays : (closes : Bool) (Fresh : Object → Type 0) (old : Object) (slot : Option Object) → Leads closes Fresh (Some old) slot → stays_by old.settled (is_live slot) (is_live slot && after_of slot) (not closes) ≡ old.settled
before_stays true Fresh old slot leads = unturned_stay old.settled (is_live slot) (after_of slot) (none_unsettled true Fresh old slot leads refl)
before_stays false Fresh old slot leads = turned_stay old.settled (is_live slot) (after_of slot) (none_settled false Fresh old slot leads refl)

-- the durable contents before are picked from the LRU list before
pub picked_before : (before after : State) (closes : Bool) → ((n : ℕ) → Leads closes (IsFresh before) (object_at before n) (object_at after n)) → (item : Item) → picked before after (not closes) item ≡ settled_row before item
picked_before before after closes leads item =
    let picks = picked_chooses before after (not closes) in
    let settles = settled_chooses before in
    elim (owner before item) as (λ o. owner before item ≡ o → picked before after (not closes) item ≡ settled_row before item) [
      | None ↦ λ none. picks.nobody item none ∙ sym (settles.nobody item none)
      | Some m ↦ λ found.
          let o = owner_of before item m found in
          let live = owner_live o.object item o.has in
          let slot = object_at after o.number in
          picks.somebody item o
          ∙ ap (λ b. cond b (row_in o.object item) None) (stays_is before after (not closes) o.number o.object o.here live
          ∙ ap (λ t. stays_by o.object.settled (is_live slot) t (not closes)) (live_and_settled_is slot)
          ∙ before_stays closes (IsFresh before) o.object slot (subst (λ s. Leads closes (IsFresh before) s slot) o.here (leads o.number)))
          ∙ sym (settles.somebody item o)
    ] refl

-- no object had an item of a fresh object before
pub fresh_owner : (before : State) (item : Item) (new : Object) → has_item new item ≡ true → IsFresh before new → Owner before item → ⊥
fresh_owner before item new has fresh o =
    let has_main = owners-has (main (key_of item)) o.number before.objects (ap (slot_has_item (main (key_of item))) o.here ∙ has_item_main item (Some o.object) o.has) in
    let none : owners (main (key_of item)) before.objects ≡ 0 = ap (λ k. owners (main k) before.objects) (owner_key new item has) ∙ fresh in
    absurd (omega arith)

-- who had an item of an object that was there before is that object
pub same_owner : (before : State) (valid : IsValidState before) (item : Item) (n : ℕ) (old : Object) → object_at before n ≡ Some old → old.live ≡ true → key_of item ≡ old.key → (o : Owner before item) → o.number ≡ n
same_owner before valid item n old here live key o =
    let mine : owner before (main (key_of item)) ≡ Some n = owned_at before valid n old (main (key_of item)) here (and_from _ _ live (subst (λ k. bytes_eq (key_of item) k ≡ true) key (bytes_eq_self (key_of item)))) in
    let theirs : owner before (main (key_of item)) ≡ Some o.number = owned_at before valid o.number o.object (main (key_of item)) o.here (has_item_main item (Some o.object) o.has) in
    let same : Some o.number ≡ Some n = sym theirs ∙ mine in cc

row_or_none : (b settled : Bool) (row old_row : Option Row) → b ≡ settled → (settled ≡ true → row ≡ old_row) → cond b old_row None ≡ cond settled row None
row_or_none true true row old_row e h = sym (h refl)
row_or_none true false row old_row e h = absurd (contrary e refl)
row_or_none false true row old_row e h = absurd (contrary refl e)
row_or_none false false row old_row e h = refl

nobody_is : (m n : ℕ) → Some m ≡ None → ⊥
nobody_is m n e = cc

-- an item of an object that was there before is picked exactly where the object is clean after
after_was : (before after : State) (valid : IsValidState before) (closes : Bool) (item : Item) (now : Owner after item) (old : Object) → object_at before now.number ≡ Some old → LeadsTo closes old now.object → picked before after closes item ≡ settled_row after item
after_was before after valid closes item now old here leads =
    let picks = picked_chooses before after closes in
    let settles = settled_chooses after in
    let live = owner_live now.object item now.has in
    let was_live = leads.live live in
    elim (owner before item) as (λ o. owner before item ≡ o → picked before after closes item ≡ settled_row after item) [
      | None ↦ λ none.
          let unsettled : now.object.settled ≡ false = elim (now.object.settled) as (λ b. now.object.settled ≡ b → b ≡ false) [
            | false ↦ λ s. refl
            | true ↦ λ s. let had = leads.items live s item now.has in absurd (nobody_is now.number 0 (sym (owned_at before valid now.number old item here had.0) ∙ none))
          ] refl in
          picks.nobody item none ∙ sym (settles.somebody item now ∙ ap (λ b. cond b (row_in now.object item) None) unsettled)
      | Some m ↦ λ found.
          let o = owner_of before item m found in
          let number : o.number ≡ now.number = same_owner before valid item now.number old here was_live (owner_key now.object item now.has ∙ leads.key) o in
          let object_is : Some o.object ≡ Some old = sym o.here ∙ ap (object_at before) number ∙ here in
          let object : o.object ≡ old = cc in
          let stays : stays_through before after closes now.number ≡ now.object.settled =
          stays_is before after closes now.number old here was_live ∙ ap (λ s. stays_by old.settled (is_live s) (is_live_and_settled s) closes) now.here ∙ ap (λ l. stays_by old.settled l (l && now.object.settled) closes) live
          ∙ either_stays closes closes old.settled now.object.settled refl (λ c s. leads.unturned c live s) (λ c s. leads.stays c live s) in
          picks.somebody item o
          ∙ ap (λ k. cond (stays_through before after closes k) (row_in o.object item) None) number
          ∙ ap (λ x. cond (stays_through before after closes now.number) (row_in x item) None) object
          ∙ row_or_none (stays_through before after closes now.number) now.object.settled (row_in now.object item) (row_in old item) stays (λ s. (leads.items live s item now.has).1)
          ∙ sym (settles.somebody item now)
    ] refl

-- an item of a new object is not picked, and the object is not clean
after_new : (before after : State) (closes : Bool) (item : Item) (now : Owner after item) → now.object.settled ≡ false → IsFresh before now.object → picked before after closes item ≡ settled_row after item
after_new before after closes item now loose fresh =
    let picks = picked_chooses before after closes in
    let settles = settled_chooses after in
    elim (owner before item) as (λ o. owner before item ≡ o → picked before after closes item ≡ settled_row after item) [
      | None ↦ λ none. picks.nobody item none ∙ sym (settles.somebody item now ∙ ap (λ b. cond b (row_in now.object item) None) loose)
      | Some m ↦ λ found. absurd (fresh_owner before item now.object now.has fresh (owner_of before item m found))
    ] refl

-- the durable contents after are picked from the LRU list after
picked_after : (before after : State) (valid : IsValidState before) (valid_after : IsValidState after) (closes : Bool) → ((n : ℕ) → Leads closes (IsFresh before) (object_at before n) (object_at after n)) → (item : Item) → 1 ≤ times item after.uses →
    picked before after closes item ≡ settled_row after item
picked_after before after valid valid_after closes leads item some =
    let listed = valid_after.listed item in
    let now = has_owner after item (omega arith) in
    let to_now = subst (Leads closes (IsFresh before) (object_at before now.number)) now.here (leads now.number) in
    elim (object_at before now.number) as (λ s. object_at before now.number ≡ s → Leads closes (IsFresh before) s (Some now.object) → picked before after closes item ≡ settled_row after item) [
      | None ↦ λ e new. after_new before after closes item now new.0 new.1
      | Some old ↦ λ e was. after_was before after valid closes item now old e was
    ] refl to_now

-- the durable contents before a command may be left by a crash in it
pub rest_before : (state : State) (moment : ℕ) (request : Request) → IsValidState state → StopOutcome state moment request (step state moment request).state (rest state)
unfolding rest pick list_after
rest_before state moment request valid =
    let after = (step state moment request).state in
    record {
      step_count = 0;
      within = omega arith;
      with_turned = not (may_settle request);
      picked_rows = sym (same_rows (picked state after (not (may_settle request))) (settled_row state) state.uses (λ item some. picked_before state after (may_settle request) (step_leads state valid moment request) item));
    }

-- the durable contents after a command may be left by a crash in it
pub rest_after : (state : State) (moment : ℕ) (request : Request) → IsValidState state → IsRequest request → StopOutcome state moment request (step state moment request).state (rest (step state moment request).state)
unfolding rest pick list_after
rest_after state moment request valid can =
    let after = (step state moment request).state in
    let steps = list_steps state moment request in
    let closes = may_settle request in
    record {
      step_count = length steps;
      within = omega arith;
      with_turned = closes;
      picked_rows = sym (ap (λ taken. filter_map (picked state after closes) (after_steps taken state.uses)) (take_all (length steps) steps (omega arith))
          ∙ ap (filter_map (picked state after closes)) (uses_after_steps state moment request valid)
          ∙ same_rows (picked state after closes) (settled_row after) after.uses (picked_after state after valid (step_valid state moment request valid can) closes (step_leads state valid moment request)));
    }
