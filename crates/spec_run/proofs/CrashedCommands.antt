-- What is found where a command crashes: rows from before it, those of an object together, and in the order of one list.
use Rattle.std.proofs.Common.{ℕ, zero, suc, ◌+◌, ◌≡◌, inl, inr, ⊎_elim, Bool, true, false, not, ◌&&◌, ◌||◌, cond, List, [], ◌∷◌, take, Option, None, Some, is_some, refl, sym, ◌∙◌, ap, subst, arith}
use Rattle.std.specs.List.{Contains, filter, filter_map}
use Rattle.std.specs.Option.{option_and_then, option_map}
use Rattle.std.specs.Str.{bytes_eq}
use Rattle.std.proofs.lemmas.Bool.{and_parts}
use Rattle.spec_image.specs.Image.{Image}
use Rattle.spec_image.specs.Steps.{TrailStep}
use Rattle.spec_image.specs.Notes.{notes_in}
use Rattle.blk_model.specs.Holding.{owner, row_in, row_of}
use Rattle.blk_model.specs.Items.{Item, main, part, PartValue, Row, main_row, part_row, item_of, same_item}
use Rattle.blk_model.specs.ListSteps.{ListStep, out, front, after_step, after_steps, list_after, list_steps}
use Rattle.blk_model.specs.Request.{Request}
use Rattle.blk_model.specs.Room.{takes}
use Rattle.blk_model.specs.State.{Object, State, has_item, object_at, part_at}
use Rattle.blk_model.specs.Stops.{StopOutcome, differ, is_live, is_live_and_settled, is_safe, is_turned, pick, picked}
use Rattle.blk_model.proofs.Chosen.{Owner, chosen_owner, cond_some, owner_of, picked_chooses, row_item, stays_through}
use Rattle.spec_folder.specs.Found.{found}
use Rattle.spec_run.specs.Moments.{IsLeftAt}
use Rattle.spec_run.specs.Run.{Stamped, state_after, state_at, state_then}
use Rattle.spec_run.specs.Laws.{CrashesIn, FoundRowsAreFromBefore, FoundRowsGoByOneList, GoBy, IsFromBefore, Precedes, UnsavedItemsAreLost, UnusedItemsKeepTheirOrder, is_clean_before_or_after}
use Rattle.spec_run.proofs.ListOrder.{contained_cases, filter_back, filter_precedes, first_contained, given_among, given_back, given_precedes, later_contained}
use Rattle.spec_run.proofs.SettledEntries.{next_state}
use Rattle.spec_run.proofs.StepFacts.{true_false}

-- What a crash in a command leaves.

abbrev pub Leaves : State → Stamped → List Row → Type 0
Leaves state command rows = StopOutcome state command.moment command.request (state_then state command) rows

pub crash_leaves : (from image : Image) (opened state : State) (commands : List Stamped) (steps : List TrailStep) (command : Stamped) → CrashesIn from image opened state commands steps command → Leaves state command (found image)
crash_leaves from image opened state commands steps command crash =
    let n = notes_in steps in
    let more : n + 1 ≡ suc n = omega arith in
    let after : state_at opened commands (n + 1) ≡ state_then (state_at opened commands n) command = ap (λ (m : ℕ). state_after opened (take m commands)) more ∙ next_state opened commands n command crash.next in
    let left : IsLeftAt opened commands n (Some command) (found image) = subst (λ (o : Option Stamped). IsLeftAt opened commands n o (found image)) crash.next (crash.stopped.left.later crash.opens) in
    subst (λ (s : State). Leaves s command (found image)) (sym crash.state_is)
    (subst (λ (s : State). StopOutcome (state_at opened commands n) command.moment command.request s (found image)) after left)

-- A row that is picked.

pub row_at : (state : State) (item : Item) (o : Owner state item) → row_of state item ≡ row_in o.object item
unfolding row_of
row_at state item o = ap (λ s. option_and_then (λ (x : Object). row_in x item) (option_and_then (object_at state) s)) o.found ∙ ap (λ s. option_and_then (λ (x : Object). row_in x item) s) o.here

-- who has its item stays through the crash, and it is the value of that item before
record IsPicked (before after : State) (with : Bool) (item : Item) (row : Row) : Type 0 where
  pub by : Owner before item
  pub stays : stays_through before after with by.number ≡ true
  pub value : row_in by.object item ≡ Some row

is_picked : (before after : State) (with : Bool) (item : Item) (row : Row) → picked before after with item ≡ Some row → IsPicked before after with item row
is_picked before after with item row is =
    let chooses = picked_chooses before after with in
    let o = chosen_owner before (picked before after with) (λ number object. stays_through before after with number) chooses item row is in
    let both = cond_some (stays_through before after with o.number) (row_in o.object item) row (sym (chooses.somebody item o) ∙ is) in
    record { by = o; stays = both.0; value = both.1 }

clean_either : (clean live clean_after live_after with : Bool) → ((clean && (clean_after || not live_after)) || (with && (live && live_after && differ clean clean_after))) ≡ true → (clean || clean_after) ≡ true
clean_either true l c m w stays = refl
clean_either false l true m w stays = refl
clean_either false true false true true stays = stays
clean_either false true false true false stays = stays
clean_either false true false false true stays = stays
clean_either false true false false false stays = stays
clean_either false false false m true stays = stays
clean_either false false false m false stays = stays

-- who stays through a crash is clean before or after
stays_clean : (before after : State) (with : Bool) (number : ℕ) → stays_through before after with number ≡ true → (is_live_and_settled (object_at before number) || is_live_and_settled (object_at after number)) ≡ true
unfolding is_safe is_turned
stays_clean before after with number stays =
    clean_either (is_live_and_settled (object_at before number)) (is_live (object_at before number)) (is_live_and_settled (object_at after number)) (is_live (object_at after number)) with stays

from_before : (state : State) (command : Stamped) (with : Bool) (item : Item) (row : Row) → IsPicked state (state_then state command) with item row → IsFromBefore state command row
from_before state command with item row pick =
    let same : item_of row ≡ item = row_item pick.by.object item row pick.value in
    record {
      number = pick.by.number;
      owned = ap (owner state) same ∙ pick.by.found;
      row_is = ap (row_of state) same ∙ row_at state item pick.by ∙ pick.value;
      clean = stays_clean state (state_then state command) with pick.by.number pick.stays;
    }

-- an item that an object has has a row
has_row : (object : Object) (item : Item) → has_item object item ≡ true → (row : Row) × (row_in object item ≡ Some row)
has_row object (main key) has = (main_row key object.shape object.streams, refl)
has_row object (part key n) has = some (part_at object n) (and_parts (object.live && bytes_eq key object.key) (is_some (part_at object n)) has).1
  where
    some : (o : Option PartValue) → is_some o ≡ true → (row : Row) × (option_map (λ value. part_row key n value) o ≡ Some row)
    some None is = true_false is refl
    some (Some value) is = (part_row key n value, refl)

pub number_same : (m n : ℕ) → Some m ≡ Some n → m ≡ n
number_same m n e = cc

-- with an item the others of its object are picked
picked_together : (before after : State) (with : Bool) (item other : Item) (row : Row) → IsPicked before after with item row → owner before other ≡ owner before item
    → (value : Row) × (row_of before other ≡ Some value) × (picked before after with other ≡ Some value)
picked_together before after with item other row pick same =
    let o = owner_of before other pick.by.number (same ∙ pick.by.found) in
    let number : o.number ≡ pick.by.number = number_same o.number pick.by.number (sym o.found ∙ same ∙ pick.by.found) in
    let value = has_row o.object other o.has in (
      value.0,
      row_at before other o ∙ value.1,
      (picked_chooses before after with).somebody other o ∙ ap (λ (n : ℕ). cond (stays_through before after with n) (row_in o.object other) None) number ∙ ap (λ (b : Bool). cond b (row_in o.object other) None) pick.stays ∙ value.1,
    )

-- Rows that follow a list.

go_by : (state after : State) (with : Bool) (list : List Item) → GoBy state list (filter_map (picked state after with) list)
go_by state after with list =
    let f = picked state after with in
    let from : (row : Row) → Contains (filter_map f list) row → Contains list (item_of row) × (f (item_of row) ≡ Some row) = λ row there.
    let back = given_back f list row there in
    let pick = is_picked state after with back.0 row back.2 in
    let same : back.0 ≡ item_of row = sym (row_item pick.by.object back.0 row pick.value) in
    (subst (λ (i : Item). Contains list i) same back.1, ap f (sym same) ∙ back.2) in
    record {
      listed = λ row there. (from row there).0;
      together = λ row item there same listed.
          let pick = is_picked state after with (item_of row) row (from row there).1 in
          let value = picked_together state after with (item_of row) item row pick same in
          (value.0, value.1, given_among f list item value.0 value.2 listed);
      in_order = λ one other there there_too before. given_precedes f list (item_of one) (item_of other) one other (from one there).1 (from other there_too).1 before;
    }

pub leaves_by : (state : State) (command : Stamped) (rows : List Row) (left : Leaves state command rows) → GoBy state (list_after state command.moment command.request left.step_count) rows
unfolding pick
leaves_by state command rows left =
    let list = list_after state command.moment command.request left.step_count in
    subst (λ (held : List Row). GoBy state list held) (sym left.picked_rows) (go_by state (state_then state command) left.with_turned list)

pub row_from_before : (state : State) (command : Stamped) (rows : List Row) → Leaves state command rows → (row : Row) → Contains rows row → IsFromBefore state command row
unfolding pick
row_from_before state command rows left row there =
    let f = picked state (state_then state command) left.with_turned in
    let list = list_after state command.moment command.request left.step_count in
    let back = given_back f list row (subst (λ (held : List Row). Contains held row) left.picked_rows there) in
    from_before state command left.with_turned back.0 row (is_picked state (state_then state command) left.with_turned back.0 row back.2)

pub rows_are_from_before : FoundRowsAreFromBefore
rows_are_from_before from image opened state commands steps command crash row there =
    row_from_before state command (found image) (crash_leaves from image opened state commands steps command crash) row there

none_is_some : {P : Type 0} (n : ℕ) → None ≡ Some n → P
none_is_some n e = absurd (clash e)
  where
    clash : None ≡ Some n → ⊥
    clash c = cc

pub unsaved_are_lost : UnsavedItemsAreLost
unsaved_are_lost from image opened state commands steps command crash row unsaved there =
    let before = rows_are_from_before from image opened state commands steps command crash row there in
    ⊎_elim
    (λ (nobody : owner state (item_of row) ≡ None). none_is_some before.number (sym nobody ∙ before.owned))
    (λ (dirty : (number : ℕ) × (owner state (item_of row) ≡ Some number) × (is_clean_before_or_after state command number ≡ false)).
    let same : before.number ≡ dirty.0 = number_same before.number dirty.0 (sym before.owned ∙ dirty.1) in
    true_false before.clean (ap (is_clean_before_or_after state command) same ∙ dirty.2))
    unsaved

pub rows_go_by_one_list : FoundRowsGoByOneList
rows_go_by_one_list from image opened state commands steps command crash =
    let left = crash_leaves from image opened state commands steps command crash in
    (left.step_count, left.within, leaves_by state command (found image) left)

-- The order of two items.

-- where both are listed the one precedes the other
abbrev IsOrdered : Item → Item → List Item → Type 0
IsOrdered one other items = Contains items one → Contains items other → Precedes items one other

ordered_step : (one other : Item) (items : List Item) (step : ListStep) → IsOrdered one other items → (step ≡ front other → ⊥) → IsOrdered one other (after_step items step)
ordered_step one other items (out group) ordered unused there there_too =
    let test = λ (item : Item). not (takes item group) in
    let a = filter_back test items one there in
    let b = filter_back test items other there_too in
    filter_precedes test items one other a.1 b.1 (ordered a.0 b.0)
ordered_step one other items (front item) ordered unused there there_too =
    let test = λ (i : Item). not (same_item item i) in
    ⊎_elim
    (λ (same : item ≡ other). absurd (unused (ap front same)))
    (λ (later : Contains (filter test items) other).
    ⊎_elim
    (λ (first : item ≡ one). inl (first, later))
    (λ (behind : Contains (filter test items) one).
    let a = filter_back test items one behind in
    let b = filter_back test items other later in
    inr (filter_precedes test items one other a.1 b.1 (ordered a.0 b.0)))
    (contained_cases item (filter test items) one there))
    (contained_cases item (filter test items) other there_too)

ordered_steps : (one other : Item) (steps : List ListStep) (items : List Item) → IsOrdered one other items → (Contains steps (front other) → ⊥) → (count : ℕ) → IsOrdered one other (after_steps (take count steps) items)
ordered_steps one other steps items ordered unused zero = ordered
ordered_steps one other [] items ordered unused (suc count) = ordered
ordered_steps one other (step ∷ steps) items ordered unused (suc count) =
    ordered_steps one other steps (after_step items step)
    (ordered_step one other items step ordered (λ is. unused (subst (λ (s : ListStep). Contains (step ∷ steps) s) is (first_contained step steps))))
    (λ later. unused (later_contained step steps (front other) later)) count

ordered_after : (state : State) (moment : ℕ) (request : Request) (one other : Item) → Precedes state.uses one other → (Contains (list_steps state moment request) (front other) → ⊥) → (count : ℕ)
    → IsOrdered one other (list_after state moment request count)
unfolding list_after
ordered_after state moment request one other before unused count = ordered_steps one other (list_steps state moment request) state.uses (λ there there_too. before) unused count

pub unused_keep_their_order : UnusedItemsKeepTheirOrder
unused_keep_their_order from image opened state commands steps command crash one other there there_too before unused =
    let left = crash_leaves from image opened state commands steps command crash in
    let by = leaves_by state command (found image) left in
    by.in_order one other there there_too
    (ordered_after state command.moment command.request (item_of one) (item_of other) before unused left.step_count (by.listed one there) (by.listed other there_too))
