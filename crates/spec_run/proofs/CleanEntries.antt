-- Clean entries that commands let be stay clean, and are found.
use Rattle.std.proofs.Common.{ℕ, zero, suc, ◌+◌, ◌-◌, ◌≤◌, ◌≡◌, ◌==◌, ⊎_elim, Bool, true, false, not, ◌&&◌, ◌||◌, cond, List, [], ◌∷◌, ◌++◌, length, take, drop, get_or, set, Option, None, Some, refl, sym, ◌∙◌, ap, subst, arith}
use Rattle.std.specs.List.{Contains, filter}
use Rattle.std.specs.Option.{option_and_then}
use Rattle.std.specs.Prelude.{unwrap_or}
use Rattle.std.proofs.lemmas.Bool.{and_from, and_parts, cases_Bool, eq-eqb}
use Rattle.std.proofs.lemmas.List.{append-nil}
use Rattle.spec_image.specs.Image.{Image}
use Rattle.spec_image.specs.Steps.{TrailStep, Word, SetLength, Delete, Note, after}
use Rattle.spec_image.specs.Notes.{AtEachPrefix, notes_in}
use Rattle.blk_model.specs.Effects.{closed, created, doomed, doomed_key, doomed_slot, effect, new_object, number_of, opened, released, released_slot, sparse_used, sparse_written, used, with_name, written}
use Rattle.blk_model.specs.Holding.{owner, rest, row_in, row_of, settled_row}
use Rattle.blk_model.specs.Items.{Item, main, part, Row, same_item}
use Rattle.blk_model.specs.ListSteps.{ListStep, out, front, after_step, after_steps, list_after, list_steps}
use Rattle.blk_model.specs.Refusals.{evicted, names_none, refused, refusals}
use Rattle.blk_model.specs.Request.{Request, to_create, to_open, to_read, to_write, to_size, to_sparse_write, to_sparse_read, to_sparse_range, to_doom, to_doom_key, to_close, to_flush, to_list, to_trim, to_total}
use Rattle.blk_model.specs.Room.{Group, is_out, left_of, takes, without}
use Rattle.blk_model.specs.State.{Object, State, IsValidState, has_item, is_named, named_by, object_at}
use Rattle.blk_model.specs.Step.{outcome, step}
use Rattle.blk_model.specs.Stops.{is_live, is_live_and_settled, is_safe}
use Rattle.blk_model.proofs.Chosen.{Owner, has_owner, owned_at, owner_of, settled_chooses}
use Rattle.blk_model.proofs.Doomed.{state_closed}
use Rattle.blk_model.proofs.Each.{any_has}
use Rattle.blk_model.proofs.Evicted.{kept_parts, map_at}
use Rattle.blk_model.proofs.Leads.{IsFresh, Leads, LeadsTo, length-without, may_settle, step_leads}
use Rattle.blk_model.proofs.LruList.{uses_after_steps}
use Rattle.blk_model.proofs.Same.{one_item}
use Rattle.blk_model.proofs.StopRests.{fresh_owner, owner_key, owner_live, same_owner}
use Rattle.blk_model.proofs.Steps.{none_comes}
use Rattle.blk_model.proofs.Written.{without_names}
use Rattle.spec_folder.specs.Found.{found}
use Rattle.spec_run.specs.Laws.{AnsweredEntriesAreFound, ClosesLeaveEntriesClean, IsCleanEntry, IsLeftAlone, LetBe, LetsBe, commands_since, writes_to}
use Rattle.spec_run.specs.Moments.{IsStopped}
use Rattle.spec_run.specs.Opening.{has_opened}
use Rattle.spec_run.specs.Run.{Stamped, command_after, commands_of, first_in, state_after, state_at, state_then}
use Rattle.spec_run.proofs.CrashedCommands.{number_same, row_at}
use Rattle.spec_run.proofs.ListOrder.{contained_cases, filter_contained, first_contained, given_among, later_contained, none_contained}
use Rattle.spec_run.proofs.Replies.{answered_noted}
use Rattle.spec_run.proofs.SettledEntries.{rests_found, settled_found}
use Rattle.spec_run.proofs.StepFacts.{true_false}
use Rattle.spec_run.proofs.ValidStates.{states_are_valid}
use Rattle.spec_run.proofs.WholeEntries.{contained, counted, owned_is_listed}

-- What a command that writes nothing to an object makes of it.

-- an object that stays, live, is clean where it was
abbrev StaysClean : Option Object → Option Object → Type 0
StaysClean before None = Unit {0}
StaysClean None (Some new) = Unit {0}
StaysClean (Some old) (Some new) = new.live ≡ true → old.settled ≡ true → new.settled ≡ true

same_clean : (slot : Option Object) → StaysClean slot slot
same_clean None = tt
same_clean (Some object) = λ live clean. clean

set_clean : (slots : List (Option Object)) (t : ℕ) (new : Option Object) → StaysClean (get_or slots t None) new → (n : ℕ) → StaysClean (get_or slots n None) (get_or (set slots t new) n None)
set_clean [] t new stays n = tt
set_clean (s ∷ slots) zero new stays zero = stays
set_clean (s ∷ slots) zero new stays (suc n) = same_clean (get_or slots n None)
set_clean (s ∷ slots) (suc t) new stays zero = same_clean s
set_clean (s ∷ slots) (suc t) new stays (suc n) = set_clean slots t new stays n

set_other : (slots : List (Option Object)) (t n : ℕ) (new : Option Object) → (t ≡ n → ⊥) → get_or slots n None ≡ get_or (set slots t new) n None
set_other [] t n new other = refl
set_other (s ∷ slots) zero zero new other = absurd (other refl)
set_other (s ∷ slots) zero (suc n) new other = refl
set_other (s ∷ slots) (suc t) zero new other = refl
set_other (s ∷ slots) (suc t) (suc n) new other = set_other slots t n new (λ e. other (ap suc e))

push_clean : (a b : List (Option Object)) (new : Object) → length b ≡ length a → ((n : ℕ) → StaysClean (get_or a n None) (get_or b n None)) → (n : ℕ) → StaysClean (get_or a n None) (get_or (b ++ Some new ∷ []) n None)
push_clean [] [] new same all zero = tt
push_clean [] [] new same all (suc n) = tt
push_clean [] (y ∷ b) new same all n = absurd (omega arith)
push_clean (x ∷ a) [] new same all n = absurd (omega arith)
push_clean (x ∷ a) (y ∷ b) new same all zero = all 0
push_clean (x ∷ a) (y ∷ b) new same all (suc n) = push_clean a b new (omega arith) (λ k. all (suc k)) n

left_clean : (groups : List Group) (slot : Option Object) → StaysClean slot (option_and_then (left_of groups) slot)
unfolding left_of
left_clean groups None = tt
left_clean groups (Some object) =
    elim (object.live && is_out groups (main object.key)) as (λ b. StaysClean (Some object) (cond b None (Some (record object { parts = kept_parts groups object })))) [ true ↦ tt | false ↦ λ live clean. clean ]

without_clean : (groups : List Group) (state : State) (n : ℕ) → StaysClean (object_at state n) (object_at (without groups state) n)
unfolding without
without_clean [] state n = same_clean (object_at state n)
without_clean (group ∷ groups) state n =
    subst (StaysClean (object_at state n)) (sym (map_at (left_of (group ∷ groups)) state.objects n)) (left_clean (group ∷ groups) (object_at state n))

number_without : (groups : List Group) (state : State) (handle : ℕ) → number_of (without groups state) handle ≡ number_of state handle
number_without groups state handle =
    ap (λ names. unwrap_or (get_or names handle None) (length (without groups state).objects)) (without_names groups state)
    ∙ ap (λ (l : ℕ). unwrap_or (named_by state handle) l) (length-without groups state)

-- what a write to another object leaves
written_clean : (groups : List Group) (state : State) (handle n : ℕ) (new : Option Object) → (number_of state handle == n) ≡ false
    → StaysClean (object_at state n) (get_or (set (without groups state).objects (number_of (without groups state) handle) new) n None)
written_clean groups state handle n new other =
    subst (StaysClean (object_at state n))
    (set_other (without groups state).objects (number_of (without groups state) handle) n new
    (λ same. true_false (eq-eqb (number_of state handle) n (sym (number_without groups state handle) ∙ same)) other)) (without_clean groups state n)

doomed_slot_clean : (held : Bool) (object : Object) → StaysClean (Some object) (doomed_slot held object)
doomed_slot_clean true object = λ live clean. true_false live refl
doomed_slot_clean false object = tt

doomed_clean : (number : ℕ) (state : State) (slot : Option Object) → object_at state number ≡ slot → (n : ℕ) → StaysClean (object_at state n) (object_at (doomed number state slot) n)
unfolding doomed
doomed_clean number state None here n = same_clean (object_at state n)
doomed_clean number state (Some object) here n =
    set_clean state.objects number (doomed_slot (is_named state number) object) (subst (λ (s : Option Object). StaysClean s (doomed_slot (is_named state number) object)) (sym here) (doomed_slot_clean (is_named state number) object)) n

doomed_key_clean : (state : State) (found : Option ℕ) (n : ℕ) → StaysClean (object_at state n) (object_at (doomed_key state found) n)
doomed_key_clean state None n = same_clean (object_at state n)
doomed_key_clean state (Some number) n = doomed_clean number state (object_at state number) refl n

effect_clean : (state : State) (moment : ℕ) (request : Request) (n : ℕ) → may_settle request ≡ false → writes_to state request n ≡ false
    → StaysClean (object_at state n) (object_at (effect moment request (without (evicted moment request state) state)) n)
unfolding effect evicted without opened sparse_used created written sparse_written
effect_clean state moment (to_create handle key) n settles writes =
    let groups = evicted moment (to_create handle key) state in
    push_clean state.objects (without groups state).objects (new_object key) (length-without groups state) (without_clean groups state) n
effect_clean state moment (to_open handle key) n settles writes = same_clean (object_at state n)
effect_clean state moment (to_read handle stream offset count) n settles writes = same_clean (object_at state n)
effect_clean state moment (to_write handle stream offset cut bytes) n settles writes = written_clean (evicted moment (to_write handle stream offset cut bytes) state) state handle n _ writes
effect_clean state moment (to_size handle stream) n settles writes = same_clean (object_at state n)
effect_clean state moment (to_sparse_write handle offset bytes) n settles writes = written_clean (evicted moment (to_sparse_write handle offset bytes) state) state handle n _ writes
effect_clean state moment (to_sparse_read handle offset count) n settles writes = same_clean (object_at state n)
effect_clean state moment (to_sparse_range handle offset count) n settles writes = same_clean (object_at state n)
effect_clean state moment (to_doom handle) n settles writes = doomed_clean (number_of state handle) state (object_at state (number_of state handle)) refl n
effect_clean state moment (to_doom_key key) n settles writes = doomed_key_clean state _ n
effect_clean state moment (to_close handle) n settles writes = true_false refl settles
effect_clean state moment (to_flush handle) n settles writes = true_false refl settles
effect_clean state moment to_list n settles writes = same_clean (object_at state n)
effect_clean state moment (to_trim bytes) n settles writes = without_clean (evicted moment (to_trim bytes) state) state n
effect_clean state moment to_total n settles writes = same_clean (object_at state n)

step_clean : (state : State) (moment : ℕ) (request : Request) (n : ℕ) → may_settle request ≡ false → writes_to state request n ≡ false → StaysClean (object_at state n) (object_at (step state moment request).state n)
unfolding step outcome
step_clean state moment request n settles writes =
    elim (refused moment request state) as (λ why. StaysClean (object_at state n) (object_at (outcome moment request state why).state n)) [
      | Some why ↦ same_clean (object_at state n)
      | None ↦ effect_clean state moment request n settles writes
    ]

-- a clean object that stays, and isn't written to, is clean
clean_after : (state : State) (valid : IsValidState state) (moment : ℕ) (request : Request) (n : ℕ) (old new : Object) → object_at state n ≡ Some old → object_at (step state moment request).state n ≡ Some new → new.live ≡ true → old.settled ≡ true
    → writes_to state request n ≡ false → new.settled ≡ true
clean_after state valid moment request n old new here there live clean writes =
    ⊎_elim
    (λ (settles : may_settle request ≡ true).
    let leads : LeadsTo (may_settle request) old new = subst (λ s. Leads (may_settle request) (IsFresh state) s (Some new)) here (subst (Leads (may_settle request) (IsFresh state) (object_at state n)) there (step_leads state valid moment request n)) in
    leads.stays settles live clean)
    (λ (settles : may_settle request ≡ false).
    let stays : StaysClean (Some old) (Some new) = subst (λ s. StaysClean s (Some new)) here (subst (StaysClean (object_at state n)) there (step_clean state moment request n settles writes)) in
    stays live clean)
    (cases_Bool (may_settle request))

-- An item that no step takes out stays in the LRU list.

abbrev TakenByNone : List ListStep → Item → Type 0
TakenByNone steps item = (group : Group) → Contains steps (out group) → takes item group ≡ false

step_listed : (item : Item) (items : List Item) (s : ListStep) → TakenByNone (s ∷ []) item → Contains items item → Contains (after_step items s) item
step_listed item items (out group) none listed =
    filter_contained (λ (i : Item). not (takes i group)) items item (ap not (none group (first_contained (out group) []))) listed
step_listed item items (front i) none listed =
    ⊎_elim
    (λ (same : same_item i item ≡ true). subst (λ (j : Item). Contains (used i items) j) (one_item i item same) (first_contained i (filter (λ (other : Item). not (same_item i other)) items)))
    (λ (other : same_item i item ≡ false). later_contained i (filter (λ (j : Item). not (same_item i j)) items) item (filter_contained (λ (j : Item). not (same_item i j)) items item (ap not other) listed))
    (cases_Bool (same_item i item))

first_none : (item : Item) (s : ListStep) (steps : List ListStep) → TakenByNone (s ∷ steps) item → TakenByNone (s ∷ []) item
first_none item s steps none group there =
    ⊎_elim
    (λ (same : s ≡ out group). none group (subst (λ (x : ListStep). Contains (s ∷ steps) x) same (first_contained s steps)))
    (λ (later : Contains [] (out group)). none_contained (out group) later)
    (contained_cases s [] (out group) there)

still_listed : (item : Item) (steps : List ListStep) (items : List Item) (count : ℕ) → TakenByNone steps item → Contains items item → Contains (after_steps (take count steps) items) item
still_listed item steps items zero none listed = listed
still_listed item [] items (suc count) none listed = listed
still_listed item (s ∷ steps) items (suc count) none listed =
    still_listed item steps (after_step items s) count (λ group there. none group (later_contained s steps (out group) there)) (step_listed item items s (first_none item s steps none) listed)

all_listed : (item : Item) (steps : List ListStep) (items : List Item) → TakenByNone steps item → Contains items item → Contains (after_steps steps items) item
all_listed item [] items none listed = listed
all_listed item (s ∷ steps) items none listed =
    all_listed item steps (after_step items s) (λ group there. none group (later_contained s steps (out group) there)) (step_listed item items s (first_none item s steps none) listed)

-- A clean entry that a command lets be.

object_same : {a b : Object} → Some a ≡ Some b → a ≡ b
object_same e = cc

module _ (state : State) (valid : IsValidState state) (command : Stamped) (item : Item) (row : Row) (lets : LetsBe state command item) (entry : IsCleanEntry state item row) where
  mine : Owner state item
  mine = owner_of state item entry.number entry.owned

  mine_is : mine.number ≡ entry.number
  mine_is = number_same mine.number entry.number (sym mine.found ∙ entry.owned)

  mine_clean : mine.object.settled ≡ true
  mine_clean = (and_parts mine.object.live mine.object.settled (ap is_live_and_settled (sym mine.here) ∙ ap (λ (n : ℕ). is_live_and_settled (object_at state n)) mine_is ∙ entry.clean)).1

  unwritten : writes_to state command.request mine.number ≡ false
  unwritten = lets.unwritten mine.number mine.found

  listed_in : Contains state.uses item
  listed_in = contained item state.uses (owned_is_listed state valid item mine)

  now : IsValidState (state_then state command) → Owner (state_then state command) item
  now valid_after =
      let there : Contains (state_then state command).uses item =
      subst (λ (l : List Item). Contains l item) (uses_after_steps state command.moment command.request valid) (all_listed item (list_steps state command.moment command.request) state.uses lets.stays listed_in) in
      let some = counted item (state_then state command).uses there in
      let listed = valid_after.listed item in
      has_owner (state_then state command) item (omega (arith, some, listed))

  -- it is the object that had the item
  was : (o : Owner (state_then state command) item) (old : Object) → object_at state o.number ≡ Some old → LeadsTo (may_settle command.request) old o.object → IsCleanEntry (state_then state command) item row
  was o old here leads =
      let live = owner_live o.object item o.has in
      let number : mine.number ≡ o.number = same_owner state valid item o.number old here (leads.live live) (owner_key o.object item o.has ∙ leads.key) mine in
      let object : mine.object ≡ old = object_same (sym mine.here ∙ ap (object_at state) number ∙ here) in
      let writes : writes_to state command.request o.number ≡ false = ap (writes_to state command.request) (sym number) ∙ unwritten in
      let clean : o.object.settled ≡ true = clean_after state valid command.moment command.request o.number old o.object here o.here live (ap (λ (x : Object). x.settled) (sym object) ∙ mine_clean) writes in
      record {
        number = o.number;
        owned = o.found;
        clean = ap is_live_and_settled o.here ∙ and_from o.object.live o.object.settled live clean;
        row_is = row_at (state_then state command) item o ∙ (leads.items live clean item o.has).1 ∙ ap (λ (x : Object). row_in x item) (sym object) ∙ sym (row_at state item mine) ∙ entry.row_is;
      }

  -- it is clean after the command
  pub stays_clean : IsValidState (state_then state command) → IsCleanEntry (state_then state command) item row
  stays_clean valid_after =
      let o = now valid_after in
      elim (object_at state o.number) as (λ s. object_at state o.number ≡ s → Leads (may_settle command.request) (IsFresh state) s (Some o.object) → IsCleanEntry (state_then state command) item row) [
        | None ↦ λ e new. absurd (fresh_owner state item o.object o.has new.1 mine)
        | Some old ↦ λ e leads. was o old e leads
      ] refl (subst (Leads (may_settle command.request) (IsFresh state) (object_at state o.number)) o.here (step_leads state valid command.moment command.request o.number))

  -- its object is clean after the command, or no longer live
  safe_slot : (slot : Option Object) → object_at (state_then state command) mine.number ≡ slot → (is_live_and_settled slot || not (is_live slot)) ≡ true
  safe_slot None there = refl
  safe_slot (Some new) there =
      elim (new.live) as (λ b. new.live ≡ b → ((b && new.settled) || not b) ≡ true) [
        | true ↦ λ live. ap (λ b. b || false) (clean_after state valid command.moment command.request mine.number mine.object new mine.here there live mine_clean unwritten)
        | false ↦ λ dead. refl
      ] refl

  -- and a crash in the command leaves it
  pub is_left_alone : IsLeftAlone state command item row
  unfolding is_safe list_after
  is_left_alone = record {
    number = mine.number;
    owned = mine.found;
    safe = and_from (is_live_and_settled (object_at state mine.number)) _ (ap is_live_and_settled mine.here ∙ and_from mine.object.live mine.object.settled (owner_live mine.object item mine.has) mine_clean) (safe_slot (object_at (state_then state command) mine.number) refl);
    row_is = entry.row_is;
    listed = λ count few. still_listed item (list_steps state command.moment command.request) state.uses count lets.stays listed_in;
  }

-- a clean entry is among the durable contents
in_rest : (state : State) → IsValidState state → (item : Item) (row : Row) → IsCleanEntry state item row → Contains (rest state) row
unfolding rest
in_rest state valid item row entry =
    let o = owner_of state item entry.number entry.owned in
    let number : o.number ≡ entry.number = number_same o.number entry.number (sym o.found ∙ entry.owned) in
    let clean : o.object.settled ≡ true = (and_parts o.object.live o.object.settled (ap is_live_and_settled (sym o.here) ∙ ap (λ (n : ℕ). is_live_and_settled (object_at state n)) number ∙ entry.clean)).1 in
    given_among (settled_row state) state.uses item row
    ((settled_chooses state).somebody item o ∙ ap (λ b. cond b (row_in o.object item) None) clean ∙ sym (row_at state item o) ∙ entry.row_is)
    (contained item state.uses (owned_is_listed state valid item o))

-- Commands one after another.

-- the command in progress lets it be
abbrev NextLetsBe : State → Option Stamped → Item → Type 0
NextLetsBe state None item = Unit {0}
NextLetsBe state (Some command) item = LetsBe state command item

walk : (state : State) (commands : List Stamped) (m : ℕ) (item : Item) (row : Row) → ((j : ℕ) → j ≤ m → IsValidState (state_after state (take j commands))) → LetBe state (take (suc m) commands) item → IsCleanEntry state item row
    → IsCleanEntry (state_after state (take m commands)) item row × NextLetsBe (state_after state (take m commands)) (first_in (drop m commands)) item
unfolding state_after
walk state [] zero item row valid let_be entry = (entry, tt)
walk state (c ∷ cs) zero item row valid let_be entry = (entry, let_be.0)
walk state [] (suc m) item row valid let_be entry = (entry, tt)
walk state (c ∷ cs) (suc m) item row valid let_be entry =
    walk (state_then state c) cs m item row (λ j few. valid (suc j) (omega (arith, few))) let_be.1
    (stays_clean state (valid 0 (omega arith)) c item row let_be.0 entry (valid 1 (omega arith)))

state_further : (state : State) (commands : List Stamped) (k j : ℕ) → state_after state (take (k + j) commands) ≡ state_after (state_after state (take k commands)) (take j (drop k commands))
unfolding state_after
state_further state commands zero j = let same : zero + j ≡ j = omega arith in ap (λ (m : ℕ). state_after state (take m commands)) same
state_further state [] (suc k) zero = let same : suc k + zero ≡ suc k = omega arith in ap (λ (m : ℕ). state_after state (take m [])) same
state_further state [] (suc k) (suc j) = let same : suc k + suc j ≡ suc (k + suc j) = omega arith in ap (λ (m : ℕ). state_after state (take m [])) same
state_further state (c ∷ cs) (suc k) j = let same : suc k + j ≡ suc (k + j) = omega arith in ap (λ (m : ℕ). state_after state (take m (c ∷ cs))) same ∙ state_further (state_then state c) cs k j

drop_further : (commands : List Stamped) (k j : ℕ) → drop (k + j) commands ≡ drop j (drop k commands)
drop_further commands zero j = let same : zero + j ≡ j = omega arith in ap (λ (m : ℕ). drop m commands) same
drop_further [] (suc k) zero = let same : suc k + zero ≡ suc k = omega arith in ap (λ (m : ℕ). drop m []) same
drop_further [] (suc k) (suc j) = let same : suc k + suc j ≡ suc (k + suc j) = omega arith in ap (λ (m : ℕ). drop m []) same
drop_further (c ∷ cs) (suc k) j = let same : suc k + j ≡ suc (k + j) = omega arith in ap (λ (m : ℕ). drop m (c ∷ cs)) same ∙ drop_further cs k j

-- the first of some steps, with so many notes among them
record FrontWith (steps : List TrailStep) (m : ℕ) : Type 0 where
  first : List TrailStep
  behind : List TrailStep
  split : steps ≡ first ++ behind
  count : notes_in first ≡ m

front_more : (step : TrailStep) (steps : List TrailStep) (m n : ℕ) → ((first : List TrailStep) → notes_in first ≡ m → notes_in (step ∷ first) ≡ n) → FrontWith steps m → FrontWith (step ∷ steps) n
front_more step steps m n counts f = record { first = step ∷ f.first; behind = f.behind; split = ap (λ (s : List TrailStep). step ∷ s) f.split; count = counts f.first f.count }

front_with : (steps : List TrailStep) (m : ℕ) → m ≤ notes_in steps → FrontWith steps m
front_with steps zero few = record { first = []; behind = steps; split = refl; count = refl }
front_with [] (suc m) few = absurd (omega (arith, few))
front_with (Word file at bytes ∷ steps) (suc m) few = front_more (Word file at bytes) steps (suc m) (suc m) (λ first count. count) (front_with steps (suc m) few)
front_with (SetLength file n ∷ steps) (suc m) few = front_more (SetLength file n) steps (suc m) (suc m) (λ first count. count) (front_with steps (suc m) few)
front_with (Delete file ∷ steps) (suc m) few = front_more (Delete file) steps (suc m) (suc m) (λ first count. count) (front_with steps (suc m) few)
front_with (Note number ∷ steps) (suc m) few = front_more (Note number) steps m (suc m) (λ first count. omega (arith, count)) (front_with steps m (omega (arith, few)))

-- Laws.

-- a run that broke off after so many notes, and an entry that is clean after the first of its commands
module _ (from : Image) (opened : State) (all : List Stamped) (steps : List TrailStep) (k : ℕ) (item : Item) (row : Row) (each : AtEachPrefix (IsStopped from opened all) from steps) (some : 1 ≤ k) (few : k ≤ notes_in steps)
    (entry : IsCleanEntry (state_at opened all k) item row) (let_be : LetBe (state_at opened all k) (commands_since all k (notes_in steps)) item) where
  is_open : (first behind : List TrailStep) → steps ≡ first ++ behind → 1 ≤ notes_in first → has_opened first ≡ true
  is_open first behind split noted =
      ⊎_elim
      (λ (opens : has_opened first ≡ true). opens)
      (λ (none : has_opened first ≡ false). let unnoted = (each first behind split).unnoted none in absurd (omega (arith, noted, unnoted)))
      (cases_Bool (has_opened first))

  valid_at : (m : ℕ) → 1 ≤ m → m ≤ notes_in steps → IsValidState (state_at opened all m)
  valid_at m noted within =
      let f = front_with steps m within in
      let count = f.count in
      subst (λ (n : ℕ). IsValidState (state_at opened all n)) f.count (states_are_valid from opened all steps f.first f.behind each f.split (is_open f.first f.behind f.split (omega (arith, noted, count))))

  left : ℕ
  left = notes_in steps - k

  reached : IsCleanEntry (state_after (state_at opened all k) (take left (drop k all))) item row × NextLetsBe (state_after (state_at opened all k) (take left (drop k all))) (first_in (drop left (drop k all))) item
  unfolding left
  reached =
      let more : notes_in steps + 1 - k ≡ suc (notes_in steps - k) = omega (arith, few) in
      walk (state_at opened all k) (drop k all) left item row
      (λ j within. subst IsValidState (state_further opened all k j) (valid_at (k + j) (omega (arith, some)) (omega (arith, few, within))))
      (subst (λ (n : ℕ). LetBe (state_at opened all k) (take n (drop k all)) item) more let_be) entry

  whole : k + left ≡ notes_in steps
  unfolding left
  whole = omega (arith, few)

  here : state_after (state_at opened all k) (take left (drop k all)) ≡ state_at opened all (notes_in steps)
  here = sym (state_further opened all k left) ∙ ap (λ (n : ℕ). state_at opened all n) whole

  next_is : first_in (drop left (drop k all)) ≡ command_after all (notes_in steps)
  next_is = ap first_in (sym (drop_further all k left) ∙ ap (λ (n : ℕ). drop n all) whole)

  clean_here : IsCleanEntry (state_at opened all (notes_in steps)) item row
  clean_here = subst (λ (s : State). IsCleanEntry s item row) here reached.0

  next_here : NextLetsBe (state_at opened all (notes_in steps)) (command_after all (notes_in steps)) item
  next_here = subst (λ (s : State). NextLetsBe s (command_after all (notes_in steps)) item) here (subst (λ (o : Option Stamped). NextLetsBe (state_after (state_at opened all k) (take left (drop k all))) o item) next_is reached.1)

  valid_here : IsValidState (state_at opened all (notes_in steps))
  valid_here = valid_at (notes_in steps) (omega (arith, some, few)) (omega arith)

  stopped : IsStopped from opened all steps (after steps from)
  stopped = each steps [] (sym (append-nil steps))

  opens : has_opened steps ≡ true
  opens = is_open steps [] (sym (append-nil steps)) (omega (arith, some, few))

  is_found : (next : Option Stamped) → command_after all (notes_in steps) ≡ next → NextLetsBe (state_at opened all (notes_in steps)) next item → Contains (found (after steps from)) row
  is_found None is lets =
      subst (λ (rows : List Row). Contains rows row) (sym (rests_found from opened all steps (after steps from) stopped opens is)) (in_rest (state_at opened all (notes_in steps)) valid_here item row clean_here)
  is_found (Some command) is lets =
      settled_found from opened all steps (after steps from) command item row stopped opens is (is_left_alone (state_at opened all (notes_in steps)) valid_here command item row lets clean_here)

  pub entry_found : Contains (found (after steps from)) row
  entry_found = is_found (command_after all (notes_in steps)) refl next_here

pub answered_found : AnsweredEntriesAreFound
answered_found from turns before opened more steps written printed command each prints answered item row since =
    entry_found from opened (commands_of turns ++ more) steps (length (commands_of before) + 1) item row each (omega arith)
    (answered_noted turns before (notes_in steps) written printed command prints answered) since.entry since.later

set_here : (slots : List (Option Object)) (t : ℕ) (old : Object) (new : Option Object) → get_or slots t None ≡ Some old → get_or (set slots t new) t None ≡ new
set_here [] t old new here = cc
set_here (s ∷ slots) zero old new here = refl
set_here (s ∷ slots) (suc t) old new here = set_here slots t old new here

settled_has : (object : Object) (item : Item) → has_item (record object { settled = true }) item ≡ has_item object item
settled_has object (main key) = refl
settled_has object (part key n) = refl

settled_row_in : (object : Object) (item : Item) → row_in (record object { settled = true }) item ≡ row_in object item
settled_row_in object (main key) = refl
settled_row_in object (part key n) = refl

module _ (state : State) (valid : IsValidState state) (handle number : ℕ) (item : Item) (row : Row) (named : named_by state handle ≡ Some number) (owned : owner state item ≡ Some number) (row_is : row_of state item ≡ Some row) where
  had : Owner state item
  had = owner_of state item number owned

  had_here : object_at state number ≡ Some had.object
  had_here = ap (object_at state) (number_same number had.number (sym owned ∙ had.found)) ∙ had.here

  abbrev unnamed : State
  unnamed = with_name handle None state

  closed_as : closed handle state ≡ released number unnamed (Some had.object)
  unfolding closed
  closed_as = ap (λ (n : ℕ). released n unnamed (object_at state n)) (ap (λ o. unwrap_or o (length state.objects)) named) ∙ ap (released number unnamed) had_here

  slot_is : is_named unnamed number ≡ false → released_slot (is_named unnamed number) had.object ≡ Some (record had.object { settled = true })
  slot_is unheld =
      ap (λ b. released_slot b had.object) unheld ∙ ap (λ b. cond b (Some (record had.object { settled = true })) None) (owner_live had.object item had.has)

  pub close_cleans : names_none state handle ≡ false → is_named (closed handle state) number ≡ false → IsCleanEntry (closed handle state) item row
  close_cleans bound unheld =
      let new : Object = record had.object { settled = true } in
      let unnamed_now : is_named unnamed number ≡ false = ap (λ (s : State). is_named s number) (sym closed_as) ∙ unheld in
      let there : object_at (closed handle state) number ≡ Some new =
      ap (λ (s : State). object_at s number) closed_as ∙ set_here state.objects number had.object (released_slot (is_named unnamed number) had.object) had_here ∙ slot_is unnamed_now in
      let owned_now : owner (closed handle state) item ≡ Some number = owned_at (closed handle state) (state_closed state valid handle bound) number new item there (settled_has had.object item ∙ had.has) in
      let o = owner_of (closed handle state) item number owned_now in
      let object : o.object ≡ new = object_same (sym o.here ∙ ap (object_at (closed handle state)) (number_same o.number number (sym o.found ∙ owned_now)) ∙ there) in
      record {
        number = number;
        owned = owned_now;
        clean = ap is_live_and_settled there ∙ and_from had.object.live true (owner_live had.object item had.has) refl;
        row_is = row_at (closed handle state) item o ∙ ap (λ (x : Object). row_in x item) object ∙ settled_row_in had.object item ∙ sym (row_at state item had) ∙ row_is;
      }

pub closed_clean : ClosesLeaveEntriesClean
unfolding step outcome effect evicted without refusals
closed_clean state moment handle number item row valid named owned row_is unheld =
    elim (refused moment (to_close handle) state) as (λ why. refused moment (to_close handle) state ≡ why → is_named (outcome moment (to_close handle) state why).state number ≡ false → IsCleanEntry (outcome moment (to_close handle) state why).state item row) [
      | Some why ↦ λ e free. true_false (any_has state.names handle number named) free
      | None ↦ λ e free. close_cleans state valid handle number item row named owned row_is (none_comes (refusals moment (to_close handle) state) e).0 free
    ] refl unheld
