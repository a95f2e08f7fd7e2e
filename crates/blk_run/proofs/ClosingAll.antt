-- The bound names are closed in turn.
use Rattle.std.specs.List.{position_or_len}
use Rattle.std.specs.Prelude.{nat_lt}
use Rattle.std.proofs.lemmas.Bool.{ltb-false}
use Rattle.std.proofs.Common.{ℕ, zero, suc, cond, get_or, ◌+◌, ◌*◌, ◌<◌, ◌≤◌, ◌≡◌, inl, inr, Bool, true, false, List, [], ◌∷◌, ◌++◌, length, Option, None, Some, Ok, Err, Result, IfSome, refl, sym, ◌∙◌, ap, subst, arith, append_assoc}
use Rattle.std.specs.Prelude.{IsErrAnd, is_some, position, slice_index_or, slice_set}
use Rattle.std.specs.List.{count_by}
use Rattle.std.specs.Option.{option_map, ForSome}
use Rattle.std.proofs.lemmas.List.{append-nil, length-append}
use Rattle.std.proofs.lemmas.List.Quantifiers.{position-Some}
use Rattle.std.proofs.lemmas.List.Sums.{fails_before_first, sum_by-set}
use Rattle.spec_image.specs.Image.{Image}
use Rattle.spec_image.specs.Told.{Told}
use Rattle.blk_io.specs.Streams.{Readings, reading_of, later_of}
use Rattle.blk_io.specs.Faults.{IfDamaged}
use Rattle.blk_io.specs.declared.fault.Fault.{Fault}
use Rattle.blk_io.specs.declared.fault.Fault.TheVariants as fault
use Rattle.blk_model.specs.Sizes.{handle_names}
use Rattle.blk_model.specs.State.{IsValidState, State, named_by}
use Rattle.blk_model.specs.Request.{to_close}
use Rattle.blk_model.specs.Step.{step}
use Rattle.law_state.specs.Commands.{ForKept, IsNoted, IsStepped, note_number}
use Rattle.spec_run.specs.Run.{Stamped, bound_names, clock_after, closings, stamped_by, state_after, state_then}
use Rattle.spec_run.specs.Script.{is_refused}
use Rattle.spec_run.specs.Progress.{MakesCommand, NotesCommand, StopsPast}
use Rattle.spec_run.proofs.Closing.{close_passes, few_names, least_closed, least_of_slots, none_closed, none_of_slots}
use Rattle.spec_run.proofs.StepFacts.{true_false}
use Rattle.spec_run.proofs.CommandStates.{state_after-one}
use Rattle.spec_run.proofs.Composing.{stopped_past}
use Rattle.blk_run.specs.Playing.{SoFar, StandsAt, state_now, with_more}
use Rattle.blk_run.specs.Closings.{Closes, ClosesAll}
use Rattle.blk_run.proofs.Parts.{handed_on, stands_fewer, stands_joined, stands_none}
use Rattle.spec_run.proofs.Turns.{clock_after-more}
use Rattle.blk_run.proofs.RunLaws.{read_twice}
use Rattle.blk_run.proofs.Asking.{next_note, stands_after}

closings_length : (names : List ℕ) (clock : Readings) → length (closings names clock) ≡ length names
unfolding closings
closings_length [] clock = refl
closings_length (name ∷ names) clock = ap suc (closings_length names (later_of clock))

-- of the closings of a run these were made, and it comes after them
pub record AreClosedSoFar (far : SoFar) (keeps : State → Image → Type 0) (notes left : ℕ) (now : Told) (clock_old clock_new : Option Readings) : Type 0 where
  pub closed : List Stamped
  pub stands : StandsAt (with_more far closed) keeps notes (left + 2 * length (bound_names (state_now (with_more far closed)))) now
  pub are : ForSome clock_old (λ r. closings (bound_names (state_now far)) r ≡ closed ++ closings (bound_names (state_now (with_more far closed))) (clock_after r (length closed)))
  pub read : clock_new ≡ option_map (λ r. clock_after r (length closed)) clock_old

none_read : (c : Option Readings) → c ≡ option_map (λ r. clock_after r 0) c
none_read None = refl
none_read (Some r) = refl

-- none at first
pub none_so_far : (far : SoFar) (keeps : State → Image → Type 0) (notes left : ℕ) (now : Told) (clock : Option Readings) → ((state : State) (image : Image) → keeps state image → IsValidState state)
    → StandsAt far keeps notes (left + 2 * handle_names) now → AreClosedSoFar far keeps notes left now clock clock
none_so_far far keeps notes left now clock valid at =
    let same : state_now (with_more far []) ≡ state_now far = ap (state_after far.opened) (append-nil far.done) in
    let few : length (bound_names (state_now (with_more far []))) ≤ handle_names = subst (λ (s : State). length (bound_names s) ≤ handle_names) (sym same) (few_names (state_now far) (valid (state_now far) at.image at.kept)) in
    record {
      closed = [];
      stands = stands_none far keeps notes (left + 2 * length (bound_names (state_now (with_more far [])))) now (stands_fewer far keeps notes (left + 2 * handle_names) (left + 2 * length (bound_names (state_now (with_more far [])))) now (omega (arith, few)) at);
      are = λ r there. ap (λ (s : State). closings (bound_names s) r) (sym same);
      read = none_read clock;
    }

-- the Close of a name at a moment
abbrev pub close_at : ℕ → ℕ → Stamped
close_at moment name = record { moment = moment; request = to_close name }

module _ {Y : Type 0} (slots : List (Option Y)) (keeps : State → Image → Type 0) (valid : (state : State) (image : Image) → keeps state image → IsValidState state)
    (same : (state : State) (image : Image) → keeps state image → (other : ℕ) → is_some (slice_index_or slots other None) ≡ is_some (named_by state other)) where
  -- where no name is bound all are closed
  pub all_closed : (far : SoFar) (notes left : ℕ) (now : Told) (clock_old clock_new : Option Readings) → position is_some slots ≡ None → AreClosedSoFar far keeps notes left now clock_old clock_new → ClosesAll (Ok tt) far keeps notes left now clock_old clock_new
  unfolding closings
  all_closed far notes left now clock_old clock_new none so_far =
      let state = state_now (with_more far so_far.closed) in
      let no_names : bound_names state ≡ [] = none_closed state (none_of_slots slots state (same state so_far.stands.image so_far.stands.kept) none) in
      record {
        commands = so_far.closed;
        are = λ r there. sym (so_far.are r there ∙ ap (λ (names : List ℕ). so_far.closed ++ closings names (clock_after r (length so_far.closed))) no_names ∙ nothing r);
        closes = record { stands = stands_fewer (with_more far so_far.closed) keeps notes (left + 2 * length (bound_names state)) left now (omega arith) so_far.stands; read = so_far.read };
      }
    where
      nothing : (r : Readings) → so_far.closed ++ closings [] (clock_after r (length so_far.closed)) ≡ so_far.closed
      nothing r = append-nil so_far.closed

  -- the next Close
  module _ (far : SoFar) (notes left : ℕ) (now : Told) (clock_old clock_mid : Option Readings) (so_far : AreClosedSoFar far keeps notes left now clock_old clock_mid) (name moment : ℕ) (at : position is_some slots ≡ Some name)
      (reading : ForSome clock_mid (λ r. moment ≡ reading_of r)) where
    abbrev state : State
    state = state_now (with_more far so_far.closed)

    abbrev command : Stamped
    command = record { moment = moment; request = to_close name }

    -- at any clock it is the first of those left
    first_left : (r : Readings) → closings (bound_names state) r ≡ stamped_by r (to_close name) ∷ closings (bound_names (state_then state (stamped_by r (to_close name)))) (later_of r)
    first_left r = least_closed state r name (valid state so_far.stands.image so_far.stands.kept) (least_of_slots slots state name (same state so_far.stands.image so_far.stands.kept) at)

    -- the moment is that of the clock
    is_read : (r : Readings) → clock_old ≡ Some r → moment ≡ reading_of (clock_after r (length so_far.closed))
    is_read r there = reading (clock_after r (length so_far.closed)) (so_far.read ∙ ap (option_map (λ x. clock_after x (length so_far.closed))) there)

    after_it : (r : Readings) → clock_old ≡ Some r → closings (bound_names (state_now far)) r ≡ so_far.closed ++ command ∷ closings (bound_names (state_then state command)) (later_of (clock_after r (length so_far.closed)))
    after_it r there =
        so_far.are r there
        ∙ ap (λ (l : List Stamped). so_far.closed ++ l)
        (first_left (clock_after r (length so_far.closed))
        ∙ ap (λ (c : Stamped). c ∷ closings (bound_names (state_then state c)) (later_of (clock_after r (length so_far.closed)))) (ap (λ (m : ℕ). close_at m name) (sym (is_read r there))))

    -- one name less is bound after it
    one_less : length (bound_names state) ≡ length (bound_names (state_then state command)) + 1
    one_less =
        let r : Readings = record { ahead = []; last = moment } in
        let whole = ap length (first_left r) in
        let here = closings_length (bound_names state) r in
        let there = closings_length (bound_names (state_then state command)) (later_of r) in
        omega (arith, whole, here, there)

    state_is : state_now (with_more far (so_far.closed ++ command ∷ [])) ≡ state_then state command
    state_is = ap (state_after far.opened) (sym (append_assoc far.done so_far.closed (command ∷ []))) ∙ state_after-one far.opened (far.done ++ so_far.closed) command

    -- it isn't refused
    passes : is_refused (step state moment (to_close name)) ≡ false
    passes = close_passes state moment name (valid state so_far.stands.image so_far.stands.kept) (least_of_slots slots state name (same state so_far.stands.image so_far.stands.kept) at).bound

    notes_close : (old new : Told) → IsNoted old new moment (to_close name) (note_number (notes + 1)) state → NotesCommand old new command (note_number (notes + 1)) state
    notes_close old new noted = record { noted = noted; alone = λ is. true_false is passes }

    makes_close : (old new : Told) → IsStepped old new moment (to_close name) (note_number (notes + 1)) state → MakesCommand old new command (note_number (notes + 1)) state
    makes_close old new (inl part) = inl (record { passes = part; untouched = λ is. true_false is passes })
    makes_close old new (inr noted) = inr (notes_close old new noted)

    -- it was done
    pub one_closed : (keeps_new : State → Image → Type 0) (notes_new : ℕ) (new : Told) (clock_new : Option Readings) → clock_new ≡ option_map later_of clock_mid
        → ForKept keeps now (IsNoted now new moment (to_close name) (note_number (notes + 1))) → ForKept keeps now (λ s. ForSome new.files (keeps_new (step s moment (to_close name)).state)) → notes_new ≡ note_number (notes + 1)
        → AreClosedSoFar far keeps_new notes_new left new clock_old clock_new
    one_closed keeps_new notes_new new clock_new later noted kept counts =
        let stands = so_far.stands in
        let bound_after = length (bound_names (state_then state command)) in
        let enough : (left + 2 * bound_after) + 2 ≡ left + 2 * length (bound_names state) = omega (arith, one_less) in
        let here : StandsAt (with_more far so_far.closed) keeps notes ((left + 2 * bound_after) + 2) now = subst (λ (n : ℕ). StandsAt (with_more far so_far.closed) keeps notes n now) (sym enough) stands in
        let next : StandsAt (with_more (with_more far so_far.closed) (command ∷ [])) keeps_new notes_new (left + 2 * bound_after) new =
        stands_after (with_more far so_far.closed) command keeps keeps_new notes notes_new (left + 2 * bound_after) now new here (notes_close now new (noted stands.image stands.here state stands.kept)) (kept stands.image stands.here state stands.kept) counts in
        let more : StandsAt (with_more far (so_far.closed ++ command ∷ [])) keeps_new notes_new (left + 2 * bound_after) new = stands_joined far so_far.closed (command ∷ []) (so_far.closed ++ command ∷ []) keeps_new notes_new (left + 2 * bound_after) new refl next in
        let longer : length (so_far.closed ++ command ∷ []) ≡ length so_far.closed + 1 = length-append so_far.closed (command ∷ []) in
        record {
          closed = so_far.closed ++ command ∷ [];
          stands = subst (λ (s : State). StandsAt (with_more far (so_far.closed ++ command ∷ [])) keeps_new notes_new (left + 2 * length (bound_names s)) new) (sym state_is) more;
          are = λ r there.
              after_it r there
              ∙ sym (append_assoc so_far.closed (command ∷ []) (closings (bound_names (state_then state command)) (later_of (clock_after r (length so_far.closed)))))
              ∙ ap (λ (s : State). (so_far.closed ++ command ∷ []) ++ closings (bound_names s) (later_of (clock_after r (length so_far.closed)))) (sym state_is)
              ∙ ap (λ (c : Readings). (so_far.closed ++ command ∷ []) ++ closings (bound_names (state_now (with_more far (so_far.closed ++ command ∷ [])))) c) (clock_after-more r (length so_far.closed) 1 ∙ ap (clock_after r) (sym longer));
          read = read_twice clock_old clock_mid clock_new (length so_far.closed) 1 so_far.read later ∙ ap (λ (n : ℕ). option_map (λ r. clock_after r n) clock_old) (sym longer);
        }

    -- the folder failed in it
    pub close_failed : (keeps_new : State → Image → Type 0) (notes_new : ℕ) (new : Told) (clock_new : Option Readings) (why : Fault) → ForKept keeps now (IsStepped now new moment (to_close name) (note_number (notes + 1)))
        → (ForSome now.files (λ image. (s : State) × keeps s image) → IfDamaged {A = Bool} (Err why) (λ _. now.files ≡ None)) → ClosesAll (Err why) far keeps_new notes_new left new clock_old clock_new
    close_failed keeps_new notes_new new clock_new why stepped untold = record {
      commands = so_far.closed ++ command ∷ following clock_old;
      are = λ r there. ap (λ (c : Option Readings). so_far.closed ++ command ∷ following c) there ∙ sym (after_it r there);
      closes = by_fault why untold;
    }
      where
        following : Option Readings → List Stamped
        following None = []
        following (Some r) = closings (bound_names (state_then state command)) (later_of (clock_after r (length so_far.closed)))

        room : StandsAt (with_more far so_far.closed) keeps notes ((left + 2 * length (bound_names (state_then state command))) + 2) now
        room =
            let enough : left + 2 * length (bound_names state) ≡ (left + 2 * length (bound_names (state_then state command))) + 2 = omega (arith, one_less) in
            subst (λ (n : ℕ). StandsAt (with_more far so_far.closed) keeps notes n now) enough so_far.stands

        stops : StopsPast far.from far.opened (far.done ++ (so_far.closed ++ command ∷ following clock_old)) (length far.done) far.start new
        stops =
            let made = stopped_past far.from far.opened (far.done ++ so_far.closed) (following clock_old) far.start now new command so_far.stands.began so_far.stands.progress
            (subst (λ (n : ℕ). MakesCommand now new command n state) (next_note (with_more far so_far.closed) keeps notes (left + 2 * length (bound_names (state_then state command))) now room)
            (makes_close now new (stepped so_far.stands.image so_far.stands.here state so_far.stands.kept))) in
            let fewer = made.count in
            let all = length-append far.done so_far.closed in
            subst (λ (l : List Stamped). StopsPast far.from far.opened l (length far.done) far.start new) (append_assoc far.done so_far.closed (command ∷ following clock_old))
            (record { stops = made.stops; count = omega (arith, fewer, all) })

        no_files : {image : Image} → ◌≡◌ {A = Option Image} (Some image) None → ⊥
        no_files e = cc

        some_same : {a b : Image} → ◌≡◌ {A = Option Image} (Some a) (Some b) → a ≡ b
        some_same e = cc

        by_fault : (f : Fault) → (ForSome now.files (λ image. (s : State) × keeps s image) → IfDamaged {A = Bool} (Err f) (λ _. now.files ≡ None))
            → Closes (Err f) (so_far.closed ++ command ∷ following clock_old) far keeps_new notes_new left new clock_old clock_new
        by_fault fault.Device u = stops
        by_fault (fault.Damaged damage) u = absurd (no_files (sym so_far.stands.here ∙ u (λ image here. (state, subst (λ (i : Image). keeps state i) (some_same (sym so_far.stands.here ∙ here)) so_far.stands.kept))))

-- Names that are bound.

pub name_at : (o : Option ℕ) → is_some o ≡ true → (name : ℕ) × (o ≡ Some name)
name_at None is = absurd (no is)
  where
    no : false ≡ true → ⊥
    no e = cc
name_at (Some name) is = (name, refl)

pub no_name : (o : Option ℕ) → is_some o ≡ false → o ≡ None
no_name None is = refl
no_name (Some name) is = absurd (no is)
  where
    no : true ≡ false → ⊥
    no e = cc

pub of_some : (o : Option ℕ) (name : ℕ) (P : ℕ → Type 0) → o ≡ Some name → IfSome o P → P name
of_some o name P is holds = subst (λ (x : Option ℕ). IfSome x P) is holds

-- one is bound less
pub fewer_bound : {Y : Type 0} (old new : List (Option Y)) (name : ℕ) → position is_some old ≡ Some name → new ≡ slice_set old name None → count_by is_some new < count_by is_some old
fewer_bound old new name at is =
    let found = position-Some is_some old name None at in
    let sums = sum_by-set (λ slot. cond (is_some slot) 1 0) old name None None found.0 in
    let one : ◌≡◌ {A = ℕ} (cond (is_some (get_or old name None)) 1 0) 1 = ap (λ (b : Bool). cond b 1 0) found.1 in
    let same : count_by is_some new ≡ count_by is_some (slice_set old name None) = ap (count_by is_some) is in
    omega (arith, sums, one, same)

pub close_handed : (q : Result (Unit {0}) Fault) (why : Fault) (far : SoFar) (keeps : State → Image → Type 0) (notes left : ℕ) (now : Told) (clock_old clock_new : Option Readings) → IsErrAnd q (λ (x : Fault). x ≡ why)
    → ClosesAll (Err why) far keeps notes left now clock_old clock_new → ClosesAll q far keeps notes left now clock_old clock_new
close_handed q why far keeps notes left now clock_old clock_new is closes = subst (λ (r : Result (Unit {0}) Fault). ClosesAll r far keeps notes left now clock_old clock_new) (sym (handed_on q why is)) closes

-- where no slot has something each is free
pub all_free : {Y : Type 0} (slots : List (Option Y)) → position is_some slots ≡ None → (name : ℕ) → slice_index_or slots name None ≡ None
all_free {Y} slots none name = empty (slice_index_or slots name None) (anywhere slots name (λ k below. inside k below))
  where
    empty : (slot : Option Y) → is_some slot ≡ false → slot ≡ None
    empty None e = refl
    empty (Some y) e = absurd (taken e)
      where
        taken : true ≡ false → ⊥
        taken c = cc

    anywhere : (slots : List (Option Y)) (name : ℕ) → ((k : ℕ) → k < length slots → is_some (get_or slots k None) ≡ false) → is_some (get_or slots name None) ≡ false
    anywhere [] name all = refl
    anywhere (slot ∷ slots) zero all = all zero (omega arith)
    anywhere (slot ∷ slots) (suc name) all = anywhere slots name (λ k below. all (suc k) (omega (arith, below)))

    untaken : {A : Type 0} (b : Bool) (a : A) → cond b (Some a) None ≡ None → b ≡ false
    untaken true a c = cc
    untaken false a c = refl

    inside : (k : ℕ) → k < length slots → is_some (get_or slots k None) ≡ false
    inside k below =
        let short = ltb-false (position_or_len is_some slots) (length slots) (untaken (nat_lt (position_or_len is_some slots) (length slots)) (position_or_len is_some slots) none) in
        fails_before_first is_some slots k None (omega (arith, short, below))
