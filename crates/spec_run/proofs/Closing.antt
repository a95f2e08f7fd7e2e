-- The bound names, the least first, and what a Close leaves of them.
use Rattle.std.proofs.Common.{ℕ, zero, suc, ◌+◌, ◌<◌, ◌≤◌, ◌≡◌, Bool, true, false, List, [], ◌∷◌, length, get_or, set, Option, None, Some, refl, sym, ◌∙◌, ap, subst, arith}
use Rattle.std.specs.Prelude.{if◌then◌else◌, cond, nat_lt, is_some, is_none, nat_le, slice_index_or, slice_set, ◌||◌}
use Rattle.std.specs.List.{position, position_or_len}
use Rattle.std.proofs.lemmas.List.Quantifiers.{position-Some}
use Rattle.std.proofs.lemmas.Bool.{lt-leb, ltb-false}
use Rattle.std.proofs.lemmas.List.Sums.{fails_before_first}
use Rattle.blk_model.specs.declared.Refusal.TheVariants as refusal
use Rattle.blk_model.specs.Sizes.{handle_names}
use Rattle.blk_model.specs.State.{State, Object, IsValidState, named_by, object_at}
use Rattle.blk_model.specs.Effects.{closed, effect, released, with_name, number_of}
use Rattle.blk_model.specs.Refusals.{refusals, evicted, names_none}
use Rattle.blk_model.specs.Request.{to_close}
use Rattle.blk_model.specs.Room.{without}
use Rattle.blk_model.specs.Step.{step, outcome, reply}
use Rattle.blk_io.specs.Streams.{reading_of}
use Rattle.spec_run.specs.Script.{is_refused}
use Rattle.spec_run.specs.Run.{bound_from, bound_names, closings}
use Rattle.spec_run.specs.Laws.{IsLeastBound, LeastNamesAreClosedFirst, NoneIsClosedWhereNoneIsBound, ClosesFreeTheirName, BoundNamesAreFew}

-- Slots.

true_false : {P : Type 0} {b : Bool} → b ≡ true → b ≡ false → P
true_false {b = b} t f = absurd (clash (sym t ∙ f))
  where
    clash : true ≡ false → ⊥
    clash c = cc

-- the least bound name is first, and the others are those of the slots without it
least_first : (start name : ℕ) (slots : List (Option ℕ)) → is_some (get_or slots name None) ≡ true → ((other : ℕ) → other < name → is_some (get_or slots other None) ≡ false)
    → bound_from start slots ≡ (start + name) ∷ bound_from start (set slots name None)
least_first start name [] bound least = absurd (nothing bound)
  where
    nothing : false ≡ true → ⊥
    nothing c = cc
least_first start zero (None ∷ slots) bound least = absurd (nothing bound)
  where
    nothing : false ≡ true → ⊥
    nothing c = cc
least_first start zero (Some number ∷ slots) bound least = let same : start ≡ start + 0 = omega arith in ap (λ (n : ℕ). n ∷ bound_from (start + 1) slots) same
least_first start (suc name) (Some number ∷ slots) bound least = true_false refl (least zero (omega arith))
least_first start (suc name) (None ∷ slots) bound least =
    let later : (other : ℕ) → other < name → is_some (get_or slots other None) ≡ false = λ other below. least (suc other) (omega (arith, below)) in
    let same : start + 1 + name ≡ start + suc name = omega arith in
    least_first (start + 1) name slots bound later ∙ ap (λ (n : ℕ). n ∷ bound_from (start + 1) (set slots name None)) same

none_bound : (start : ℕ) (slots : List (Option ℕ)) → ((name : ℕ) → is_some (get_or slots name None) ≡ false) → bound_from start slots ≡ []
none_bound start [] free = refl
none_bound start (Some number ∷ slots) free = true_false refl (free zero)
none_bound start (None ∷ slots) free = none_bound (start + 1) slots (λ name. free (suc name))

few_bound : (start : ℕ) (slots : List (Option ℕ)) → length (bound_from start slots) ≤ length slots
few_bound start [] = omega arith
few_bound start (Some number ∷ slots) = let more = few_bound (start + 1) slots in omega (arith, more)
few_bound start (None ∷ slots) = let more = few_bound (start + 1) slots in omega (arith, more)

past_end : (slots : List (Option ℕ)) (name : ℕ) → is_some (get_or slots name None) ≡ true → name < length slots
past_end [] name bound = absurd (nothing bound)
  where
    nothing : false ≡ true → ⊥
    nothing c = cc
past_end (slot ∷ slots) zero bound = omega arith
past_end (slot ∷ slots) (suc name) bound = let more = past_end slots name bound in omega (arith, more)

-- Closes.

-- an object that has lost a handle leaves the names as they are
released_names : (number : ℕ) (state : State) (slot : Option Object) → (released number state slot).names ≡ state.names
released_names number state None = refl
released_names number state (Some object) = refl

pub few_names : BoundNamesAreFew
few_names state valid = subst (λ (n : ℕ). length (bound_names state) ≤ n) valid.names (few_bound 0 state.names)

pub none_closed : NoneIsClosedWhereNoneIsBound
none_closed state free = none_bound 0 state.names free

-- a Close that isn't refused
after_close : (state : State) (moment name : ℕ) (b : Bool) → b ≡ false → (outcome moment (to_close name) state (if b then Some refusal.BadHandle else None)).state.names ≡ slice_set state.names name None
unfolding outcome evicted without effect closed
after_close state moment name true bad = absurd (clash bad)
  where
    clash : true ≡ false → ⊥
    clash c = cc
after_close state moment name false bad = released_names (number_of state name) (with_name name None state) (object_at state (number_of state name))

bound_is_named : (state : State) (name : ℕ) → IsValidState state → is_some (named_by state name) ≡ true → names_none state name ≡ false
bound_is_named state name valid bound = both (nat_le handle_names name) (named_by state name) (lt-leb handle_names name below) bound
  where
    below : name < handle_names
    below = subst (λ (n : ℕ). name < n) valid.names (past_end state.names name bound)

    both : (b : Bool) (slot : Option ℕ) → b ≡ false → is_some slot ≡ true → (b || is_none slot) ≡ false
    both b None first second = absurd (nothing second)
      where
        nothing : false ≡ true → ⊥
        nothing c = cc
    both true (Some number) first second = first
    both false (Some number) first second = refl

pub name_freed : ClosesFreeTheirName
unfolding step refusals
name_freed state moment name valid bound = after_close state moment name (names_none state name) (bound_is_named state name valid bound)

-- a Close of a handle that is bound isn't refused
not_refused : (state : State) (moment name : ℕ) (b : Bool) → b ≡ false
    → is_refused (outcome moment (to_close name) state (if b then Some refusal.BadHandle else None)) ≡ false
unfolding outcome reply
not_refused state moment name true bad = absurd (clash bad)
  where
    clash : true ≡ false → ⊥
    clash c = cc
not_refused state moment name false bad = refl

pub close_passes : (state : State) (moment name : ℕ) → IsValidState state → is_some (named_by state name) ≡ true
    → is_refused (step state moment (to_close name)) ≡ false
unfolding step refusals
close_passes state moment name valid bound = not_refused state moment name (names_none state name) (bound_is_named state name valid bound)

-- the least bound name is closed first
pub least_closed : LeastNamesAreClosedFirst
unfolding closings
least_closed state clock name valid least =
    let none : 0 + name ≡ name = omega arith in
    let first : bound_names state ≡ name ∷ bound_from 0 (slice_set state.names name None) = least_first 0 name state.names least.bound least.least ∙ ap (λ (n : ℕ). n ∷ bound_from 0 (slice_set state.names name None)) none in
    let freed = name_freed state (reading_of clock) name valid least.bound in
    ap (λ (names : List ℕ). closings names clock) (first ∙ ap (λ (slots : List (Option ℕ)). name ∷ bound_from 0 slots) (sym freed))

-- Other slots in which the same names are bound.

-- some slots have something exactly where a state has a name bound
pub least_of_slots : {Y : Type 0} (slots : List (Option Y)) (state : State) (name : ℕ) → ((other : ℕ) → is_some (slice_index_or slots other None) ≡ is_some (named_by state other))
    → position is_some slots ≡ Some name → IsLeastBound state name
least_of_slots slots state name same at =
    let found = position-Some is_some slots name None at in
    record { bound = sym (same name) ∙ found.1; least = λ other below. sym (same other) ∙ found.2 other below }

-- where no slot has something no name is bound
pub none_of_slots : {Y : Type 0} (slots : List (Option Y)) (state : State) → ((other : ℕ) → is_some (slice_index_or slots other None) ≡ is_some (named_by state other))
    → position is_some slots ≡ None → (name : ℕ) → is_some (named_by state name) ≡ false
none_of_slots {Y} slots state same none name = sym (same name) ∙ anywhere slots name (λ k below. inside k below)
  where
    anywhere : (slots : List (Option Y)) (name : ℕ) → ((k : ℕ) → k < length slots → is_some (get_or slots k None) ≡ false) → is_some (get_or slots name None) ≡ false
    anywhere [] name all = refl
    anywhere (slot ∷ slots) zero all = all zero (omega arith)
    anywhere (slot ∷ slots) (suc name) all = anywhere slots name (λ k below. all (suc k) (omega (arith, below)))

    untaken : {A : Type 0} (b : Bool) (a : A) → cond b (Some a) None ≡ None → b ≡ false
    untaken true a c = cc
    untaken false a c = refl

    inside : (k : ℕ) → k < length slots → is_some (get_or slots k None) ≡ false
    inside k below =
        let short = ltb-false (position_or_len is_some slots) (length slots) (untaken (nat_lt (position_or_len is_some slots) (length slots)) (position_or_len is_some slots) none) in
        fails_before_first is_some slots k None (omega (arith, short, below))
