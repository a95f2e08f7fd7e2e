-- Each step of a valid state leads to a valid state.
use Rattle.std.proofs.Common.{◌≡◌, ℕ, zero, suc, ◌+◌, ◌-◌, ◌≤◌, Bool, true, false, not, ◌&&◌, ◌||◌, cond, List, [], ◌∷◌, Some, None, is_none, refl, ap, ◌∙◌, arith, length}
use Rattle.std.specs.List.{AllByRecursion, slice_index_or}
use Rattle.std.specs.Option.{option_and_then}
use Rattle.std.specs.Bool.{nat_lt, nat_le, ◌==◌}
use Rattle.std.proofs.lemmas.Bool.{or_parts, eqb-false, leb-false, ltb-false}
use Rattle.blk_model.specs.declared.Refusal.{Refusal}
use Rattle.blk_model.specs.Items.{Item, main, IsKey, IsBytes, is_sparse}
use Rattle.blk_model.specs.State.{State, IsValidState, named_by, owners, live_with}
use Rattle.blk_model.specs.Room.{Group, without, is_out, is_pinned, room, full, after, fits, total_of, count_of, pinned, evicted_until, low, total, items, left_of}
use Rattle.blk_model.specs.Request.{Request, IsRequest, to_create, to_open, to_read, to_write, to_size, to_sparse_write, to_sparse_read, to_sparse_range, to_doom, to_doom_key, to_close, to_flush, to_list, to_trim, to_total}
use Rattle.blk_model.specs.Step.{step, outcome}
use Rattle.blk_model.specs.Sizes.{handle_names, largest_offset, longest_key}
use Rattle.blk_model.specs.Effects.{created, effect, sparse_written, written}
use Rattle.blk_model.specs.Refusals.{covered, evicted, evicted_for, first_refusal, has_one_stream, no_key, no_name, refusals, refused, room_for}
use Rattle.blk_model.proofs.Slots.{owners-map, owners-first_none}
use Rattle.blk_model.proofs.States.{none_of, state_used_main, state_opened}
use Rattle.blk_model.proofs.Created.{state_created}
use Rattle.blk_model.proofs.Doomed.{state_doomed_handle, state_doomed_key, state_closed}
use Rattle.blk_model.proofs.Settled.{state_flushed}
use Rattle.blk_model.proofs.Evicted.{IsLoose, state_without, evicted_are_loose, left_slot_has}
use Rattle.blk_model.proofs.SparseWritten.{state_sparse_used, state_sparse_written}
use Rattle.blk_model.proofs.Written.{state_written, without_names, object_left}

-- each test of a row of refusals is false
abbrev pub NoneComes : List (Bool × Refusal) → Type 0
NoneComes [] = Unit {0}
NoneComes (case ∷ cases) = (case.0 ≡ false) × NoneComes cases

pub none_comes : (cases : List (Bool × Refusal)) → first_refusal cases ≡ None → NoneComes cases
none_comes [] e = tt
none_comes (case ∷ cases) e =
    elim (case.0) as (λ b. case.0 ≡ b → cond b (Some case.1) (first_refusal cases) ≡ None → (case.0 ≡ false) × NoneComes cases) [
      | true ↦ λ comes is. absurd (not_none case.1 is)
      | false ↦ λ passes is. (passes, none_comes cases is)
    ] refl e
  where
    not_none : (why : Refusal) → Some why ≡ None → ⊥
    not_none why e = cc

-- what is evicted for space is not pinned
pub room_is_loose : (state : State) (items : List Item) (bytes more : ℕ) → AllByRecursion (IsLoose (is_pinned state items)) (evicted_for (room state items bytes more))
unfolding room
room_is_loose state items bytes more =
    elim (bytes == 0 && more == 0) as (λ a. AllByRecursion (IsLoose (is_pinned state items)) (evicted_for (cond a (after []) (cond (nat_lt state.limits.max_bytes (total_of (pinned state items) + bytes) || nat_lt state.limits.max_items (count_of (pinned state items) + more)) full (cond (fits state.limits.max_bytes bytes more state) (after []) (after (evicted_until (fits (low state) bytes more) state items))))))) [
      | true ↦ tt
      | false ↦ elim (nat_lt state.limits.max_bytes (total_of (pinned state items) + bytes) || nat_lt state.limits.max_items (count_of (pinned state items) + more)) as (λ b. AllByRecursion (IsLoose (is_pinned state items)) (evicted_for (cond b full (cond (fits state.limits.max_bytes bytes more state) (after []) (after (evicted_until (fits (low state) bytes more) state items)))))) [
        | true ↦ tt
        | false ↦ elim (fits state.limits.max_bytes bytes more state) as (λ c. AllByRecursion (IsLoose (is_pinned state items)) (evicted_for (cond c (after []) (after (evicted_until (fits (low state) bytes more) state items))))) [
          | true ↦ tt
          | false ↦ evicted_are_loose (fits (low state) bytes more) state items
        ]
      ]
    ]

pub room_for_is_loose : (moment : ℕ) (request : Request) (state : State) → AllByRecursion (IsLoose (is_pinned state (covered request state))) (evicted_for (room_for moment request state))
unfolding room_for room
room_for_is_loose moment request state = room_is_loose state (covered request state) (total (effect moment request state) - total state) (items (effect moment request state) - items state)

-- an item without an owner has none after evictions
owners_without : (item : Item) (groups : List Group) (state : State) → owners item state.objects ≡ 0 → owners item (without groups state).objects ≡ 0
unfolding without
owners_without item [] state none = none
owners_without item (group ∷ groups) state none =
    owners-map item (is_out (group ∷ groups) item) (option_and_then (left_of (group ∷ groups))) state.objects (left_slot_has (group ∷ groups) item)
    ∙ elim (is_out (group ∷ groups) item) as (λ b. ◌≡◌ {A = ℕ} (cond b 0 (owners item state.objects)) 0) [ true ↦ refl | false ↦ none ]

is_key : (key : List ℕ) → IsBytes key → no_key key ≡ false → IsKey key
is_key key is_bytes passed =
    let parts = or_parts _ _ passed in
    let some = eqb-false (length key) 0 parts.0 in
    let short = ltb-false longest_key (length key) parts.1 in record { some = positive (length key) some; short = omega (arith, short); bytes = is_bytes }
  where
    positive : (n : ℕ) → (n ≡ 0 → ⊥) → 1 ≤ n
    positive zero some = absurd (some refl)
    positive (suc n) some = omega arith

created_step : (state : State) (valid : IsValidState state) (moment handle : ℕ) (key : List ℕ) → IsBytes key → (groups : List Group) → AllByRecursion (IsLoose (is_pinned state [])) groups → first_refusal (refusals moment (to_create handle key) state) ≡ None → IsValidState (created handle key (without groups state))
unfolding refusals
created_step state valid moment handle key is_bytes groups loose accepted =
    let passed = none_comes (refusals moment (to_create handle key) state) accepted in
    state_created (without groups state) (state_without state valid [] groups loose) handle key (is_key key is_bytes passed.0) (leb-false handle_names handle passed.1.0)
    (ap (λ names. slice_index_or names handle None) (without_names groups state) ∙ none_of (named_by state handle) passed.1.1.0)
    (owners_without (main key) groups state (owners-first_none (main key) 0 state.objects (none_of (live_with state key) passed.1.1.1.0)))

written_step : (state : State) (valid : IsValidState state) (moment handle stream offset : ℕ) (cut : Bool) (bytes : List ℕ) → IsBytes bytes → (groups : List Group) → AllByRecursion (IsLoose (is_pinned state [])) groups → first_refusal (refusals moment (to_write handle stream offset cut bytes) state) ≡ None →
    IsValidState (written handle stream offset cut bytes (without groups state))
unfolding refusals
written_step state valid moment handle stream offset cut bytes is_bytes groups loose accepted =
    let passed = none_comes (refusals moment (to_write handle stream offset cut bytes) state) accepted in
    let left = object_left state valid [] groups loose handle passed.0 in
    state_written (without groups state) (state_without state valid [] groups loose) handle stream offset cut bytes is_bytes
    (ap (λ names. no_name handle || is_none (slice_index_or names handle None)) (without_names groups state) ∙ passed.0)
    (ap (λ o. is_sparse o.shape && nat_lt 0 stream) left.1 ∙ passed.1.1.1.0)

sparse_written_step : (state : State) (valid : IsValidState state) (moment handle offset : ℕ) (bytes : List ℕ) → IsBytes bytes → (covers : List Item) (groups : List Group) → AllByRecursion (IsLoose (is_pinned state covers)) groups → first_refusal (refusals moment (to_sparse_write handle offset bytes) state) ≡ None →
    IsValidState (sparse_written moment handle offset bytes (without groups state))
unfolding refusals
sparse_written_step state valid moment handle offset bytes is_bytes covers groups loose accepted =
    let passed = none_comes (refusals moment (to_sparse_write handle offset bytes) state) accepted in
    let left = object_left state valid covers groups loose handle passed.0 in
    state_sparse_written (without groups state) (state_without state valid covers groups loose) moment handle offset bytes is_bytes
    (ap (λ names. no_name handle || is_none (slice_index_or names handle None)) (without_names groups state) ∙ passed.0)
    (ap (λ o. not o.live) left.1 ∙ passed.1.1.1.0)
    (ap (λ o. not (is_sparse o.shape) && not (has_one_stream o)) left.1 ∙ passed.1.1.1.1.0)
    (ltb-false largest_offset (offset + length bytes) passed.1.1.0)

pub effect_valid : (state : State) (valid : IsValidState state) (moment : ℕ) (request : Request) → IsRequest request → first_refusal (refusals moment request state) ≡ None → IsValidState (effect moment request (without (evicted moment request state) state))
unfolding effect evicted refusals without
effect_valid state valid moment (to_create handle key) can accepted = created_step state valid moment handle key can.1 _ (room_for_is_loose moment (to_create handle key) state) accepted
effect_valid state valid moment (to_open handle key) can accepted =
    let passed = none_comes (refusals moment (to_open handle key) state) accepted in state_opened state valid handle key passed.1.1.0 passed.1.1.1.0
effect_valid state valid moment (to_read handle stream offset count) can accepted = state_used_main state valid handle (none_comes (refusals moment (to_read handle stream offset count) state) accepted).0
effect_valid state valid moment (to_write handle stream offset cut bytes) can accepted = written_step state valid moment handle stream offset cut bytes can.3 _ (room_for_is_loose moment (to_write handle stream offset cut bytes) state) accepted
effect_valid state valid moment (to_size handle stream) can accepted = valid
effect_valid state valid moment (to_sparse_write handle offset bytes) can accepted = sparse_written_step state valid moment handle offset bytes can.2 (covered (to_sparse_write handle offset bytes) state) _ (room_for_is_loose moment (to_sparse_write handle offset bytes) state) accepted
effect_valid state valid moment (to_sparse_read handle offset count) can accepted =
    let passed = none_comes (refusals moment (to_sparse_read handle offset count) state) accepted in state_sparse_used state valid handle offset count passed.0 passed.1.1.1.0
effect_valid state valid moment (to_sparse_range handle offset count) can accepted =
    let passed = none_comes (refusals moment (to_sparse_range handle offset count) state) accepted in state_sparse_used state valid handle offset count passed.0 passed.1.1.1.0
effect_valid state valid moment (to_doom handle) can accepted = let passed = none_comes (refusals moment (to_doom handle) state) accepted in state_doomed_handle state valid handle passed.0 passed.1.0
effect_valid state valid moment (to_doom_key key) can accepted = state_doomed_key state valid key (live_with state key) refl
effect_valid state valid moment (to_close handle) can accepted = state_closed state valid handle (none_comes (refusals moment (to_close handle) state) accepted).0
effect_valid state valid moment (to_flush handle) can accepted = state_flushed state valid handle
effect_valid state valid moment to_list can accepted = valid
effect_valid state valid moment (to_trim bytes) can accepted = state_without state valid [] _ (evicted_are_loose (λ left. nat_le (total left) bytes) state [])
effect_valid state valid moment to_total can accepted = valid

-- a step of a valid state leads to a valid state
pub step_valid : (state : State) (moment : ℕ) (request : Request) → IsValidState state → IsRequest request → IsValidState (step state moment request).state
unfolding step outcome
step_valid state moment request valid can =
    elim (refused moment request state) as (λ why. refused moment request state ≡ why → IsValidState (outcome moment request state why).state) [
      | Some why ↦ λ e. valid
      | None ↦ λ e. effect_valid state valid moment request can e
    ] refl
