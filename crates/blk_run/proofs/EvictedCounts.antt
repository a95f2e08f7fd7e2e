-- How many items a command evicts, by how many there were before it and are after it.
use Rattle.std.proofs.Common.{◌≡◌, ◌⊎◌, inl, inr, ℕ, zero, suc, ◌+◌, ◌-◌, ◌≤◌, Bool, true, false, cond, List, [], ◌∷◌, ◌++◌, length, Option, None, Some, refl, sym, ap, subst, ◌∙◌, arith}
use Rattle.std.specs.Prelude.{◌==◌, ◌&&◌, ◌||◌, nat_lt, is_none, slice_index_or, drop}
use Rattle.std.specs.List.{AllByRecursion}
use Rattle.std.proofs.lemmas.Bool.{cases_Bool}
use Rattle.std.proofs.lemmas.List.{length-take}
use Rattle.std.proofs.lemmas.List.Sums.{sum_by-cons}
use Rattle.blk_model.specs.declared.Refusal.{Refusal}
use Rattle.blk_model.specs.Effects.{effect, object_of, stream_of}
use Rattle.blk_model.specs.Items.{Item, main, part}
use Rattle.blk_model.specs.Refusals.{evicted, evicted_for, names_none, no_name, refusals, refused, room_for}
use Rattle.blk_model.specs.Reply.{answer_of}
use Rattle.blk_model.specs.Request.{Request, to_close, to_flush, to_create, to_doom, to_doom_key, to_list, to_open, to_read, to_size, to_sparse_range, to_sparse_read, to_sparse_write, to_total, to_trim, to_write}
use Rattle.blk_model.specs.Room.{Group, after, full, count_of, evicted_until, fits, is_pinned, items, items_of_group, low, pinned, room, total_of, without}
use Rattle.blk_model.specs.State.{IsValidState, State}
use Rattle.blk_model.specs.Step.{Outcome, outcome, reply, step}
use Rattle.blk_model.proofs.Evicted.{state_without}
use Rattle.blk_model.proofs.States.{Named, named_object}
use Rattle.blk_model.proofs.Steps.{none_comes, room_for_is_loose}
use Rattle.law_state.proofs.CommandEnding.{groups-turn}
use Rattle.blk_evict.specs.RoomLaws.{IsLessByGroup, IsLastUnpinned, group_for}
use Rattle.blk_evict.proofs.RoomCounts.{counted-less}
use Rattle.blk_evict.proofs.RoomGroups.{last-goes, last-next, loose-for, nothing-more, without-none}
use Rattle.blk_cache.specs.Evicting.{count_of_groups}
use Rattle.blk_cache.proofs.Creates.{items-after}
use Rattle.blk_cache.proofs.WriteRoom.{items-same}
use Rattle.blk_gen.specs.Counting.{bytes_read, evicted_items}
use Rattle.blk_run.specs.Generating.{IsGeneratedRequest, evicted_by, longest_read}

-- The eviction units that are evicted.

-- the last item that need not stay, with those in front of it and those after it, which stay
record Last (stays : Item → Bool) (uses : List Item) : Type 0 where
  front : List Item
  item : Item
  behind : List Item
  listed : uses ≡ front ++ item ∷ behind
  unpinned : stays item ≡ false
  pinned_behind : AllByRecursion (λ other. stays other ≡ true) behind

last_of : (stays : Item → Bool) (uses : List Item) → AllByRecursion (λ item. stays item ≡ true) uses ⊎ Last stays uses
last_of stays [] = inl tt
last_of stays (first ∷ uses) = by_rest (last_of stays uses)
  where
    by_first : AllByRecursion (λ item. stays item ≡ true) uses → (stays first ≡ true) ⊎ (stays first ≡ false) → AllByRecursion (λ item. stays item ≡ true) (first ∷ uses) ⊎ Last stays (first ∷ uses)
    by_first all (inl is) = inl (is, all)
    by_first all (inr not) = inr (record { front = []; item = first; behind = uses; listed = refl; unpinned = not; pinned_behind = all })

    by_rest : AllByRecursion (λ item. stays item ≡ true) uses ⊎ Last stays uses → AllByRecursion (λ item. stays item ≡ true) (first ∷ uses) ⊎ Last stays (first ∷ uses)
    by_rest (inl all) = by_first all (cases_Bool (stays first))
    by_rest (inr last) = inr (record { front = first ∷ last.front; item = last.item; behind = last.behind; listed = ap (λ (l : List Item). first ∷ l) last.listed; unpinned = last.unpinned; pinned_behind = last.pinned_behind })

-- an eviction unit has an item
some_items : (item : Item) (front : List Item) → 1 ≤ length (items_of_group (group_for item front))
some_items (main key) front = omega arith
some_items (part key n) front = omega arith

-- without some eviction units there are fewer items, by those of the eviction units
abbrev IsFewer : State → List Group → Type 0
IsFewer state groups = items state ≡ items (without groups state) + count_of_groups groups

none_fewer : (state : State) (groups : List Group) → groups ≡ [] → IsFewer state groups
none_fewer state groups none = subst (IsFewer state) (sym none) (let same = ap items (without-none state) in omega (arith, same))

-- what is evicted until there is enough, where that is so of each state with fewer items
module _ (enough : State → Bool) (state : State) (valid : IsValidState state) (smaller : (s : State) → IsValidState s → items s + 1 ≤ items state → IsFewer s (evicted_until enough s [])) where
  next_fewer : enough state ≡ false → Last (is_pinned state []) state.uses → IsFewer state (evicted_until enough state [])
  next_fewer wants last =
      let is : IsLastUnpinned state [] last.front last.item last.behind = record { listed = last.listed; unpinned = last.unpinned; pinned_behind = last.pinned_behind } in
      let less : IsLessByGroup state (group_for last.item last.front) = counted-less state last.front last.item last.behind valid (last-goes state [] last.front last.item last.behind tt is) in
      let some = some_items last.item last.front in
      let left = less.items_left in
      let valid_next : IsValidState (without (group_for last.item last.front ∷ []) state) = state_without state valid [] (group_for last.item last.front ∷ []) (loose-for (is_pinned state []) last.item last.front last.unpinned, tt) in
      let rest : IsFewer (without (group_for last.item last.front ∷ []) state) (evicted_until enough (without (group_for last.item last.front ∷ []) state) []) =
      smaller (without (group_for last.item last.front ∷ []) state) valid_next (omega (arith, some, left)) in
      let turn = ap items (groups-turn state (group_for last.item last.front ∷ []) (evicted_until enough (without (group_for last.item last.front ∷ []) state) [])) in
      let sum = sum_by-cons (λ (g : Group). length (items_of_group g)) (group_for last.item last.front) (evicted_until enough (without (group_for last.item last.front ∷ []) state) []) in
      subst (IsFewer state) (sym (last-next enough state [] last.front last.item last.behind valid is wants)) (omega (arith, left, rest, turn, sum))

  by_last : enough state ≡ false → AllByRecursion (λ item. is_pinned state [] item ≡ true) state.uses ⊎ Last (is_pinned state []) state.uses → IsFewer state (evicted_until enough state [])
  by_last wants (inl all) = none_fewer state (evicted_until enough state []) (nothing-more enough state [] (inr all))
  by_last wants (inr last) = next_fewer wants last

  by_enough : (enough state ≡ true) ⊎ (enough state ≡ false) → IsFewer state (evicted_until enough state [])
  by_enough (inl met) = none_fewer state (evicted_until enough state []) (nothing-more enough state [] (inl met))
  by_enough (inr wants) = by_last wants (last_of (is_pinned state []) state.uses)

until_fewer : (fuel : ℕ) (enough : State → Bool) (state : State) → IsValidState state → items state ≤ fuel → IsFewer state (evicted_until enough state [])
until_fewer zero enough state valid few = by_enough enough state valid (λ s v less. absurd (omega (arith, few, less))) (cases_Bool (enough state))
until_fewer (suc fuel) enough state valid few = by_enough enough state valid (λ s v less. until_fewer fuel enough s v (omega (arith, few, less))) (cases_Bool (enough state))

-- what is evicted for space
room_fewer : (state : State) → IsValidState state → (bytes more : ℕ) → IsFewer state (evicted_for (room state [] bytes more))
unfolding room
room_fewer state valid bytes more =
    by_tests (bytes == 0 && more == 0) (nat_lt state.limits.max_bytes (total_of (pinned state []) + bytes) || nat_lt state.limits.max_items (count_of (pinned state []) + more)) (fits state.limits.max_bytes bytes more state)
  where
    by_tests : (none over fit : Bool) → IsFewer state (evicted_for (cond none (after []) (cond over full (cond fit (after []) (after (evicted_until (fits (low state) bytes more) state []))))))
    by_tests true over fit = none_fewer state [] refl
    by_tests false true fit = none_fewer state [] refl
    by_tests false false true = none_fewer state [] refl
    by_tests false false false = until_fewer (items state) (fits (low state) bytes more) state valid (omega arith)

-- Outcomes.

-- the names stay
names_left : (groups : List Group) (state : State) → (without groups state).names ≡ state.names
unfolding without
names_left [] state = refl
names_left (group ∷ groups) state = refl

-- the numbers of items before and after a command say what it evicted
abbrev IsTold : Request → State → Outcome → Type 0
IsTold request state made = (evicted_items made ≡ evicted_by request (answer_of made.reply) (items state) (items made.state)) × (evicted_items made ≤ items state)

-- a Create
created_told : (state : State) (moment handle : ℕ) (key : List ℕ) → IsValidState state → (r : Option Refusal) → IsTold (to_create handle key) state (outcome moment (to_create handle key) state r)
unfolding outcome evicted room_for effect reply
created_told state moment handle key valid (Some why) = (refl, omega arith)
created_told state moment handle key valid None =
    let fewer : IsFewer state (evicted moment (to_create handle key) state) = room_fewer state valid _ _ in
    let more = items-after (without (evicted moment (to_create handle key) state) state) handle key in
    (omega (arith, fewer, more), omega (arith, fewer))

-- a Write
written_told : (state : State) (moment handle stream offset : ℕ) (cut : Bool) (bytes : List ℕ) → IsValidState state → (r : Option Refusal) → refused moment (to_write handle stream offset cut bytes) state ≡ r
    → IsTold (to_write handle stream offset cut bytes) state (outcome moment (to_write handle stream offset cut bytes) state r)
unfolding outcome evicted room_for effect reply refusals
written_told state moment handle stream offset cut bytes valid (Some why) is = (let same : 0 ≡ items state - items state = omega arith in same, omega arith)
written_told state moment handle stream offset cut bytes valid None is =
    let fewer : IsFewer state (evicted moment (to_write handle stream offset cut bytes) state) = room_fewer state valid _ _ in
    let valid_base : IsValidState (without (evicted moment (to_write handle stream offset cut bytes) state) state) = state_without state valid [] (evicted moment (to_write handle stream offset cut bytes) state) (room_for_is_loose moment (to_write handle stream offset cut bytes) state) in
    let bound : names_none state handle ≡ false = (none_comes (refusals moment (to_write handle stream offset cut bytes) state) is).0 in
    let bound_base : names_none (without (evicted moment (to_write handle stream offset cut bytes) state) state) handle ≡ false = ap (λ (names : List (Option ℕ)). no_name handle || is_none (slice_index_or names handle None)) (names_left (evicted moment (to_write handle stream offset cut bytes) state) state) ∙ bound in
    let named : Named (without (evicted moment (to_write handle stream offset cut bytes) state) state) handle = named_object (without (evicted moment (to_write handle stream offset cut bytes) state) state) valid_base handle bound_base in
    let same = items-same (without (evicted moment (to_write handle stream offset cut bytes) state) state) handle stream offset cut bytes named.number named.object (record { names = named.by_name; here = named.here }) in
    (omega (arith, fewer, same), omega (arith, fewer))

-- what isn't a Create or a Write evicts nothing
opened_told : (state : State) (moment handle : ℕ) (key : List ℕ) (r : Option Refusal) → IsTold (to_open handle key) state (outcome moment (to_open handle key) state r)
unfolding outcome evicted
opened_told state moment handle key None = (refl, omega arith)
opened_told state moment handle key (Some why) = (refl, omega arith)

read_told : (state : State) (moment handle stream offset count : ℕ) (r : Option Refusal) → IsTold (to_read handle stream offset count) state (outcome moment (to_read handle stream offset count) state r)
unfolding outcome evicted
read_told state moment handle stream offset count None = (refl, omega arith)
read_told state moment handle stream offset count (Some why) = (refl, omega arith)

closed_told : (state : State) (moment handle : ℕ) (r : Option Refusal) → IsTold (to_close handle) state (outcome moment (to_close handle) state r)
unfolding outcome evicted
closed_told state moment handle None = (refl, omega arith)
closed_told state moment handle (Some why) = (refl, omega arith)

-- each command of a generator
pub told_by : (state : State) (moment : ℕ) (request : Request) → IsValidState state → IsGeneratedRequest request → IsTold request state (step state moment request)
unfolding step
told_by state moment (to_create handle key) valid asked = created_told state moment handle key valid (refused moment (to_create handle key) state)
told_by state moment (to_write handle stream offset cut bytes) valid asked = written_told state moment handle stream offset cut bytes valid (refused moment (to_write handle stream offset cut bytes) state) refl
told_by state moment (to_open handle key) valid asked = opened_told state moment handle key (refused moment (to_open handle key) state)
told_by state moment (to_read handle stream offset count) valid asked = read_told state moment handle stream offset count (refused moment (to_read handle stream offset count) state)
told_by state moment (to_close handle) valid asked = closed_told state moment handle (refused moment (to_close handle) state)
told_by state moment (to_size handle stream) valid asked = absurd asked
told_by state moment (to_sparse_write handle offset bytes) valid asked = absurd asked
told_by state moment (to_sparse_read handle offset count) valid asked = absurd asked
told_by state moment (to_sparse_range handle offset count) valid asked = absurd asked
told_by state moment (to_doom handle) valid asked = absurd asked
told_by state moment (to_doom_key key) valid asked = absurd asked
told_by state moment (to_flush handle) valid asked = absurd asked
told_by state moment to_list valid asked = absurd asked
told_by state moment (to_trim bytes) valid asked = absurd asked
told_by state moment to_total valid asked = absurd asked

-- What it reads.

bytes_few : (request : Request) → IsGeneratedRequest request → (moment : ℕ) (state : State) (r : Option Refusal) → bytes_read (answer_of (outcome moment request state r).reply) ≤ longest_read
unfolding outcome reply
bytes_few (to_create handle key) asked moment state None = omega arith
bytes_few (to_open handle key) asked moment state None = omega arith
bytes_few (to_write handle stream offset cut bytes) asked moment state None = omega arith
bytes_few (to_close handle) asked moment state None = omega arith
bytes_few (to_read handle stream offset count) asked moment state None =
    let long = length-take count (drop offset (stream_of (object_of state handle) stream)) in omega (arith, long, asked)
bytes_few (to_size handle stream) asked moment state None = absurd asked
bytes_few (to_sparse_write handle offset bytes) asked moment state None = absurd asked
bytes_few (to_sparse_read handle offset count) asked moment state None = absurd asked
bytes_few (to_sparse_range handle offset count) asked moment state None = absurd asked
bytes_few (to_doom handle) asked moment state None = absurd asked
bytes_few (to_doom_key key) asked moment state None = absurd asked
bytes_few (to_flush handle) asked moment state None = absurd asked
bytes_few to_list asked moment state None = absurd asked
bytes_few (to_trim bytes) asked moment state None = absurd asked
bytes_few to_total asked moment state None = absurd asked
bytes_few request asked moment state (Some why) = omega arith

pub read_few : (state : State) (moment : ℕ) (request : Request) → IsGeneratedRequest request → bytes_read (answer_of (step state moment request).reply) ≤ longest_read
unfolding step
read_few state moment request asked = bytes_few request asked moment state (refused moment request state)
