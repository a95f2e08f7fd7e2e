-- Worked crashes on the model, computed: the items that a crash inside a command may leave.
use Rattle.std.proofs.Common.{◌≡◌, ℕ, Bool, true, false, List, [], ◌∷◌, ◌++◌, refl, codes, length, map, ◌<◌, arith}
use Rattle.std.specs.List.{AllByRecursion}
use Rattle.std.proofs.lemmas.List.Elements.{All-nil, All-cons}
use Rattle.blk_model.specs.Items.{Item, Row, main, part, item_of, IsBytes}
use Rattle.blk_model.specs.Room.{whole, without}
use Rattle.blk_model.specs.EvictionLaws.{EvictsFirst, later_steps}
use Rattle.blk_model.proofs.EvictedFirst.{evictions-stop, evictions-first, rests-of}
use Rattle.blk_model.proofs.Opened.{open_valid}
use Rattle.blk_model.proofs.Steps.{step_valid}
use Rattle.blk_model.specs.Request.{Request, to_create, to_open, to_write, to_close, to_flush, to_trim, to_doom_key, to_sparse_write, to_sparse_read}
use Rattle.blk_model.specs.State.{State, IsValidState}
use Rattle.blk_model.specs.Holding.{rest}
use Rattle.blk_model.specs.Step.{step}
use Rattle.blk_model.specs.ListSteps.{out, after_steps, dooms, uses_of, list_steps, list_after}
use Rattle.blk_model.specs.Stops.{pick, StopOutcome}
use Rattle.blk_model.proofs.Computing.{computing}
use Rattle.blk_model.proofs.Rows.{after_all, new}

abbrev pub a : List ℕ
a = codes "a"

abbrev pub b : List ℕ
b = codes "b"

abbrev pub c : List ℕ
c = codes "c"

-- an empty object, made and closed
abbrev made : List ℕ → List Request
made key = to_create 0 key ∷ to_close 0 ∷ []

-- three closed objects, c used last
abbrev three : State
three = after_all new (made a ++ made b ++ made c)

-- the items that are left where a request crashes after some list steps
abbrev held : State → Request → ℕ → Bool → List Item
held state request j with_turned = map item_of (pick state (step state 100 request).state with_turned (list_after state 100 request j))

-- accessing an item: the old order before it moves, the new one after
touched : length (list_steps three 100 (to_open 0 b)) ∷ [] ≡ 1 ∷ []
unfolding computing
touched = refl

touched_held : held three (to_open 0 b) 0 false ∷ held three (to_open 0 b) 1 false ∷ held three (to_open 0 b) 1 true ∷ []
    ≡ (main c ∷ main b ∷ main a ∷ []) ∷ (main b ∷ main c ∷ main a ∷ []) ∷ (main b ∷ main c ∷ main a ∷ []) ∷ []
unfolding computing
touched_held = refl

-- a is open and changed
abbrev changed : State
changed = after_all three (to_open 5 a ∷ to_write 5 0 0 false (codes "x") ∷ [])

-- closing it makes no list step: it is absent until the Close commits, and then there
closed_steps : length (list_steps changed 100 (to_close 5)) ≡ 0
unfolding computing
closed_steps = refl

closed_held : held changed (to_close 5) 0 false ∷ held changed (to_close 5) 0 true ∷ [] ≡ (main c ∷ main b ∷ []) ∷ (main a ∷ main c ∷ main b ∷ []) ∷ []
unfolding computing
closed_held = refl

-- flushing it is alike, and then it is durable while it is open
flushed_steps : length (list_steps changed 100 (to_flush 5)) ≡ 0
unfolding computing
flushed_steps = refl

flushed_held : held changed (to_flush 5) 0 false ∷ held changed (to_flush 5) 0 true ∷ [] ≡ (main c ∷ main b ∷ []) ∷ (main a ∷ main c ∷ main b ∷ []) ∷ []
unfolding computing
flushed_held = refl

flushed_rest : map item_of (rest (after_all changed (to_flush 5 ∷ []))) ≡ main a ∷ main c ∷ main b ∷ []
unfolding computing
flushed_rest = refl

-- until it is written again
written_again : map item_of (rest (after_all changed (to_flush 5 ∷ to_write 5 0 0 false (codes "y") ∷ []))) ≡ main c ∷ main b ∷ []
unfolding computing
written_again = refl

-- the first write to an open clean object: it is there with what it had, or absent, in the old order or the new one
abbrev opened_a : State
opened_a = after_all three (to_open 5 a ∷ to_open 6 b ∷ [])

written_held : held opened_a (to_write 5 0 0 false (codes "x")) 0 true ∷ held opened_a (to_write 5 0 0 false (codes "x")) 0 false ∷ held opened_a (to_write 5 0 0 false (codes "x")) 1 true ∷ held opened_a (to_write 5 0 0 false (codes "x")) 1 false ∷ []
    ≡ (main b ∷ main a ∷ main c ∷ []) ∷ (main b ∷ main c ∷ []) ∷ (main a ∷ main b ∷ main c ∷ []) ∷ (main b ∷ main c ∷ []) ∷ []
unfolding computing
written_held = refl

-- a new object is never left by a crash in the command that makes it
created_held : held three (to_create 5 (codes "d")) 0 true ∷ held three (to_create 5 (codes "d")) 1 true ∷ [] ≡ (main c ∷ main b ∷ main a ∷ []) ∷ (main c ∷ main b ∷ main a ∷ []) ∷ []
unfolding computing
created_held = refl

-- a doomed object is there until its list step
doomed_held : held three (to_doom_key b) 0 false ∷ held three (to_doom_key b) 1 false ∷ [] ≡ (main c ∷ main b ∷ main a ∷ []) ∷ (main c ∷ main a ∷ []) ∷ []
unfolding computing
doomed_held = refl

-- a closed sparse object with two parts, both used after its main item by one read over them
abbrev sparse_c : State
sparse_c = after_all new (to_create 0 c ∷ to_sparse_write 0 0 (codes "x") ∷ to_sparse_write 0 1048576 (codes "y") ∷ to_sparse_read 0 1048575 2 ∷ to_close 0 ∷ [])

-- its eviction takes it whole or not at all
evicted_whole : held sparse_c (to_trim 0) 0 false ∷ held sparse_c (to_trim 0) 1 false ∷ [] ≡ (part c 1 ∷ part c 0 ∷ main c ∷ []) ∷ [] ∷ []
unfolding computing
evicted_whole = refl

-- a sparse object with a part after its main item, which is evicted alone and first
abbrev part_behind : State
part_behind = after_all new (made a ++ to_create 0 c ∷ to_sparse_write 0 0 (codes "x") ∷ to_sparse_write 0 1048576 (codes "y") ∷ to_close 0 ∷ [])

evicted_part_first : held part_behind (to_trim 0) 0 false ∷ held part_behind (to_trim 0) 1 false ∷ held part_behind (to_trim 0) 2 false ∷ held part_behind (to_trim 0) 3 false ∷ []
    ≡ (part c 1 ∷ main c ∷ part c 0 ∷ main a ∷ []) ∷ (part c 1 ∷ main c ∷ part c 0 ∷ []) ∷ (part c 1 ∷ main c ∷ []) ∷ [] ∷ []
unfolding computing
evicted_part_first = refl

-- an open changed object is not durable, and neither are its parts
at_rest : map item_of (rest changed) ∷ map item_of (rest (after_all sparse_c (to_open 1 c ∷ to_sparse_write 1 7 (codes "z") ∷ []))) ∷ [] ≡ (main c ∷ main b ∷ []) ∷ [] ∷ []
unfolding computing
at_rest = refl

-- Evictions come first: of three closed objects a Trim takes them one after another, the last used last.

pub codes_are_bytes : (k : List ℕ) → AllByRecursion (λ (x : ℕ). x < 256) k → IsBytes k
codes_are_bytes [] all = All-nil (λ (x : ℕ). x < 256)
codes_are_bytes (x ∷ k) all = All-cons (λ (x : ℕ). x < 256) x k all.0 (codes_are_bytes k all.1)

pub new_is_valid : IsValidState new
new_is_valid = open_valid [] (record { max_bytes = 83886080; max_items = 65536 }) (record { once = λ item. omega arith; each = λ i d less. absurd (omega arith); parents = λ i d less. absurd (omega arith) })

-- an object that is made and closed leaves a valid state
pub made_is_valid : (state : State) (key : List ℕ) → IsValidState state → IsBytes key → IsValidState (after_all state (made key))
made_is_valid state key valid bytes = step_valid (step state 100 (to_create 0 key)).state 100 (to_close 0) (step_valid state 100 (to_create 0 key) valid (omega arith, bytes)) (omega arith)

pub pair_is_valid : IsValidState (after_all (after_all new (made a)) (made b))
pair_is_valid = made_is_valid (after_all new (made a)) b (made_is_valid new a new_is_valid (codes_are_bytes a (omega arith, tt))) (codes_are_bytes b (omega arith, tt))

abbrev pub pair : State
pair = after_all (after_all new (made a)) (made b)

-- `a` is evicted first
pub a_goes_first : EvictsFirst pair 100 (to_trim 0) (whole a [] ∷ []) (whole b [] ∷ [])
unfolding computing
a_goes_first = record { passes = refl; groups = refl }

-- so the durable contents without it may be left by a crash
b_alone_is_left : StopOutcome pair 100 (to_trim 0) (step pair 100 (to_trim 0)).state (rest (without (whole a [] ∷ []) pair))
b_alone_is_left = evictions-stop pair 100 (to_trim 0) (whole a [] ∷ []) (whole b [] ∷ []) pair_is_valid a_goes_first

-- and so may what a crash before the second eviction unit leaves
none_is_left : StopOutcome pair 100 (to_trim 0) (step pair 100 (to_trim 0)).state (pick (without (whole a [] ∷ []) pair) (step pair 100 (to_trim 0)).state true (after_steps (out (whole b []) ∷ []) (without (whole a [] ∷ []) pair).uses))
unfolding dooms uses_of
none_is_left = evictions-first pair 100 (to_trim 0) (whole a [] ∷ []) (whole b [] ∷ []) _ pair_is_valid a_goes_first (record { step_count = 1; within = omega arith; with_turned = true; picked_rows = refl })

-- the rest of the Trim is a Trim of what is left
rest_is_a_trim : (held : List Row) → StopOutcome (without (whole a [] ∷ []) pair) 100 (to_trim 0) (step (without (whole a [] ∷ []) pair) 100 (to_trim 0)).state held → StopOutcome pair 100 (to_trim 0) (step pair 100 (to_trim 0)).state held
rest_is_a_trim held stop = rests-of pair 100 (to_trim 0) (whole a [] ∷ []) (whole b [] ∷ []) held pair_is_valid a_goes_first steps_are ends_alike stop
  where
    steps_are : list_steps (without (whole a [] ∷ []) pair) 100 (to_trim 0) ≡ later_steps pair (to_trim 0) (whole b [] ∷ [])
    steps_are = unfold computing in refl

    ends_alike : (step (without (whole a [] ∷ []) pair) 100 (to_trim 0)).state ≡ (step pair 100 (to_trim 0)).state
    ends_alike = unfold computing in refl
