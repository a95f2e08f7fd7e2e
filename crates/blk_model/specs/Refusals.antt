-- Why a command is refused.
use Rattle.std.specs.Prelude.{ℕ, ◌+◌, ◌-◌, Bool, true, false, not, ◌&&◌, ◌||◌, ◌==◌, nat_lt, nat_le, if◌then◌else◌, List, [], ◌∷◌, length, map, Option, Some, None, is_some, is_none}
use Rattle.blk_model.specs.declared.Refusal.{Refusal}
use Rattle.blk_model.specs.declared.Refusal.TheVariants as refusal
use Rattle.blk_model.specs.Sizes.{longest_key, handle_names, longest_stream, stream_count, part_size, largest_offset}
use Rattle.blk_model.specs.Items.{Item, part, is_sparse}
use Rattle.blk_model.specs.State.{Object, State, named_by, live_with}
use Rattle.blk_model.specs.Sparse.{covered_parts}
use Rattle.blk_model.specs.Request.{Request, to_create, to_open, to_read, to_write, to_size, to_sparse_write, to_sparse_read, to_sparse_range, to_doom, to_doom_key, to_close, to_flush, to_list, to_trim, to_total}
use Rattle.blk_model.specs.Room.{Group, total, items, evicted_until, Room, full, after, room}
use Rattle.blk_model.specs.Effects.{object_of, effect}

-- the most bytes of a stream in a cache with the state's limits
abbrev pub stream_limit : State → ℕ
stream_limit state = longest_stream state.limits.max_bytes

-- the first refusal in a list whose test passes
abbrev pub first_refusal : List (Bool × Refusal) → Option Refusal
first_refusal [] = None
first_refusal (case ∷ cases) = if case.0 then Some case.1 else first_refusal cases

-- whether bytes are no key: none, or too many
abbrev pub no_key : List ℕ → Bool
no_key key = length key == 0 || nat_lt longest_key (length key)

-- whether a number is too large for a handle name
abbrev pub no_name : ℕ → Bool
no_name handle = nat_le handle_names handle

-- whether a handle is no name, or names no object
abbrev pub names_none : State → ℕ → Bool
names_none state handle = no_name handle || is_none (named_by state handle)

-- whether a handle names an object
abbrev pub names_one : State → ℕ → Bool
names_one state handle = is_some (named_by state handle)

-- whether no stream has the number
abbrev pub no_stream : ℕ → Bool
no_stream stream = nat_le stream_count stream

-- whether the stream is one that a sparse object keeps to itself
abbrev pub is_kept_from_streams : State → ℕ → ℕ → Bool
is_kept_from_streams state handle stream = is_sparse (object_of state handle).shape && nat_lt 0 stream

-- whether a range ends past where sparse data ends
abbrev pub past_end : ℕ → ℕ → Bool
past_end offset count = nat_lt largest_offset (offset + count)

-- whether the object of a handle is doomed
abbrev pub is_doomed : State → ℕ → Bool
is_doomed state handle = not (object_of state handle).live

-- whether the object of a handle is plain
abbrev pub is_plain : State → ℕ → Bool
is_plain state handle = not (is_sparse (object_of state handle).shape)

-- whether an object's streams 1 and 2 are empty
abbrev pub has_one_stream : Object → Bool
has_one_stream object = length object.streams.1 == 0 && length object.streams.2 == 0

-- the parts in the range of a SparseWrite, as items, which are pinned while it runs; none for another command
abbrev pub covered : Request → State → List Item
covered (to_sparse_write handle offset bytes) state = map (part (object_of state handle).key) (covered_parts offset (length bytes))
covered _ state = []

-- the capacity for what a command adds to the total and to the number of items: none, or what is evicted for it; a command that lowers them adds nothing
unfoldable pub room_for : ℕ → Request → State → Room
room_for moment request state =
    let grown = effect moment request state in
    room state (covered request state) (total grown - total state) (items grown - items state)

-- whether there is no capacity
abbrev pub is_full : Room → Bool
is_full full = true
is_full (after groups) = false

-- the eviction units that are evicted for capacity, none where there is no capacity
abbrev pub evicted_for : Room → List Group
evicted_for full = []
evicted_for (after groups) = groups

-- whether there is no capacity for what a command adds
abbrev pub no_room : ℕ → Request → State → Bool
no_room moment request state = is_full (room_for moment request state)

-- the eviction units that a command evicts
unfoldable pub evicted : ℕ → Request → State → List Group
evicted moment (to_create handle key) state = evicted_for (room_for moment (to_create handle key) state)
evicted moment (to_write handle stream offset cut bytes) state = evicted_for (room_for moment (to_write handle stream offset cut bytes) state)
evicted moment (to_sparse_write handle offset bytes) state = evicted_for (room_for moment (to_sparse_write handle offset bytes) state)
evicted moment (to_trim bytes) state = evicted_until (λ left. nat_le (total left) bytes) state []
evicted moment _ state = []

-- the refusals of a command with their tests, in the order in which they are tried
unfoldable pub refusals : ℕ → Request → State → List (Bool × Refusal)
refusals moment (to_create handle key) state =
    (no_key key, refusal.BadKey) ∷ (no_name handle, refusal.BadHandle) ∷ (names_one state handle, refusal.HandleBusy)
    ∷ (is_some (live_with state key), refusal.Exists) ∷ (no_room moment (to_create handle key) state, refusal.Full) ∷ []
refusals moment (to_open handle key) state =
    (no_key key, refusal.BadKey) ∷ (no_name handle, refusal.BadHandle) ∷ (names_one state handle, refusal.HandleBusy)
    ∷ (is_none (live_with state key), refusal.Missing) ∷ []
refusals moment (to_read handle stream offset count) state =
    (names_none state handle, refusal.BadHandle) ∷ (no_stream stream, refusal.BadStream) ∷ (is_kept_from_streams state handle stream, refusal.SparseStream) ∷ []
refusals moment (to_write handle stream offset cut bytes) state =
    (names_none state handle, refusal.BadHandle) ∷ (no_stream stream, refusal.BadStream) ∷ (nat_lt (stream_limit state) (offset + length bytes), refusal.TooLarge)
    ∷ (is_kept_from_streams state handle stream, refusal.SparseStream) ∷ (no_room moment (to_write handle stream offset cut bytes) state, refusal.Full) ∷ []
refusals moment (to_size handle stream) state =
    (names_none state handle, refusal.BadHandle) ∷ (no_stream stream, refusal.BadStream) ∷ (is_kept_from_streams state handle stream, refusal.SparseStream) ∷ []
refusals moment (to_sparse_write handle offset bytes) state =
    (names_none state handle, refusal.BadHandle) ∷ (nat_lt part_size (length bytes), refusal.TooLarge) ∷ (past_end offset (length bytes), refusal.RangeEnd)
    ∷ (is_doomed state handle, refusal.Doomed) ∷ (is_plain state handle && not (has_one_stream (object_of state handle)), refusal.NotSparse)
    ∷ (no_room moment (to_sparse_write handle offset bytes) state, refusal.Full) ∷ []
refusals moment (to_sparse_read handle offset count) state =
    (names_none state handle, refusal.BadHandle) ∷ (nat_lt part_size count, refusal.TooLarge) ∷ (past_end offset count, refusal.RangeEnd)
    ∷ (is_doomed state handle, refusal.Doomed) ∷ (is_plain state handle, refusal.NotSparse) ∷ []
refusals moment (to_sparse_range handle offset count) state =
    (names_none state handle, refusal.BadHandle) ∷ (nat_lt part_size count, refusal.TooLarge) ∷ (past_end offset count, refusal.RangeEnd)
    ∷ (is_doomed state handle, refusal.Doomed) ∷ (is_plain state handle, refusal.NotSparse) ∷ []
refusals moment (to_doom handle) state = (names_none state handle, refusal.BadHandle) ∷ (is_doomed state handle, refusal.Doomed) ∷ []
refusals moment (to_doom_key key) state = (no_key key, refusal.BadKey) ∷ (is_none (live_with state key), refusal.Missing) ∷ []
refusals moment (to_close handle) state = (names_none state handle, refusal.BadHandle) ∷ []
refusals moment (to_flush handle) state = (names_none state handle, refusal.BadHandle) ∷ (is_doomed state handle, refusal.Doomed) ∷ []
refusals moment to_list state = []
refusals moment (to_trim bytes) state = []
refusals moment to_total state = []

-- why a command is refused, if it is
abbrev pub refused : ℕ → Request → State → Option Refusal
refused moment request state = first_refusal (refusals moment request state)
