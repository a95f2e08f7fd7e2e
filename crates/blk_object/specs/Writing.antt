-- A stream of an open object is written: which objects may have it, and what state is kept then.
use Rattle.std.specs.Prelude.{◌≡◌, ℕ, ◌+◌, ◌<◌, ◌≤◌, ◌%◌, ◌^◌, List, length, Bool, true, false, Some, if◌then◌else◌, ◌⊎◌}
use Rattle.spec_image.specs.Image.{Image, Index, byte}
use Rattle.blk_model.specs.Effects.{stream_after, stream_of, with_slot}
use Rattle.blk_model.specs.Items.{Item, PartValue, is_sparse, main, part, part_row}
use Rattle.blk_model.specs.Room.{items}
use Rattle.blk_model.specs.Sizes.{most_items}
use Rattle.blk_model.specs.State.{Object, State, IsValidState, object_at, part_at}
use Rattle.spec_format.specs.Address.{is_address}
use Rattle.spec_format.specs.Headers.{num_bytes64_of, num_bytes64_place}
use Rattle.spec_format.specs.Sealed.{RecordChecks}
use Rattle.law_folder.specs.IndexWrites.{IsIndexLong}
use Rattle.spec_folder.specs.Entries.{Role, part_role, stream, most_stream_bytes}
use Rattle.spec_folder.specs.Found.{row_with}
use Rattle.spec_folder.specs.Layout.{Layout, is_listed}
use Rattle.spec_folder.specs.Loads.{Loaded}
use Rattle.blk_entry.specs.Keys.{IsInFile, IsDamageAt}
use Rattle.blk_stream.specs.Loading.{stored_streams_with}
use Rattle.blk_stream.specs.Streams.{address_word, size_word, address_place, size_place}
use Rattle.law_state.specs.Changes.{SameCounters, SameSession, Finds}
use Rattle.law_state.specs.CommandEnds.{after_write}
use Rattle.law_state.specs.CounterLaws.{charged}
use Rattle.law_state.specs.Keeping.{CountsItems, Keeps, KeepsUncounted}
use Rattle.law_state.specs.ListLaws.{with_used}
use Rattle.law_state.specs.ObjectLaws.{layout_after}
use Rattle.law_state.specs.PartStates.{with_object, with_value}
use Rattle.std.specs.Option.{ForSome}
use Rattle.spec_image.specs.Told.{Passes, Told}
use Rattle.blk_model.specs.Holding.{rest}
use Rattle.blk_io.specs.declared.fault.Fault.{Fault}
use Rattle.blk_object.specs.KeptObjects.{KeptObject}

-- Preconditions.

-- the node of an object: that of its main item while it is live, else that of the doomed object
abbrev pub node_of_object : Layout → ℕ → Object → ℕ
node_of_object layout number object = if object.live then layout.place (main object.key) else layout.place_of_doomed number

-- the state after a write to stream `at` of an object
abbrev pub with_written : State → ℕ → Object → (at offset : ℕ) → Bool → List ℕ → State
with_written state number object at offset cut bytes = with_slot number (Some (after_write object at offset cut bytes)) state

-- precondition of a write: the folder keeps a state (but for the counters) in which a dirty object has the record at address `entry` and may have its stream
-- written, and at most two addresses are unlinked
pub record IsToBeWritten (state : State) (layout : Layout) (unlinked : List ℕ) (number : ℕ) (object : Object) (was : Loaded) (entry at offset : ℕ) (cut : Bool) (bytes : List ℕ) (image : Image) : Type 0 where
  pub kept : KeepsUncounted state layout unlinked image
  pub here : object_at state number ≡ Some object
  pub unsettled : object.settled ≡ false
  pub lies : layout.at (node_of_object layout number object) ≡ Some was
  pub record_is : was.contents ≡ entry
  pub first_if_sparse : is_sparse object.shape ≡ true → at ≡ 0
  pub valid : IsValidState (with_written state number object at offset cut bytes)
  pub few : items state ≤ most_items
  pub room : length unlinked ≤ 2

-- P holds of each dirty object that the write may be of: its record is at address `entry`, and its stream may be written
abbrev pub ForEachUnsettled : (entry at offset : ℕ) (cut : Bool) (bytes : List ℕ) → Image → (State → Layout → List ℕ → ℕ → Object → Loaded → Type 0) → Type 0
ForEachUnsettled entry at offset cut bytes from P =
    (state : State) (layout : Layout) (unlinked : List ℕ) (number : ℕ) (object : Object) (was : Loaded) → IsToBeWritten state layout unlinked number object was entry at offset cut bytes from
    → P state layout unlinked number object was

-- the file that stream `at` lies in has all its bytes
abbrev pub IsStreamThere : (entry at : ℕ) → Image → Type 0
IsStreamThere entry at image = IsInFile (address_word image entry at) 0 (size_word image entry at) image

-- the failed check of a stream whose bytes aren't there: of its size, if a stream can't have it, else of its address
abbrev pub IsStreamDamage : (entry at size w : ℕ) → Fault → Type 0
IsStreamDamage entry at size w fault = ((most_stream_bytes < size) × IsDamageAt entry (size_place at) size fault) ⊎ ((size ≤ most_stream_bytes) × IsDamageAt entry (address_place at) w fault)

-- the record's checksum matches or is absent, and its stream `at`, unless it is empty, has an address; if that names an external file, this has all bytes of
-- the stream
pub record HasStreamThere (entry at : ℕ) (image : Image) : Type 0 where
  pub checks : RecordChecks entry image
  pub address : 0 < size_word image entry at → is_address (address_word image entry at) ≡ true
  pub there : IsInFile (address_word image entry at) 0 (size_word image entry at) image

-- Costs.

-- state `after` lists as many items as `state`, and the sum of their costs is lower by `less` and higher by `more`
pub record IsRisen (state after : State) (layout now : Layout) (less more : ℕ) : Type 0 where
  pub items : length after.uses ≡ length state.uses
  pub bytes : charged after now + less ≡ charged state layout + more

-- The outcome.

-- what lies at the node after a write: node, record, dirty flag, key and role are the same, and the streams are those after the write
pub record IsLoadedAfter (was now : Loaded) (at offset : ℕ) (cut : Bool) (bytes : List ℕ) : Type 0 where
  pub node : now.node ≡ was.node
  pub contents : now.contents ≡ was.contents
  pub dirty : now.dirty ≡ was.dirty
  pub key : now.key ≡ was.key
  pub role : now.role ≡ was.role
  pub streams : now.streams ≡ stored_streams_with at (stream_after cut (stream at was.streams) offset bytes) was.streams

-- the folder keeps the state after the write, but for the counters; these and the session are unchanged, and the cost of a live object changes by the length of
-- its stream
pub record IsWrittenUncounted (state : State) (layout : Layout) (unlinked : List ℕ) (number : ℕ) (object : Object) (was : Loaded) (at offset : ℕ) (cut : Bool) (bytes : List ℕ) (from image : Image) : Type 0 where
  pub now : Loaded
  pub after : IsLoadedAfter was now at offset cut bytes
  pub kept : KeepsUncounted (with_written state number object at offset cut bytes) (layout_after layout (node_of_object layout number object) now) unlinked image
  pub rise_of_live : object.live ≡ true → IsRisen state (with_written state number object at offset cut bytes) layout (layout_after layout (node_of_object layout number object) now) (length (stream_of object at)) (length (stream_of (after_write object at offset cut bytes) at))
  pub rise_of_doomed : object.live ≡ false → IsRisen state (with_written state number object at offset cut bytes) layout (layout_after layout (node_of_object layout number object) now) 0 0
  pub counters : SameCounters from image
  pub session : SameSession from image

-- Parts.

-- precondition of a write to a part: the folder keeps a state (but for the counters) in which a dirty live object has part n with the record at address
-- `entry`; with the stream written it is that part with `value`, and at most two addresses are unlinked
pub record IsPartToBeWritten (state : State) (layout : Layout) (unlinked : List ℕ) (number : ℕ) (object : Object) (n : ℕ) (value : PartValue) (was : Loaded) (role : Role) (entry at offset : ℕ) (cut : Bool) (bytes : List ℕ) (image : Image) : Type 0 where
  pub kept : KeepsUncounted state layout unlinked image
  pub here : object_at state number ≡ Some object
  pub live : object.live ≡ true
  pub unsettled : object.settled ≡ false
  pub old : PartValue
  pub has : part_at object n ≡ Some old
  pub lies : layout.at (layout.place (part object.key n)) ≡ Some was
  pub record_is : was.contents ≡ entry
  pub role_is : part_role was.key (stored_streams_with at (stream_after cut (stream at was.streams) offset bytes) was.streams) ≡ Some role
  pub row_is : row_with was.key role (stored_streams_with at (stream_after cut (stream at was.streams) offset bytes) was.streams) ≡ part_row object.key n value
  pub valid : IsValidState (with_object state number (with_value object n value))
  pub few : items state ≤ most_items
  pub room : length unlinked ≤ 2

-- P holds of each part of a dirty live object that the write may be of: its record is at address `entry`, and the write gives it the value
abbrev pub ForEachPartUnsettled : (entry at offset : ℕ) (cut : Bool) (bytes : List ℕ) → Image → (State → Layout → List ℕ → ℕ → Object → (n : ℕ) → PartValue → Loaded → Role → Type 0) → Type 0
ForEachPartUnsettled entry at offset cut bytes from P =
    (state : State) (layout : Layout) (unlinked : List ℕ) (number : ℕ) (object : Object) (n : ℕ) (value : PartValue) (was : Loaded) (role : Role)
    → IsPartToBeWritten state layout unlinked number object n value was role entry at offset cut bytes from → P state layout unlinked number object n value was role

-- the folder keeps the state in which the part has the value, but for the counters; these and the session are unchanged, and at the part's node lies the same
-- with the streams after the write
pub record IsPartWrittenUncounted (state : State) (layout : Layout) (unlinked : List ℕ) (number : ℕ) (object : Object) (n : ℕ) (value : PartValue) (was : Loaded) (role : Role) (at offset : ℕ) (cut : Bool) (bytes : List ℕ) (from image : Image) : Type 0 where
  pub others : List ℕ
  pub now : Loaded
  pub now_is : now ≡ record was { role = role; streams = stored_streams_with at (stream_after cut (stream at was.streams) offset bytes) was.streams; others = others }
  pub kept : KeepsUncounted (with_object state number (with_value object n value)) (layout_after layout (layout.place (part object.key n)) now) unlinked image
  pub counters : SameCounters from image
  pub session : SameSession from image

-- Counters.

-- the counter of bytes in the index is lowered by `less` and raised by `more`, modulo 2 ^ 64
pub record IsRiseCounted (less more : ℕ) (from image : Image) : Type 0 where
  pub bytes : ℕ
  pub small : bytes < 2 ^ 64
  pub rise : (bytes + less) % 2 ^ 64 ≡ (num_bytes64_of (byte from Index) + more) % 2 ^ 64
  pub written : IsIndexLong num_bytes64_place bytes from image

-- where the index counted `state`, a state with another sum of costs is counted once the counter of bytes has changed by the difference, if all else of that
-- state is kept already
abbrev pub RisesAreCounted : Type 0
RisesAreCounted = (state after : State) (layout now : Layout) (unlinked : List ℕ) (less more : ℕ) (from image : Image) → CountsItems from state layout → IsRisen state after layout now less more → KeepsUncounted after now unlinked from
    → IsRiseCounted less more from image → Keeps after now unlinked image

-- an access to an item doesn't change the sum of costs
abbrev pub UsesLeaveTheRise : Type 0
UsesLeaveTheRise = (state after : State) (layout now : Layout) (less more : ℕ) → (item : Item) → IsValidState after → is_listed after item ≡ true → IsRisen state after layout now less more → IsRisen state (with_used after item) layout now less more

-- The contract of the write.

-- P holds of each dirty object that the write may be of
abbrev pub ForUnsettled : Told → (entry at offset : ℕ) (cut : Bool) (bytes : List ℕ) → (Image → State → Layout → List ℕ → ℕ → Object → Loaded → Type 0) → Type 0
ForUnsettled told entry at offset cut bytes P = ForSome told.files (λ from. ForEachUnsettled entry at offset cut bytes from (P from))

-- where there is a dirty object that the write may be of, Q holds
abbrev pub WhereUnsettled : Told → (entry at offset : ℕ) (cut : Bool) (bytes : List ℕ) → (Image → Type 0) → Type 0
WhereUnsettled told entry at offset cut bytes Q = ForUnsettled told entry at offset cut bytes (λ from state layout unlinked number object was. Q from)

-- the folder keeps the state after the write, but for the counters
abbrev pub WritesObject : (old new : Told) → (entry at offset : ℕ) (cut : Bool) (bytes : List ℕ) → Type 0
WritesObject old new entry at offset cut bytes =
    ForUnsettled old entry at offset cut bytes (λ from state layout unlinked number object was. ForSome new.files (IsWrittenUncounted state layout unlinked number object was at offset cut bytes from))

-- at each step recovery gives the durable contents of the state before the write
abbrev pub StopsWriting : (old new : Told) → Image → State → Layout → List ℕ → ℕ → Object → Loaded → Type 0
StopsWriting old new from state layout unlinked number object was = Passes old new (Finds (rest state))

-- P holds of each part of a dirty live object that the write may be of
abbrev pub ForPartUnsettled : Told → (entry at offset : ℕ) (cut : Bool) (bytes : List ℕ) → (Image → KeptObject → (n : ℕ) → PartValue → Loaded → Role → Type 0) → Type 0
ForPartUnsettled told entry at offset cut bytes P =
    ForSome told.files (λ from. ForEachPartUnsettled entry at offset cut bytes from (λ state layout unlinked number object.
    P from (record { state = state; layout = layout; unlinked = unlinked; number = number; object = object })))

-- where there is a part of a dirty live object that the write may be of, Q holds
abbrev pub WherePartUnsettled : Told → (entry at offset : ℕ) (cut : Bool) (bytes : List ℕ) → (Image → Type 0) → Type 0
WherePartUnsettled told entry at offset cut bytes Q = ForPartUnsettled told entry at offset cut bytes (λ from kept n value was role. Q from)

-- the folder keeps the state with the part's new value, but for the counters
abbrev pub WritesPartStream : (old new : Told) → (entry at offset : ℕ) (cut : Bool) (bytes : List ℕ) → Type 0
WritesPartStream old new entry at offset cut bytes =
    ForPartUnsettled old entry at offset cut bytes (λ from kept n value was role.
    ForSome new.files (IsPartWrittenUncounted kept.state kept.layout kept.unlinked kept.number kept.object n value was role at offset cut bytes from))

-- at each step recovery gives the durable contents of the state before the write to a part
abbrev pub StopsPartWriting : (old new : Told) → Image → KeptObject → (n : ℕ) → PartValue → Loaded → Role → Type 0
StopsPartWriting old new from kept n value was role = Passes old new (Finds (rest kept.state))
