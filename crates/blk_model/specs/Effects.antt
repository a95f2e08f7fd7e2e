-- What each command does to the state.
use Rattle.std.specs.Prelude.{ℕ, ◌%◌, Bool, true, false, not, if◌then◌else◌, List, [], ◌∷◌, ◌++◌, length, map, filter, Option, Some, None, is_some, unwrap_or, slice_set}
use Rattle.std.proofs.Common.{zero, suc}
use Rattle.std.specs.Str.{bytes_eq}
use Rattle.blk_model.specs.Sizes.{signatures}
use Rattle.blk_model.specs.Bytes.{overwritten, overwritten_and_cut}
use Rattle.blk_model.specs.Items.{Item, main, part, same_item, key_of, Shape, plain, sparse, Streams}
use Rattle.blk_model.specs.State.{Object, State, object_at, part_at, named_by, is_named, live_with}
use Rattle.blk_model.specs.Sparse.{covered_parts, parts_after}
use Rattle.blk_model.specs.Request.{Request, to_create, to_open, to_read, to_write, to_size, to_sparse_write, to_sparse_read, to_sparse_range, to_doom, to_doom_key, to_close, to_flush, to_list, to_trim, to_total}

-- an object that was just made
abbrev pub new_object : List ℕ → Object
new_object key = record { key = key; shape = plain; streams = ([], [], []); parts = []; live = true; settled = false }

-- the number that a handle names, and one that no object has where it names none
abbrev pub number_of : State → ℕ → ℕ
number_of state handle = unwrap_or (named_by state handle) (length state.objects)

-- the object that a handle names, and an empty one where it names none
abbrev pub object_of : State → ℕ → Object
object_of state handle = unwrap_or (object_at state (number_of state handle)) (new_object [])

-- one of three streams, by its number
abbrev pub stream_in : Streams → ℕ → List ℕ
stream_in streams zero = streams.0
stream_in streams (suc zero) = streams.1
stream_in streams (suc (suc n)) = streams.2

-- the streams with other bytes in one of them
abbrev pub streams_with : Streams → ℕ → List ℕ → Streams
streams_with streams zero bytes = (bytes, streams.1, streams.2)
streams_with streams (suc zero) bytes = (streams.0, bytes, streams.2)
streams_with streams (suc (suc n)) bytes = (streams.0, streams.1, bytes)

-- a stream of an object, by its number
abbrev pub stream_of : Object → ℕ → List ℕ
stream_of object stream = stream_in object.streams stream

-- an object with other bytes in one of its streams
abbrev pub with_stream : Object → ℕ → List ℕ → Object
with_stream object stream bytes = record object { streams = streams_with object.streams stream bytes }

-- the items with one put first, wherever it was
abbrev pub used : Item → List Item → List Item
used item items = item ∷ filter (λ other. not (same_item item other)) items

-- the items with several put first, one after another
abbrev pub used_all : List Item → List Item → List Item
used_all [] items = items
used_all (item ∷ more) items = used_all more (used item items)

-- the state with another object under a number, or with none
abbrev pub with_slot : ℕ → Option Object → State → State
with_slot number slot state = record state { objects = slice_set state.objects number slot }

-- the state with a handle name that names this, or nothing
abbrev pub with_name : ℕ → Option ℕ → State → State
with_name name number state = record state { names = slice_set state.names name number }

-- the state after an access of the main item of an object, which comes to the front; a doomed object has none
abbrev pub used_main : Object → State → State
used_main object state = record state { uses = if object.live then used (main object.key) state.uses else state.uses }

-- those of some part numbers of which the object has a part
abbrev pub existing_parts : Object → List ℕ → List ℕ
existing_parts object ns = filter (λ n. is_some (part_at object n)) ns

-- after Create: a new object, which the handle names, and its item first
unfoldable pub created : ℕ → List ℕ → State → State
created handle key state = record state {
  objects = state.objects ++ Some (new_object key) ∷ [];
  uses = used (main key) state.uses;
  names = slice_set state.names handle (Some (length state.objects));
}

-- after Open: the handle names the live object with the key, and its item is first
unfoldable pub opened : ℕ → List ℕ → State → State
opened handle key state = record state { uses = used (main key) state.uses; names = slice_set state.names handle (live_with state key) }

-- a stream after a write, which may cut it
abbrev pub stream_after : Bool → List ℕ → ℕ → List ℕ → List ℕ
stream_after cut old offset bytes = if cut then overwritten_and_cut old offset bytes else overwritten old offset bytes

-- after Write: the stream is written, the object is dirty, and its item is first
unfoldable pub written : ℕ → ℕ → ℕ → Bool → List ℕ → State → State
written handle stream offset cut bytes state =
    let object = object_of state handle in
    let written_to = with_stream object stream (stream_after cut (stream_of object stream) offset bytes) in
    used_main object (with_slot (number_of state handle) (Some (record written_to { settled = false })) state)

-- the shape of an object after a sparse write: a plain one becomes sparse, with the moment as its generation
abbrev pub made_sparse : ℕ → Shape → Shape
made_sparse moment plain = sparse (moment % signatures)
made_sparse moment (sparse signature) = sparse signature

-- an object after a sparse write; a write of no bytes changes nothing
unfoldable pub sparse_after : ℕ → Object → ℕ → List ℕ → Object
sparse_after moment object offset [] = object
sparse_after moment object offset (byte ∷ bytes) = record object {
  shape = made_sparse moment object.shape;
  parts = parts_after (covered_parts offset (length (byte ∷ bytes))) offset (byte ∷ bytes) object.parts;
  settled = false;
}

-- the state after an access of the main item of an object, and then of parts of it: each comes to the front
abbrev pub used_sparse : Object → List ℕ → State → State
used_sparse object ns state = record state { uses = used_all (main object.key ∷ map (part object.key) ns) state.uses }

-- after SparseWrite: the bytes are written, and the main item and the parts in range come to the front
unfoldable pub sparse_written : ℕ → ℕ → ℕ → List ℕ → State → State
sparse_written moment handle offset bytes state =
    let object = object_of state handle in
    used_sparse object (covered_parts offset (length bytes)) (with_slot (number_of state handle) (Some (sparse_after moment object offset bytes)) state)

-- after SparseRead and SparseRange: the main item and the parts in range that there are come to the front
unfoldable pub sparse_used : ℕ → ℕ → ℕ → State → State
sparse_used handle offset count state =
    let object = object_of state handle in
    used_sparse object (existing_parts object (covered_parts offset count)) state

-- what becomes of a live object that is doomed: without a handle it is removed at once, and with one it has no parts
abbrev pub doomed_slot : Bool → Object → Option Object
doomed_slot is_held object = if is_held then Some (record object { live = false; parts = [] }) else None

-- after a doom of the object with a number: it is doomed, and the list has none of its items
unfoldable pub doomed : ℕ → State → Option Object → State
doomed number state None = state
doomed number state (Some object) = record state {
  objects = slice_set state.objects number (doomed_slot (is_named state number) object);
  uses = filter (λ item. not (bytes_eq object.key (key_of item))) state.uses;
}

-- after DoomKey, given the number of the live object with its key, if there is one
abbrev pub doomed_key : State → Option ℕ → State
doomed_key state None = state
doomed_key state (Some number) = doomed number state (object_at state number)

-- what becomes of an object that has lost a handle: with none left a live one is clean, and a doomed one is freed
abbrev pub released_slot : Bool → Object → Option Object
released_slot is_held object = if is_held then Some object else if object.live then Some (record object { settled = true }) else None

-- the state once the object with a number has lost a handle
abbrev pub released : ℕ → State → Option Object → State
released number state None = state
released number state (Some object) = with_slot number (released_slot (is_named state number) object) state

-- after Close: the name is free, and its object has lost a handle
unfoldable pub closed : ℕ → State → State
closed handle state = released (number_of state handle) (with_name handle None state) (object_at state (number_of state handle))

-- the state with the object of a number clean
abbrev pub settled_at : ℕ → State → Option Object → State
settled_at number state None = state
settled_at number state (Some object) = with_slot number (Some (record object { settled = true })) state

-- after Flush: the object that the handle names is clean, and nothing else changes
unfoldable pub flushed : ℕ → State → State
flushed handle state = settled_at (number_of state handle) state (object_at state (number_of state handle))

-- the state after a command that was not refused, apart from its evictions
unfoldable pub effect : ℕ → Request → State → State
effect moment (to_create handle key) state = created handle key state
effect moment (to_open handle key) state = opened handle key state
effect moment (to_read handle stream offset count) state = used_main (object_of state handle) state
effect moment (to_write handle stream offset cut bytes) state = written handle stream offset cut bytes state
effect moment (to_size handle stream) state = state
effect moment (to_sparse_write handle offset bytes) state = sparse_written moment handle offset bytes state
effect moment (to_sparse_read handle offset count) state = sparse_used handle offset count state
effect moment (to_sparse_range handle offset count) state = sparse_used handle offset count state
effect moment (to_doom handle) state = doomed (number_of state handle) state (object_at state (number_of state handle))
effect moment (to_doom_key key) state = doomed_key state (live_with state key)
effect moment (to_close handle) state = closed handle state
effect moment (to_flush handle) state = flushed handle state
effect moment to_list state = state
effect moment (to_trim bytes) state = state
effect moment to_total state = state
