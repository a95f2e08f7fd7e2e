-- A Write: its refusals, the precondition of its end, and how the cache counts it.
use Rattle.std.specs.Prelude.{◌≡◌, ◌<◌, ◌≤◌, ◌+◌, ◌-◌, ◌&&◌, ℕ, Bool, List, [], ◌∷◌, false, true, if◌then◌else◌, is_none, length, nat_lt}
use Rattle.std.specs.Option.{ForSome}
use Rattle.std.specs.declared.option.Option.{Option}
use Rattle.std.specs.declared.option.Option.TheVariants.{None, Some}
use Rattle.spec_image.specs.Image.{Image}
use Rattle.spec_image.specs.Told.{Told}
use Rattle.blk_model.specs.Effects.{stream_after, stream_of, written}
use Rattle.blk_model.specs.Items.{is_sparse, main}
use Rattle.blk_model.specs.Refusals.{first_refusal, no_room, no_stream, refused}
use Rattle.blk_model.specs.Request.{Request, to_write}
use Rattle.blk_model.specs.Room.{total}
use Rattle.blk_model.specs.Sizes.{longest_stream}
use Rattle.blk_model.specs.State.{IsValidState, Object, State, object_at}
use Rattle.blk_model.specs.declared.Refusal.{Refusal}
use Rattle.blk_model.specs.declared.Refusal.TheVariants as refusal
use Rattle.spec_folder.specs.Layout.{Layout}
use Rattle.blk_handles.specs.Bindings.{binding_of}
use Rattle.law_state.specs.Changes.{SameCounters}
use Rattle.law_state.specs.CommandStates.{with_room}
use Rattle.law_state.specs.Keeping.{KeepsUncounted}
use Rattle.law_state.specs.ListLaws.{with_used}
use Rattle.law_state.specs.OneCallLaws.{Names}
use Rattle.blk_object.specs.Writing.{IsRiseCounted}
use Rattle.blk_cache.specs.declared.asking.Asked.{Asked}
use Rattle.blk_cache.specs.declared.asking.Asked.TheVariants as asked
use Rattle.blk_cache.specs.declared.asking.NamedStream.{NamedStream}
use Rattle.blk_cache.specs.declared.cache.Cache.{Cache}
use Rattle.blk_cache.specs.declared.write.WriteRequest.{WriteRequest}
use Rattle.blk_cache.specs.Asking.{IsNamedStream}
use Rattle.blk_cache.specs.CacheKeeping.{HoldsState}
use Rattle.blk_cache.specs.CommandClauses.{CommandClause, EndClause}
use Rattle.blk_cache.specs.Creating.{sum_within}

-- The request.

-- the Write of the model
abbrev pub write_of : WriteRequest → Request
write_of request = to_write request.handle request.stream request.offset request.cut request.bytes.now

-- P holds of a Write
abbrev pub ForWrite : Cache → Told → WriteRequest → CommandClause → Type 0
ForWrite cache told request P = P cache told request.moment (write_of request)

-- Refusals.

-- the refusal of a Write that needs no read of the folder: by the table of handles, the stream's number and the length
abbrev pub early_write_refusal : Cache → (handle stream offset count : ℕ) → Option Refusal
early_write_refusal cache handle stream offset count =
    first_refusal ((is_none (binding_of cache.handles handle), refusal.BadHandle) ∷ (no_stream stream, refusal.BadStream) ∷ (nat_lt (longest_stream cache.limits.max_bytes) (offset + count), refusal.TooLarge) ∷ [])

-- the refusal of this Write that needs no read of the folder
abbrev pub early_refusal : Cache → WriteRequest → Option Refusal
early_refusal cache request = early_write_refusal cache request.handle request.stream request.offset (length request.bytes.now)

-- the stream of an object that the handle names was found, and the Write is refused only if there is no space
pub record MayBeWritten (state : State) (layout : Layout) (moment handle stream offset : ℕ) (cut : Bool) (bytes : List ℕ) (found : NamedStream) : Type 0 where
  pub named : IsNamedStream state layout handle stream found
  pub unless_full : refused moment (to_write handle stream offset cut bytes) state ≡ (if no_room moment (to_write handle stream offset cut bytes) state then Some refusal.Full else None)

-- the answer for a Write: the stream that it writes to, or why it is refused
abbrev pub IsAskedToWrite : State → Layout → (moment handle stream offset : ℕ) → Bool → List ℕ → Asked → Type 0
IsAskedToWrite state layout moment handle stream offset cut bytes (asked.Refused why) = refused moment (to_write handle stream offset cut bytes) state ≡ Some why
IsAskedToWrite state layout moment handle stream offset cut bytes (asked.Stream found) = MayBeWritten state layout moment handle stream offset cut bytes found

-- in each state that the cache keeps, it is the answer for a Write at any moment, cut or not
abbrev pub AsksToWrite : Cache → Told → (handle stream offset : ℕ) → (bytes : List ℕ) → Asked → Type 0
AsksToWrite cache told handle stream offset bytes answer =
    ForSome told.files (λ image. (state : State) (moment : ℕ) (cut : Bool) → (k : HoldsState cache state image) → IsAskedToWrite state k.layout moment handle stream offset cut bytes answer)

-- where a stream was found, no early refusal applies
abbrev pub IsNotRefusedEarly : (early : Option Refusal) → Asked → Type 0
IsNotRefusedEarly early (asked.Refused why) = Unit {0}
IsNotRefusedEarly early (asked.Stream found) = early ≡ None

-- The end.

-- all evictions of a Write of `state` are done: the write isn't refused, the cache keeps the state after the evictions, and the stream has `size` bytes
pub record IsReadyToWrite (cache : Cache) (state : State) (moment handle stream offset : ℕ) (cut : Bool) (bytes : List ℕ) (size : ℕ) (image : Image) : Type 0 where
  pub valid : IsValidState state
  pub passes : refused moment (to_write handle stream offset cut bytes) state ≡ None
  pub kept : HoldsState cache (with_room state moment (to_write handle stream offset cut bytes)) image
  pub number : ℕ
  pub object : Object
  pub names : Names (with_room state moment (to_write handle stream offset cut bytes)) handle number object
  pub size_is : size ≡ length (stream_of object stream)

-- the cache is ready for this Write, of some state at some moment
pub record IsReadyToWriteSome (cache : Cache) (handle stream offset : ℕ) (cut : Bool) (bytes : List ℕ) (size : ℕ) (image : Image) : Type 0 where
  pub state : State
  pub moment : ℕ
  pub ready : IsReadyToWrite cache state moment handle stream offset cut bytes size image

-- all evictions of this Write of `state` are done
abbrev pub IsReadyToWriteFor : Cache → State → WriteRequest → (size : ℕ) → Image → Type 0
IsReadyToWriteFor cache state request size image = IsReadyToWrite cache state request.moment request.handle request.stream request.offset request.cut request.bytes.now size image

-- the cache is ready for this Write, of some state at some moment
abbrev pub IsReadyToWriteForSome : Cache → WriteRequest → (size : ℕ) → Image → Type 0
IsReadyToWriteForSome cache request size image = IsReadyToWriteSome cache request.handle request.stream request.offset request.cut request.bytes.now size image

-- P holds of the end of a Write
abbrev pub ForReadyWrite : Cache → Told → WriteRequest → (size : ℕ) → EndClause → Type 0
ForReadyWrite cache told request size P = P (λ state image. IsReadyToWriteFor cache state request size image) told request.moment (write_of request)

-- The change.

-- a state with the bytes of this Write
abbrev pub written_by : WriteRequest → State → State
written_by request state = written request.handle request.stream request.offset request.cut request.bytes.now state

-- the handle names a dirty object whose stream of `size` bytes may get the bytes: if it gets longer, the sum of costs is within the limit afterwards
pub record CanGetBytes (state : State) (handle stream offset : ℕ) (cut : Bool) (bytes : List ℕ) (size : ℕ) : Type 0 where
  pub number : ℕ
  pub object : Object
  pub names : Names state handle number object
  pub unsettled : object.settled ≡ false
  pub its_stream : (is_sparse object.shape && nat_lt 0 stream) ≡ false
  pub size_is : size ≡ length (stream_of object stream)
  pub within : size < length (stream_after cut (stream_of object stream) offset bytes) → total (written handle stream offset cut bytes state) ≤ state.limits.max_bytes

-- the cache keeps some state whose object may get the bytes
pub record KeepsToWrite (cache : Cache) (handle stream offset : ℕ) (cut : Bool) (bytes : List ℕ) (size : ℕ) (image : Image) : Type 0 where
  pub state : State
  pub kept : HoldsState cache state image
  pub can : CanGetBytes state handle stream offset cut bytes size

-- the handle of this Write names a dirty object whose stream of `size` bytes may get its bytes
abbrev pub CanGetFor : State → WriteRequest → (size : ℕ) → Type 0
CanGetFor state request size = CanGetBytes state request.handle request.stream request.offset request.cut request.bytes.now size

-- the cache keeps some state whose object may get the bytes of this Write
abbrev pub KeepsToWriteFor : Cache → WriteRequest → (size : ℕ) → Image → Type 0
KeepsToWriteFor cache request size image = KeepsToWrite cache request.handle request.stream request.offset request.cut request.bytes.now size image

-- P holds of each state that the cache keeps whose object may get the bytes of this Write
abbrev pub ForCanGet : Cache → Told → WriteRequest → (size : ℕ) → (State → Type 0) → Type 0
ForCanGet cache told request size P = ForSome told.files (λ from. (state : State) → HoldsState cache state from → CanGetFor state request size → P state)

-- The access.

-- the folder keeps a state (but for the counters) in which the main item of a dirty live object has this node
pub record IsToBeUsed (state : State) (layout : Layout) (number : ℕ) (object : Object) (node : ℕ) (image : Image) : Type 0 where
  pub kept : KeepsUncounted state layout [] image
  pub here : object_at state number ≡ Some object
  pub live : object.live ≡ true
  pub unsettled : object.settled ≡ false
  pub node_is : node ≡ layout.place (main object.key)

-- P holds of each dirty live object whose main item has this node, wherever the folder keeps a state
abbrev pub ForEachToUse : (node : ℕ) → Image → (State → Layout → Object → Type 0) → Type 0
ForEachToUse node from P = (state : State) (layout : Layout) (number : ℕ) (object : Object) → IsToBeUsed state layout number object node from → P state layout object

-- the main item was accessed, and then the counter of bytes in the index was lowered by `less` and raised by `more`; the folder keeps the state with the item
-- in front of the LRU list
pub record IsUsedAndCounted (state : State) (layout : Layout) (object : Object) (less more : ℕ) (from image : Image) : Type 0 where
  pub touched : Image
  pub kept : KeepsUncounted (with_used state (main object.key)) layout [] touched
  pub counters : SameCounters from touched
  pub counted : IsRiseCounted less more touched image
  pub kept_still : KeepsUncounted (with_used state (main object.key)) layout [] image

-- P holds of each dirty live object whose main item has the node that was found, unless the object that was found is doomed
abbrev pub ForUse : Told → NamedStream → (Image → State → Layout → Object → Type 0) → Type 0
ForUse told found P = found.doomed ≡ false → ForSome told.files (λ from. ForEachToUse found.node from (P from))

-- the main item was accessed, and the counter of bytes in the index was lowered by `less` and raised by `more`
abbrev pub UsedBy : (now : Told) → (less more : ℕ) → (from : Image) → State → Layout → Object → Type 0
UsedBy now less more from = λ state layout object. ForSome now.files (IsUsedAndCounted state layout object less more from)

-- Counters.

-- the cache's bytes, and those of its open objects, are lowered by `less` and raised by `more`; it is otherwise unchanged
pub record CountsRise (old new : Cache) (less more : ℕ) : Type 0 where
  pub bytes : new.bytes ≡ sum_within (old.bytes - less) more
  pub open_bytes : new.open_bytes ≡ sum_within (old.open_bytes - less) more
  pub items : new.items ≡ old.items
  pub limits : new.limits ≡ old.limits
  pub handles : new.handles ≡ old.handles
  pub files : new.files ≡ old.files
  pub mark : new.mark ≡ old.mark
  pub notes : new.notes ≡ old.notes
