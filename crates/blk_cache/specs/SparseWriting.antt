-- A SparseWrite: the precondition of its end, and how the cache counts it.
use Rattle.std.specs.Prelude.{◌≡◌, ◌<◌, ◌≤◌, ◌+◌, ◌%◌, ◌^◌, ℕ, List, [], false, if◌then◌else◌, length, map, true, OnOk, Result}
use Rattle.std.specs.Option.{ForSome}
use Rattle.std.specs.declared.option.Option.TheVariants.{None}
use Rattle.spec_image.specs.Image.{Image}
use Rattle.spec_image.specs.Told.{Told, Passes}
use Rattle.blk_io.specs.declared.fault.Fault.{Fault}
use Rattle.blk_model.specs.Effects.{effect}
use Rattle.blk_model.specs.Holding.{rest}
use Rattle.blk_model.specs.Items.{part, plain, sparse}
use Rattle.blk_model.specs.Refusals.{refused}
use Rattle.blk_model.specs.Request.{Request, to_sparse_write}
use Rattle.blk_model.specs.Room.{items, total}
use Rattle.blk_model.specs.Sizes.{most_items, part_size, parts_index_charge, signatures}
use Rattle.blk_model.specs.Sparse.{covered_parts}
use Rattle.blk_model.specs.State.{IsValidState, Object, State}
use Rattle.spec_folder.specs.Layout.{Layout}
use Rattle.law_state.specs.CommandStates.{with_room}
use Rattle.law_state.specs.Changes.{Finds}
use Rattle.law_state.specs.OneCallLaws.{Names}
use Rattle.blk_sparse.specs.declared.measuring.Measured.{Measured}
use Rattle.blk_sparse.specs.declared.storing.Target.{Target}
use Rattle.blk_sparse.specs.Measuring.{IsMeasured}
use Rattle.blk_sparse.specs.SparseObjects.{with_signature}
use Rattle.blk_sparse.specs.SparseWrites.{signature_to, sparse_state}
use Rattle.blk_cache.specs.declared.cache.Cache.{Cache}
use Rattle.blk_cache.specs.declared.covered.Covered.{Covered}
use Rattle.blk_cache.specs.declared.sparse_writing.SparseRequest.{SparseRequest}
use Rattle.blk_cache.specs.CacheKeeping.{HoldsState}
use Rattle.blk_cache.specs.CommandClauses.{CommandClause, EndClause}
use Rattle.blk_cache.specs.Covering.{AreCovered}
use Rattle.blk_cache.specs.Creating.{sum_within}

-- The request.

-- the SparseWrite of the model
abbrev pub sparse_write_of : SparseRequest → Request
sparse_write_of request = to_sparse_write request.handle request.offset request.bytes.now

-- P holds of a SparseWrite
abbrev pub ForSparseWrite : Cache → Told → SparseRequest → CommandClause → Type 0
ForSparseWrite cache told request P = P cache told request.moment (sparse_write_of request)

-- The object.

-- the object is plain with empty second and third streams, or sparse with the target's generation
pub record IsTargetOf (object : Object) (target : Target) : Type 0 where
  pub of_plain : target.plain ≡ true → (object.shape ≡ plain) × ((object.streams.1 ≡ []) × (object.streams.2 ≡ []))
  pub of_sparse : target.plain ≡ false → object.shape ≡ sparse (signature_to target)

-- a plain object gets its generation from the moment
abbrev pub IsSignedBy : (moment : ℕ) → Target → Type 0
IsSignedBy moment target = target.plain ≡ true → signature_to target ≡ moment % signatures

-- the target with this node and this record
abbrev pub own_target : (node entry : ℕ) → Target → Target
own_target node entry target = record { parent = record { entry = entry; node = node; signature = target.parent.signature }; plain = target.plain }

-- The change.

-- the handle names a dirty live object that may get the bytes; with them the state has `more_bytes` of cost and `more_items` items more, which a cache may have
pub record CanStore (state : State) (handle offset : ℕ) (bytes : List ℕ) (target : Target) (more_bytes more_items : ℕ) : Type 0 where
  pub number : ℕ
  pub object : Object
  pub names : Names state handle number object
  pub live : object.live ≡ true
  pub unsettled : object.settled ≡ false
  pub is : IsTargetOf object target
  pub total_more : total (sparse_state state number object (signature_to target) offset bytes) ≡ total state + more_bytes
  pub items_more : items (sparse_state state number object (signature_to target) offset bytes) ≡ items state + more_items
  pub few : items state + more_items ≤ most_items
  pub within : total state + more_bytes < 2 ^ 64

-- the cache keeps some state whose object may get the bytes
pub record KeepsToStore (cache : Cache) (handle offset : ℕ) (bytes : List ℕ) (target : Target) (more_bytes more_items : ℕ) (image : Image) : Type 0 where
  pub state : State
  pub kept : HoldsState cache state image
  pub can : CanStore state handle offset bytes target more_bytes more_items

-- the cache keeps some state whose object may get the bytes of the request
abbrev pub KeepsToStoreFor : Cache → SparseRequest → Target → (more_bytes more_items : ℕ) → Image → Type 0
KeepsToStoreFor cache request target more_bytes more_items image = KeepsToStore cache request.handle request.offset request.bytes.now target more_bytes more_items image

-- a clause on the storing of the bytes: on the cache and the folder before the call, the request, its target, and the cost and the items that the bytes add
abbrev pub StoreClause : Type 1
StoreClause = Cache → Told → SparseRequest → Target → (more_bytes more_items : ℕ) → Type 0

-- on an Ok each state that was kept, whose object may get the bytes, is kept with them
abbrev pub StoredBy : {A : Type 0} → (new : Cache) → (now : Told) → Result A Fault → StoreClause
StoredBy new now result cache told request target more_bytes more_items =
    OnOk result (ForSome told.files (λ from. (state : State) → HoldsState cache state from → (can : CanStore state request.handle request.offset request.bytes.now target more_bytes more_items)
    → ForSome now.files (HoldsState new (sparse_state state can.number can.object (signature_to target) request.offset request.bytes.now))))

-- at each word of the steps that were made, the durable contents of each state that was kept, whose object may get the bytes, are recovered
abbrev pub StoringBy : (now : Told) → StoreClause
StoringBy now cache told request target more_bytes more_items =
    ForSome told.files (λ from. (state : State) → HoldsState cache state from → CanStore state request.handle request.offset request.bytes.now target more_bytes more_items → Passes told now (Finds (rest state)))

-- P holds of the storing of the bytes of a SparseWrite
abbrev pub ForStoring : Cache → Told → SparseRequest → Target → (more_bytes more_items : ℕ) → StoreClause → Type 0
ForStoring cache told request target more_bytes more_items P = P cache told request target more_bytes more_items

-- Counters.

-- by how much the cost of the main item rises when the object becomes sparse: 0 if it is sparse already
abbrev pub index_charge : Target → ℕ
index_charge target = if target.plain then parts_index_charge else 0

-- the cache counts that many items and bytes of cost more, and for the open objects the index of an object that was plain; it is otherwise unchanged
pub record CountsParts (old new : Cache) (target : Target) (more_bytes more_items : ℕ) : Type 0 where
  pub items : new.items ≡ sum_within old.items more_items
  pub bytes : new.bytes ≡ sum_within old.bytes more_bytes
  pub open_bytes : new.open_bytes ≡ sum_within old.open_bytes (index_charge target)
  pub limits : new.limits ≡ old.limits
  pub handles : new.handles ≡ old.handles
  pub files : new.files ≡ old.files
  pub mark : new.mark ≡ old.mark
  pub notes : new.notes ≡ old.notes

-- The end.

-- all evictions of a SparseWrite of `state` are done: the write isn't refused, the cache keeps the state after the evictions, and the bytes add `more_bytes` of
-- cost and `more_items` items
pub record IsReadyToStore (cache : Cache) (state : State) (moment handle offset : ℕ) (bytes : List ℕ) (target : Target) (more_bytes more_items : ℕ) (image : Image) : Type 0 where
  pub valid : IsValidState state
  pub passes : refused moment (to_sparse_write handle offset bytes) state ≡ None
  pub kept : HoldsState cache (with_room state moment (to_sparse_write handle offset bytes)) image
  pub number : ℕ
  pub object : Object
  pub names : Names (with_room state moment (to_sparse_write handle offset bytes)) handle number object
  pub live : object.live ≡ true
  pub is : IsTargetOf object target
  pub signed : IsSignedBy moment target
  pub total_more : total (effect moment (to_sparse_write handle offset bytes) (with_room state moment (to_sparse_write handle offset bytes))) ≡ total (with_room state moment (to_sparse_write handle offset bytes)) + more_bytes
  pub items_more : items (effect moment (to_sparse_write handle offset bytes) (with_room state moment (to_sparse_write handle offset bytes))) ≡ items (with_room state moment (to_sparse_write handle offset bytes)) + more_items
  pub few : items (with_room state moment (to_sparse_write handle offset bytes)) + more_items ≤ most_items
  pub within : total (with_room state moment (to_sparse_write handle offset bytes)) + more_bytes < 2 ^ 64

-- the cache is ready for this SparseWrite, of some state at some moment
pub record IsReadyToStoreSome (cache : Cache) (handle offset : ℕ) (bytes : List ℕ) (target : Target) (more_bytes more_items : ℕ) (image : Image) : Type 0 where
  pub state : State
  pub moment : ℕ
  pub ready : IsReadyToStore cache state moment handle offset bytes target more_bytes more_items image

-- all evictions of this SparseWrite of `state` are done
abbrev pub IsReadyToStoreFor : Cache → State → SparseRequest → Target → (more_bytes more_items : ℕ) → Image → Type 0
IsReadyToStoreFor cache state request target more_bytes more_items image = IsReadyToStore cache state request.moment request.handle request.offset request.bytes.now target more_bytes more_items image

-- the cache is ready for this SparseWrite, of some state at some moment
abbrev pub IsReadyToStoreForSome : Cache → SparseRequest → Target → (more_bytes more_items : ℕ) → Image → Type 0
IsReadyToStoreForSome cache request target more_bytes more_items image = IsReadyToStoreSome cache request.handle request.offset request.bytes.now target more_bytes more_items image

-- P holds of the end of a SparseWrite
abbrev pub ForReadyStore : Cache → Told → SparseRequest → Target → (more_bytes more_items : ℕ) → EndClause → Type 0
ForReadyStore cache told request target more_bytes more_items P = P (λ state image. IsReadyToStoreFor cache state request target more_bytes more_items image) told request.moment (sparse_write_of request)

-- Before space is made.

-- the parts in range of a SparseWrite, from their measure: the nodes, and the sum of their costs
abbrev pub covered_of : Measured → Covered
covered_of found = record { first = found.first; second = found.second; bytes = found.charged }

-- where a cache keeps a state, the parts that were measured lie at the measured nodes and pin what was measured
abbrev pub MeasuredPartsAreCovered : Type 0
MeasuredPartsAreCovered =
    (cache : Cache) (state : State) (image : Image) (k : HoldsState cache state image) (handle number : ℕ) (object : Object) (target : Target) (offset count : ℕ) (found : Measured) → Names state handle number object → object.live ≡ true
    → IsTargetOf object target → 1 ≤ count → count ≤ part_size → IsMeasured k.layout (with_signature object (signature_to target)) (signature_to target) offset count found
    → AreCovered state k.layout (map (part object.key) (covered_parts offset count)) (covered_of found)

-- with the bytes written, the state has `more_bytes` of cost and `more_items` items more
pub record IsRaisedBy (state : State) (moment handle offset : ℕ) (bytes : List ℕ) (more_bytes more_items : ℕ) : Type 0 where
  pub total_more : total (effect moment (to_sparse_write handle offset bytes) state) ≡ total state + more_bytes
  pub items_more : items (effect moment (to_sparse_write handle offset bytes) state) ≡ items state + more_items

-- a SparseWrite raises cost and items of the state as measured, plus the index where the object is plain
abbrev pub SparseWritesRaiseAsMeasured : Type 0
SparseWritesRaiseAsMeasured =
    (state : State) (moment handle number : ℕ) (object : Object) (target : Target) (offset : ℕ) (bytes : List ℕ) (layout : Layout) (found : Measured) → IsValidState state → Names state handle number object
    → IsTargetOf object target → IsSignedBy moment target → 1 ≤ length bytes → length bytes ≤ part_size → IsMeasured layout (with_signature object (signature_to target)) (signature_to target) offset (length bytes) found
    → IsRaisedBy state moment handle offset bytes (found.bytes + index_charge target) found.items
