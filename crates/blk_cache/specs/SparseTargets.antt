-- A SparseWrite before space is made: the object that it names, and what it adds.
use Rattle.std.specs.Prelude.{◌≡◌, ◌<◌, ◌+◌, ◌%◌, ℕ, List, [], false, if◌then◌else◌, length, true}
use Rattle.std.specs.Int.{cast_signed, w64}
use Rattle.std.specs.Option.{ForSome}
use Rattle.std.specs.declared.option.Option.{Option}
use Rattle.std.specs.declared.option.Option.TheVariants.{None, Some}
use Rattle.spec_image.specs.Told.{Told}
use Rattle.blk_model.specs.Refusals.{covered, refused}
use Rattle.blk_model.specs.Request.{to_sparse_write}
use Rattle.blk_model.specs.Sizes.{signatures}
use Rattle.blk_model.specs.State.{State}
use Rattle.blk_model.specs.declared.Refusal.{Refusal}
use Rattle.blk_model.specs.declared.Refusal.TheVariants as refusal
use Rattle.spec_folder.specs.Layout.{Layout}
use Rattle.blk_disk.specs.declared.tables.BlockFiles.{BlockFiles}
use Rattle.blk_disk.specs.Tables.{is_node_among, is_record_among}
use Rattle.blk_handles.specs.Bindings.{Bindings}
use Rattle.blk_sparse.specs.declared.children.Parent.{Parent}
use Rattle.blk_sparse.specs.declared.measuring.Measured.{Measured}
use Rattle.blk_sparse.specs.declared.storing.Target.{Target}
use Rattle.blk_sparse.specs.SparseWrites.{MayGetParts, signature_to}
use Rattle.blk_sparse.specs.Measuring.{IsMeasured}
use Rattle.blk_sparse.specs.SparseObjects.{with_signature}
use Rattle.blk_cache.specs.declared.cache.Cache.{Cache}
use Rattle.blk_cache.specs.declared.sparse_asking.AskedSparse.{AskedSparse}
use Rattle.blk_cache.specs.declared.sparse_asking.AskedSparse.TheVariants as asked
use Rattle.blk_cache.specs.declared.sparse_asking.PlainObject.{PlainObject}
use Rattle.blk_cache.specs.declared.sparse_rise.Rise.{Rise}
use Rattle.blk_cache.specs.declared.sparse_target.AskedTarget.{AskedTarget}
use Rattle.blk_cache.specs.declared.sparse_target.AskedTarget.TheVariants as target
use Rattle.blk_cache.specs.declared.sparse_writing.SparseRequest.{SparseRequest}
use Rattle.blk_cache.specs.CacheKeeping.{HoldsState}
use Rattle.blk_cache.specs.CommandClauses.{CommandClause}
use Rattle.blk_cache.specs.Covering.{AreCovered}
use Rattle.blk_cache.specs.SparseAsking.{IsRangeInside, IsLiveNamed, early_sparse_refusal, sparse_refusal}
use Rattle.blk_cache.specs.SparseWriting.{IsRaisedBy, IsSignedBy, covered_of, index_charge, sparse_write_of}

-- The request.

-- the refusal of a SparseWrite that needs no read of the folder
abbrev pub early_store_refusal : Bindings → SparseRequest → Option Refusal
early_store_refusal bindings request = early_sparse_refusal bindings request.handle request.offset (length request.bytes.now)

-- The object.

-- what a SparseWrite writes to, of a plain object: it gets a generation from the moment
abbrev pub plain_target : (moment : ℕ) → PlainObject → Target
plain_target moment found = record { parent = record { entry = found.entry; node = found.node; signature = cast_signed w64 (moment % signatures) }; plain = true }

-- a plain object may get sparse data if it has no other stream than its first; else the SparseWrite is refused
abbrev pub asked_plain : (moment : ℕ) → PlainObject → AskedTarget
asked_plain moment found = if found.one_stream then target.Found (plain_target moment found) else target.Refused refusal.NotSparse

-- what a SparseWrite writes to, by what the handle names, or why it is refused
abbrev pub asked_target : (moment : ℕ) → AskedSparse → AskedTarget
asked_target moment (asked.Refused why) = target.Refused why
asked_target moment (asked.Plain found) = asked_plain moment found
asked_target moment (asked.Parent parent) = target.Found (record { parent = parent; plain = false })

-- the handle names a live object that may get sparse data and has the target's node and record; a plain one gets its generation from the moment
pub record IsTargetNamed (state : State) (layout : Layout) (moment handle offset count : ℕ) (found : Target) : Type 0 where
  pub passes : sparse_refusal state handle offset count ≡ None
  pub its : IsLiveNamed state layout handle found.parent.node found.parent.entry
  pub may : MayGetParts its.object its.was found
  pub signed : IsSignedBy moment found

-- the answer for a SparseWrite: the object that it writes to, or why it is refused
abbrev pub IsAskedTarget : State → Layout → (moment handle offset : ℕ) → List ℕ → AskedTarget → Type 0
IsAskedTarget state layout moment handle offset bytes (target.Refused why) = refused moment (to_sparse_write handle offset bytes) state ≡ Some why
IsAskedTarget state layout moment handle offset bytes (target.Found found) = IsTargetNamed state layout moment handle offset (length bytes) found

-- in each state that the cache keeps, it is the answer for this SparseWrite
abbrev pub AsksTarget : Cache → Told → (moment handle offset : ℕ) → (bytes : List ℕ) → AskedTarget → Type 0
AsksTarget cache told moment handle offset bytes answer = ForSome told.files (λ image. (state : State) → (k : HoldsState cache state image) → IsAskedTarget state k.layout moment handle offset bytes answer)

-- in each state that the cache keeps, the handle names the object of the target
abbrev pub NamesTarget : Cache → Told → (moment handle offset count : ℕ) → Target → Type 0
NamesTarget cache told moment handle offset count found = ForSome told.files (λ image. (state : State) (kept : HoldsState cache state image) → IsTargetNamed state kept.layout moment handle offset count found)

-- in each state that the cache keeps, the handle of the request names the object of the target
abbrev pub NamesTargetFor : Cache → Told → SparseRequest → Target → Type 0
NamesTargetFor cache told request found = NamesTarget cache told request.moment request.handle request.offset (length request.bytes.now) found

-- Clauses that hold of an opaque folder too.

-- the target has a valid node and a valid record by the table of block files, and a generation that sparse entries may have
pub record IsAmong (files : BlockFiles) (found : Target) : Type 0 where
  pub node : is_node_among files found.parent.node ≡ true
  pub entry : is_record_among files found.parent.entry ≡ true
  pub signature : signature_to found < signatures

-- where a target was found, its node and record are valid, no early refusal applies, and the range lies inside sparse data
abbrev pub FindsTarget : BlockFiles → (early : Option Refusal) → (offset count : ℕ) → AskedTarget → Type 0
FindsTarget files early offset count (target.Refused why) = Unit {0}
FindsTarget files early offset count (target.Found found) = IsAmong files found × IsRangeInside early offset count

-- `FindsTarget`, by the block files and the handles of a cache
abbrev pub FindsTargetIn : Cache → (handle offset count : ℕ) → AskedTarget → Type 0
FindsTargetIn cache handle offset count answer = FindsTarget cache.files (early_sparse_refusal cache.handles handle offset count) offset count answer

-- What is added.

-- what a SparseWrite adds: the parts in range as they were measured, and the index if the object is plain
abbrev pub rise_of : Target → Measured → Rise
rise_of found measured = record { parts = covered_of measured; bytes = measured.bytes + index_charge found; items = measured.items }

-- with the bytes written, the state has `rise.bytes` of cost and `rise.items` items more, and `rise.parts` are the parts in range
pub record IsRise (state : State) (layout : Layout) (moment handle offset : ℕ) (bytes : List ℕ) (rise : Rise) : Type 0 where
  pub parts : AreCovered state layout (covered (to_sparse_write handle offset bytes) state) rise.parts
  pub raised : IsRaisedBy state moment handle offset bytes rise.bytes rise.items

-- where the cache keeps a state in which a handle names the object of the target, at any moment, P holds
abbrev pub WhereTarget : Cache → Told → Target → (offset count : ℕ) → Type 0 → Type 0
WhereTarget cache told found offset count P = ForSome told.files (λ image. (state : State) (k : HoldsState cache state image) (moment handle : ℕ) → IsTargetNamed state k.layout moment handle offset count found → P)

-- in each state that the cache keeps in which a handle names the object of the target, `measured` is what is measured of the object as a sparse one
abbrev pub MeasuresTarget : Cache → Told → Target → (offset count : ℕ) → Measured → Type 0
MeasuresTarget cache told found offset count measured =
    ForSome told.files (λ image. (state : State) (k : HoldsState cache state image) (moment handle : ℕ) → (is : IsTargetNamed state k.layout moment handle offset count found)
    → IsMeasured k.layout (with_signature is.its.object (signature_to found)) (signature_to found) offset count measured)

-- in each state that the cache keeps in which a handle names the object of the target, `rise` is what so many bytes add
abbrev pub RaisesTarget : Cache → Told → Target → (offset count : ℕ) → Rise → Type 0
RaisesTarget cache told found offset count rise =
    ForSome told.files (λ image. (state : State) (k : HoldsState cache state image) (moment handle : ℕ) (bytes : List ℕ) → length bytes ≡ count → IsTargetNamed state k.layout moment handle offset count found
    → IsRise state k.layout moment handle offset bytes rise)

-- the handle names an object that may get the bytes, and `rise` is what they add
pub record IsToStore (state : State) (layout : Layout) (moment handle offset : ℕ) (bytes : List ℕ) (found : Target) (rise : Rise) : Type 0 where
  pub named : IsTargetNamed state layout moment handle offset (length bytes) found
  pub rises : IsRise state layout moment handle offset bytes rise

-- in each state that the cache keeps, the handle names an object that may get the bytes, and `rise` is what they add
abbrev pub AsksToStore : Cache → Told → (moment handle offset : ℕ) → List ℕ → Target → Rise → Type 0
AsksToStore cache told moment handle offset bytes found rise = ForSome told.files (λ image. (state : State) (kept : HoldsState cache state image) → IsToStore state kept.layout moment handle offset bytes found rise)

-- in each state that the cache keeps, the handle names an object that may get the bytes, `rise` is what they add, and the SparseWrite isn't refused
abbrev pub HasRoomToStore : Cache → Told → (moment handle offset : ℕ) → List ℕ → Target → Rise → Type 0
HasRoomToStore cache told moment handle offset bytes found rise = ForSome told.files (λ image. (state : State) (kept : HoldsState cache state image) → IsToStore state kept.layout moment handle offset bytes found rise × (refused moment (to_sparse_write handle offset bytes) state ≡ None))

-- in each state that the cache keeps, the handle of the request names an object that may get its bytes, and `rise` is what they add
abbrev pub AsksToStoreFor : Cache → Told → SparseRequest → Target → Rise → Type 0
AsksToStoreFor cache told request found rise = AsksToStore cache told request.moment request.handle request.offset request.bytes.now found rise

-- and the request isn't refused
abbrev pub HasRoomToStoreFor : Cache → Told → SparseRequest → Target → Rise → Type 0
HasRoomToStoreFor cache told request found rise = HasRoomToStore cache told request.moment request.handle request.offset request.bytes.now found rise

-- The commands.

-- P holds of a SparseWrite that names the object of the target
abbrev pub WhereNamed : Cache → Told → SparseRequest → Target → CommandClause → Type 0
WhereNamed cache told request found P = NamesTargetFor cache told request found → P cache told request.moment (sparse_write_of request)

-- P holds of a SparseWrite that names an object that may get its bytes, where `rise` is what they add
abbrev pub WhereAsks : Cache → Told → SparseRequest → Target → Rise → CommandClause → Type 0
WhereAsks cache told request found rise P = AsksToStoreFor cache told request found rise → P cache told request.moment (sparse_write_of request)

-- and isn't refused
abbrev pub WhereRoom : Cache → Told → SparseRequest → Target → Rise → CommandClause → Type 0
WhereRoom cache told request found rise P = HasRoomToStoreFor cache told request found rise → P cache told request.moment (sparse_write_of request)

-- P holds of each SparseWrite of no bytes that names the object of the target
abbrev pub ForEmptyWrites : Cache → Told → (moment : ℕ) → Target → CommandClause → Type 0
ForEmptyWrites cache told moment found P = (handle offset : ℕ) → NamesTarget cache told moment handle offset 0 found → P cache told moment (to_sparse_write handle offset [])
