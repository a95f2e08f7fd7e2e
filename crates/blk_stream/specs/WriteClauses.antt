-- Clauses of a write of a stream, on the folder before it (`from`), the size that the stream gets, and whether the write ends it.
use Rattle.std.specs.Prelude.{◌≡◌, ◌≢◌, ℕ, Bool, List, length, true, unwrap_or}
use Rattle.std.specs.Option.{ForSome}
use Rattle.spec_image.specs.Image.{Image}
use Rattle.spec_image.specs.Steps.{TrailStep}
use Rattle.spec_image.specs.Told.{Passes, Told}
use Rattle.spec_format.specs.Address.{external, kind_of}
use Rattle.spec_format.specs.Records.{entry_is_sealed}
use Rattle.spec_format.specs.Sealed.{RecordChecks, record_at}
use Rattle.spec_folder.specs.View.{entry_at}
use Rattle.blk_disk.specs.declared.tables.BlockFiles.{BlockFiles}
use Rattle.blk_entry.specs.Writing.{ShareNoBlock}
use Rattle.blk_stream.specs.declared.places.Stored.{Stored}
use Rattle.blk_stream.specs.declared.places.StreamWrite.{StreamWrite}
use Rattle.blk_stream.specs.Changing.{IsStreamRead}
use Rattle.blk_stream.specs.Inside.{HasStreamLength, WritesInside, inside_steps}
use Rattle.blk_stream.specs.Stages.{HasPlaceFile, IsWrittenByStage, KeepsSeal, WritesByStage}
use Rattle.blk_stream.specs.Streams.{size_word}
use Rattle.blk_stream.specs.Writing.{size_after}
use Rattle.blk_stream.specs.Written.{CanBeWritten, StreamIsWritten, WritesStream}

-- a write over a stream: the record, which stream of it, the offset, whether the stream ends with the bytes, and the bytes
pub record Overwrite : Type 0 where
  pub entry : ℕ
  pub stream : ℕ
  pub offset : ℕ
  pub cut : Bool
  pub bytes : List ℕ

-- the write with these
abbrev pub over : (entry i offset : ℕ) → (cut : Bool) → (bytes : List ℕ) → Overwrite
over entry i offset cut bytes = record { entry = entry; stream = i; offset = offset; cut = cut; bytes = bytes }

abbrev pub overwrite_of : StreamWrite → Overwrite
overwrite_of write = record { entry = write.entry; stream = write.stream; offset = write.offset; cut = write.cut; bytes = write.bytes.now }

-- a clause on a write, with whether it ends the stream, and the size that the stream gets
abbrev pub WriteClause : Type 1
WriteClause = BlockFiles → Overwrite → (cut : Bool) → (size : ℕ) → Image → Type 0

-- Where they hold.

-- the stream may be overwritten so
abbrev pub CanBeOverwritten : BlockFiles → Overwrite → Image → Type 0
CanBeOverwritten files write image = CanBeWritten files write.entry write.stream (size_after write.cut (size_word image write.entry write.stream) write.offset (length write.bytes)) image

-- P holds where the stream may be overwritten so
abbrev pub IfWritten : Told → BlockFiles → Overwrite → WriteClause → Type 0
IfWritten told files write P =
    ForSome told.files (λ from. CanBeWritten files write.entry write.stream (size_after write.cut (size_word from write.entry write.stream) write.offset (length write.bytes)) from
    → P files write write.cut (size_after write.cut (size_word from write.entry write.stream) write.offset (length write.bytes)) from)

-- the size of the stream after the write, by its old one
abbrev pub size_over : StreamWrite → Stored → ℕ
size_over write old = size_after write.cut old.size write.offset (length write.bytes.now)

-- the record and the words of the stream were read, and the stream may be written to this size
abbrev pub IsReadAndWritable : BlockFiles → List ℕ → StreamWrite → Stored → (size : ℕ) → Image → Type 0
IsReadAndWritable files bytes write old size image = IsStreamRead bytes write.entry write.stream old.size (unwrap_or old.addr 0) image × CanBeWritten files write.entry write.stream size image

-- P holds where the record and the words of the stream were read, and it may be overwritten so
abbrev pub IfStored : Told → BlockFiles → List ℕ → StreamWrite → Stored → WriteClause → Type 0
IfStored told files bytes write old P =
    ForSome told.files (λ from. IsStreamRead bytes write.entry write.stream old.size (unwrap_or old.addr 0) from → CanBeWritten files write.entry write.stream (size_over write old) from
    → P files (overwrite_of write) write.cut (size_over write old) from)

-- P holds where they were read, and the stream may be written to this size
abbrev pub IfMoved : Told → BlockFiles → List ℕ → StreamWrite → Stored → (size : ℕ) → WriteClause → Type 0
IfMoved told files bytes write old size P =
    ForSome told.files (λ from. IsStreamRead bytes write.entry write.stream old.size (unwrap_or old.addr 0) from → CanBeWritten files write.entry write.stream size from
    → P files (overwrite_of write) write.cut size from)

-- P holds there too, with or without a cut, whichever gives this size
abbrev pub IfMovedCut : Told → BlockFiles → List ℕ → StreamWrite → Stored → (size : ℕ) → WriteClause → Type 0
IfMovedCut told files bytes write old size P =
    ForSome told.files (λ from. IsStreamRead bytes write.entry write.stream old.size (unwrap_or old.addr 0) from → CanBeWritten files write.entry write.stream size from
    → (cut : Bool) → size ≡ size_after cut old.size write.offset (length write.bytes.now) → P files (overwrite_of write) cut size from)

-- What they say.

-- the write is done: the stream has its bytes after it
abbrev pub EndsWritten : (new : Told) → (kept : BlockFiles) → WriteClause
EndsWritten new kept files write cut size from = ForSome new.files (StreamIsWritten files kept write.entry write.stream write.offset cut write.bytes from)

-- it was done where the stream lies, or by a new place
abbrev pub EndsByStage : (new : Told) → (kept : BlockFiles) → WriteClause
EndsByStage new kept files write cut size from = ForSome new.files (IsWrittenByStage files kept write.entry write.stream size write.offset write.bytes from)

-- a record whose checksum matched has one that matches
abbrev pub EndsSealed : (new : Told) → WriteClause
EndsSealed new files write cut size from = ForSome new.files (KeepsSeal write.entry from)

-- the record has a checksum that matches
abbrev pub EndsWithSeal : (new : Told) → WriteClause
EndsWithSeal new files write cut size from = ForSome new.files (λ image. entry_is_sealed (entry_at image write.entry) ≡ true)

-- before each step and after the last the write is under way
abbrev pub StopsStreamWrite : (old new : Told) → WriteClause
StopsStreamWrite old new files write cut size from = Passes old new (WritesStream files write.entry write.stream size write.offset cut write.bytes from)

-- before each step and after the last one of its stages is
abbrev pub ByStages : (old new : Told) → (kept : BlockFiles) → WriteClause
ByStages old new kept files write cut size from = Passes old new (WritesByStage files kept write.entry write.stream size write.offset write.bytes from)

-- A write where the stream lies.

-- its steps
abbrev pub steps_over_place : List ℕ → StreamWrite → (w old size : ℕ) → List TrailStep
steps_over_place record_bytes write w old size = inside_steps record_bytes write.entry write.stream w old size write.offset write.bytes.now

-- where the record was read, its checksum matches or is absent, and the place shares no block with it, the folder is in relation P to the one before it
abbrev pub LeavesInside : (old new : Told) → List ℕ → (entry w : ℕ) → (Image → Image → Type 0) → Type 0
LeavesInside old new bytes entry w P =
    ForSome old.files (λ from. bytes ≡ record_at from entry → RecordChecks entry from → (kind_of w ≢ external → ShareNoBlock entry w) → ForSome new.files (P from))

-- and P, which takes the record, the stream and the place, holds before each step and after the last
abbrev pub StopsInside : (old new : Told) → List ℕ → StreamWrite → (w : ℕ) → ((entry i w : ℕ) → Image → Image → Type 0) → Type 0
StopsInside old new bytes write w P =
    ForSome old.files (λ from. bytes ≡ record_at from write.entry → RecordChecks write.entry from → (kind_of w ≢ external → ShareNoBlock write.entry w) → Passes old new (P write.entry write.stream w from))

-- and so if the external file of the place is there
abbrev pub StopsInsideFile : (old new : Told) → List ℕ → StreamWrite → (w : ℕ) → ((entry i w : ℕ) → Image → Image → Type 0) → Type 0
StopsInsideFile old new bytes write w P =
    ForSome old.files (λ from. bytes ≡ record_at from write.entry → RecordChecks write.entry from → (kind_of w ≢ external → ShareNoBlock write.entry w) → HasPlaceFile w from
    → Passes old new (P write.entry write.stream w from))

-- and the write is done where the external file of the place is as long as the stream
abbrev pub LeavesWrittenInside : (old new : Told) → List ℕ → StreamWrite → (w size_before size : ℕ) → Type 0
LeavesWrittenInside old new bytes write w size_before size =
    ForSome old.files (λ from. bytes ≡ record_at from write.entry → RecordChecks write.entry from → HasStreamLength w size_before from → (kind_of w ≢ external → ShareNoBlock write.entry w)
    → ForSome new.files (WritesInside write.entry write.stream w size_before size write.offset write.bytes.now from))
