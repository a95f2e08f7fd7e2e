-- Data is copied from one address to another.
use Rattle.std.specs.Prelude.{ℕ, ◌≡◌, ◌≢◌, ◌+◌, ◌-◌, ◌<◌, ◌≤◌, min, None, Some}
use Rattle.spec_image.specs.Image.{Image, byte}
use Rattle.spec_image.specs.Footprint.{Footprint, either, range}
use Rattle.spec_image.specs.Told.{Told}
use Rattle.spec_format.specs.Address.{kind_of, external, external_number}
use Rattle.blk_io.specs.declared.fault.Damage.{Damage}
use Rattle.blk_disk.specs.declared.tables.BlockFiles.{BlockFiles}
use Rattle.blk_entry.specs.Keys.{IsCut, IsInFile, IsInside, data_file, data_start}
use Rattle.blk_entry.specs.Writing.{ShareNoBlock}
use Rattle.blk_stream.specs.declared.places.Stored.{Stored}

-- byte k of the data at address w
abbrev pub data_byte : Image → ℕ → ℕ → ℕ
data_byte image w k = byte image (data_file w) (data_start w + k)

-- the bytes from `start` to `end` (itself not counted) of the data at address w
abbrev pub span_of : ℕ → ℕ → ℕ → Footprint
span_of w start end = range (data_file w) (data_start w + start) (end - start)

-- two addresses of data don't name the same external file
abbrev pub ShareNoFile : ℕ → ℕ → Type 0
ShareNoFile one other = kind_of one ≡ external → kind_of other ≡ external → external_number one ≢ external_number other

-- two addresses of data name neither the same external file nor a common block
pub record ShareNoData (one other : ℕ) : Type 0 where
  pub files : ShareNoFile one other
  pub blocks : kind_of one ≢ external → kind_of other ≢ external → ShareNoBlock one other

-- the bytes from `start` to `end` of the data at address `one` were copied to the same positions of `other`
abbrev pub IsCopied : ℕ → ℕ → ℕ → ℕ → Image → Image → Type 0
IsCopied one other start end from image = (k : ℕ) → start ≤ k → k < end → data_byte image other k ≡ data_byte from one k

-- a read inside the first `size` bytes of the data at address w gave too few bytes
pub record IsCutPrefix (told : Told) (w size : ℕ) (damage : Damage) : Type 0 where
  pub at : ℕ
  pub count : ℕ
  pub within : at + count ≤ size
  pub cut : IsCut told w at count damage

-- Which bytes of a stream a write leaves.

-- the old stream is empty where it has no address, and otherwise its bytes lie inside the place of its address
pub record HasOldPlace (files : BlockFiles) (old : Stored) : Type 0 where
  pub none : old.addr ≡ None → old.size ≡ 0
  pub inside : (w : ℕ) → old.addr ≡ Some w → IsInside files w 0 old.size

-- where the old stream lies in an external file, this has all bytes of the stream
abbrev pub IsOldThere : Stored → Image → Type 0
IsOldThere old image = (w : ℕ) → old.addr ≡ Some w → IsInFile w 0 old.size image

-- a byte of the old stream could not be read: its place gave too few
pub record IsCutOld (told : Told) (old : Stored) (damage : Damage) : Type 0 where
  pub word : ℕ
  pub is : old.addr ≡ Some word
  pub cut : IsCutPrefix told word old.size damage

-- the frame of a copy of the old bytes that a write leaves, those before the written ones and those after: `old` bytes before, `size` after, and `count`
-- written from `offset` on
abbrev pub old_spans : ℕ → ℕ → ℕ → ℕ → ℕ → Footprint
old_spans w old size offset count = either (span_of w 0 (min offset old)) (span_of w (offset + count) (min size old))

-- the old bytes that a write leaves, before and after the written ones, were copied from address `one` to `other`
pub record AreOldBytes (one other old size offset count : ℕ) (from image : Image) : Type 0 where
  pub before : IsCopied one other 0 (min offset old) from image
  pub behind : IsCopied one other (offset + count) (min size old) from image
