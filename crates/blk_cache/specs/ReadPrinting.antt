-- The bytes of a Read or a SparseRead, as they are printed.
use Rattle.std.specs.Prelude.{◌≡◌, ◌≤◌, ◌+◌, ◌^◌, ◌&&◌, ℕ, Bool, List, length, nat_lt, true}
use Rattle.std.specs.declared.option.Option.TheVariants.{None}
use Rattle.spec_image.specs.Image.{Image}
use Rattle.spec_image.specs.Told.{Told}
use Rattle.blk_model.specs.Bytes.{bytes_from}
use Rattle.blk_model.specs.Effects.{stream_of}
use Rattle.blk_model.specs.Items.{is_sparse}
use Rattle.blk_model.specs.Reply.{gave}
use Rattle.blk_model.specs.Sizes.{largest_offset, part_size, stream_count}
use Rattle.blk_model.specs.Sparse.{sparse_bytes}
use Rattle.blk_model.specs.State.{Object, State}
use Rattle.spec_folder.specs.Entries.{stream}
use Rattle.blk_script.specs.Reply.{reply_text}
use Rattle.law_state.specs.Commands.{ForKept}
use Rattle.law_state.specs.OneCallLaws.{Names}
use Rattle.blk_cache.specs.declared.cache.Cache.{Cache}
use Rattle.blk_cache.specs.declared.read_printing.ReadRange.{ReadRange}
use Rattle.blk_cache.specs.Asking.{stream_refusal}
use Rattle.blk_cache.specs.CacheKeeping.{HoldsState}
use Rattle.blk_cache.specs.Reading.{bytes_there}

-- P holds of the printed reply of a Read, for each state that the cache keeps in which the handle names an object with this stream and `number` bytes are there
-- to be read
abbrev pub ForRead : Cache → Told → (handle stream offset number : ℕ) → (List ℕ → Type 0) → Type 0
ForRead cache told handle stream offset number P =
    ForKept (HoldsState cache) told (λ state. (n count : ℕ) (object : Object) → Names state handle n object → stream_refusal state handle stream ≡ None → number ≡ bytes_there (length (stream_of object stream)) offset count
    → P (reply_text (gave (bytes_from (stream_of object stream) offset count))))

-- the cache keeps some state in which the handle names an object with this stream and `number` bytes are there to be read
pub record KeepsToRead (cache : Cache) (handle stream offset number : ℕ) (image : Image) : Type 0 where
  pub state : State
  pub kept : HoldsState cache state image
  pub n : ℕ
  pub count : ℕ
  pub object : Object
  pub names : Names state handle n object
  pub passes : stream_refusal state handle stream ≡ None
  pub number_is : number ≡ bytes_there (length (stream_of object stream)) offset count

-- P holds of the printed reply of a Read with this range
abbrev pub ForRange : Cache → Told → ReadRange → (List ℕ → Type 0) → Type 0
ForRange cache told range P = ForRead cache told range.handle range.stream range.offset range.number P

-- the cache keeps some state in which the bytes of this range are there to be read
abbrev pub KeepsRange : Cache → ReadRange → Image → Type 0
KeepsRange cache range image = KeepsToRead cache range.handle range.stream range.offset range.number image

-- an object may have a stream of this number, and the range ends within the values of a u64
abbrev pub can_be_read : (stream offset number : ℕ) → Bool
can_be_read stream offset number = nat_lt stream stream_count && nat_lt (offset + number) (2 ^ 64)

-- Sparse data.

-- the handle names a live sparse object of which `number` bytes from the offset on are all present
pub record NamesPresent (state : State) (handle offset number : ℕ) : Type 0 where
  pub n : ℕ
  pub object : Object
  pub names : Names state handle n object
  pub live : object.live ≡ true
  pub has_parts : is_sparse object.shape ≡ true
  pub all : length (sparse_bytes object offset number) ≡ number
  pub few : number ≤ part_size
  pub inside : offset + number ≤ largest_offset

-- P holds of the printed reply of a SparseRead, for each state that the cache keeps in which these bytes are all present
abbrev pub ForPresent : Cache → Told → (handle offset number : ℕ) → (List ℕ → Type 0) → Type 0
ForPresent cache told handle offset number P = ForKept (HoldsState cache) told (λ state. (p : NamesPresent state handle offset number) → P (reply_text (gave (sparse_bytes p.object offset number))))

-- the cache keeps some state in which the handle names a live sparse object and these bytes of it are all present
pub record KeepsPresent (cache : Cache) (handle offset number : ℕ) (image : Image) : Type 0 where
  pub state : State
  pub kept : HoldsState cache state image
  pub present : NamesPresent state handle offset number
