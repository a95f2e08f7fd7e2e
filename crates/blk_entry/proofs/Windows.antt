-- Words of entry records, and where they lie.
use Rattle.std.proofs.Common.{◌≡◌, ◌≢◌, ℕ, ◌+◌, ◌*◌, ◌≤◌, Bool, true, false, None, Some, if◌then◌else◌, List, length, refl, sym, ◌∙◌, ap, arith}
use Rattle.std.proofs.lemmas.List.{take_all}
use Rattle.std.specs.Int.{from_le_bytes, w32}
use Rattle.spec_image.specs.Bytes.{word_at, range_at}
use Rattle.spec_image.proofs.Words.{length-range, word-from_bytes}
use Rattle.spec_image.specs.Image.{Block, Image, word}
use Rattle.spec_format.specs.Address.{kind_of, byte_size, block_count, block_size, blocks_256, external, file_selector, place}
use Rattle.spec_format.specs.Records.{entry_in}
use Rattle.spec_folder.specs.View.{entry_at}
use Rattle.spec_format.proofs.Words.{AreFields-of}

-- the bytes of the blocks of an entry record
pub entry_room : (w : ℕ) → kind_of w ≡ blocks_256 → byte_size w ≡ 256 * block_count w
unfolding byte_size block_size
entry_room w kind = rw kind (let h : block_count w * 256 ≡ 256 * block_count w = omega arith in h)

pub entry_room_least : (w : ℕ) → kind_of w ≡ blocks_256 → 256 ≤ byte_size w
entry_room_least w kind = let some = (AreFields-of w).some in omega (arith, entry_room w kind, some)

-- the word of four bytes that were read
pub word_read : (bytes : List ℕ) (i : ℕ) (f : ℕ → ℕ) → bytes ≡ range_at f i 4 → from_le_bytes w32 bytes ≡ word_at f i
word_read bytes i f is =
    let size : length bytes ≡ 4 = ap length is ∙ length-range 4 i f in
    word-from_bytes bytes i f (take_all 4 bytes (omega arith) ∙ is)

pub size_of_entry : (w : ℕ) → kind_of w ≡ blocks_256 → block_size (kind_of w) ≡ 256
unfolding block_size
size_of_entry w kind = rw kind refl

pub not_external : (w : ℕ) → kind_of w ≡ blocks_256 → kind_of w ≢ external
not_external w kind e = let z : ◌≡◌ {A = ℕ} 2 0 = sym kind ∙ e in cc

-- the word of the node of a record
pub node_read : (image : Image) (entry word_read : ℕ) → word_read ≡ word image (Block (file_selector entry)) (place entry + 8) → word_read ≡ (entry_at image entry).rankings_node
unfolding entry_in
node_read image entry w read = read

-- what a word names by a test
pub named_is : (t : Bool) (w node : ℕ) → Some node ≡ (if t then Some w else None) → node ≡ w
named_is true w node e = cc
named_is false w node e = absurd (never e)
  where
    never : Some node ≡ None → ⊥
    never h = cc

pub none_named : (t : Bool) (w : ℕ) → None ≡ (if t then Some w else None) → t ≡ false
none_named true w e = absurd (never e)
  where
    never : None ≡ Some w → ⊥
    never h = cc
none_named false w e = refl
