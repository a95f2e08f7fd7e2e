-- Changes that leave the headers of the block files.
use Rattle.std.proofs.Common.{◌≡◌, ◌≢◌, ℕ, ◌+◌, ◌-◌, ◌*◌, ◌<◌, ◌≤◌, Bool, true, false, ◌&&◌, refl, ◌∙◌, ap, arith}
use Rattle.std.specs.Prelude.{nat_le, nat_lt}
use Rattle.std.proofs.lemmas.Bool.Decides.{nat_tests}
use Rattle.spec_image.specs.Bytes.{word_at}
use Rattle.spec_image.specs.Image.{File, Block, Image, byte, length_of, same_file}
use Rattle.spec_image.specs.Footprint.{Footprint, SameOutside, range, size_of}
use Rattle.spec_image.proofs.Words.{same-word_at}
use Rattle.spec_format.specs.Address.{place, block_place}
use Rattle.spec_format.specs.BlockFiles.{is_block_count, linked, files_along, next_file_in, max_entries_in}
use Rattle.spec_format.proofs.Keeping.{KeepsHead}

-- no byte of a header is in a footprint
pub record SparesHeaders (F : Footprint) : Type 0 where
  pub bytes : (n i : ℕ) → i < 8192 → F.bytes (Block n) i ≡ false

module _ (F : Footprint) (a b : Image) (spares : SparesHeaders F) (same : SameOutside F a b) where
  byte_same : (n i : ℕ) → i < 8192 → byte b (Block n) i ≡ byte a (Block n) i
  byte_same n i small = same.bytes (Block n) i (spares.bytes n i small)

  pub next_same : next_file_in b ≡ next_file_in a
  unfolding next_file_in
  next_same = λ j n. byte_same n 10 (omega arith) j + 256 * byte_same n 11 (omega arith) j

  pub blocks_same : (n : ℕ) → max_entries_in b n ≡ max_entries_in a n
  unfolding max_entries_in
  blocks_same n = λ j. byte_same n 20 (omega arith) j + 256 * byte_same n 21 (omega arith) j + 65536 * byte_same n 22 (omega arith) j + 16777216 * byte_same n 23 (omega arith) j

  pub linked_same : (kind : ℕ) → linked b kind ≡ linked a kind
  unfolding linked
  linked_same kind = ap (λ (next : ℕ → ℕ). files_along next 59 (kind - 1)) next_same

  word_still : (n i : ℕ) → i + 3 < 8192 → word_at (byte b (Block n)) i ≡ word_at (byte a (Block n)) i
  word_still n i small =
      same-word_at (byte b (Block n)) (byte a (Block n)) i (byte_same n i (omega arith)) (byte_same n (i + 1) (omega arith)) (byte_same n (i + 2) (omega arith)) (byte_same n (i + 3) small)

  pub heads_still : ((m : ℕ) → length_of a (Block m) ≤ length_of b (Block m)) → (m : ℕ) → KeepsHead a b m
  heads_still longer m = record {
    longer = longer m;
    magic = word_still m 0 (omega arith);
    is_version = word_still m 4 (omega arith);
    this_file = λ j. byte_same m 8 (omega arith) j + 256 * byte_same m 9 (omega arith) j;
    entry_size = word_still m 12 (omega arith);
    count = λ holds. ap is_block_count (blocks_same m) ∙ holds;
  }

-- the bytes of blocks lie past the headers
pub past_header : (w : ℕ) → 8192 ≤ place w
unfolding place block_place
past_header w = omega arith

pub blocks_spare : (file : File) (w at n : ℕ) → SparesHeaders (range file (place w + at) n)
blocks_spare file w at n = record { bytes = λ m i small. before (same_file file (Block m)) (place w + at) i (omega (arith, past_header w)) }
  where
    before : (t : Bool) (from i : ℕ) → i < from → (t && (nat_le from i && nat_lt i (from + n))) ≡ false
    before true from i below = grind (arith, nat_tests)
    before false from i below = refl

-- a file of another number
pub other_file : (n m : ℕ) → m ≢ n → same_file (Block n) (Block m) ≡ false
other_file n m differs = grind (arith, nat_tests)

pub sizes_spare : (file : File) → SparesHeaders (size_of file)
sizes_spare file = record { bytes = λ n i small. refl }
