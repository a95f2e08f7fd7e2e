-- The header of a block file, read in parts.
use Rattle.std.proofs.Common.{◌≡◌, ℕ, ◌+◌, ◌*◌, ◌/◌, ◌%◌, ◌<◌, ◌≤◌, ap₂, arith}
use Rattle.std.specs.Prelude.{◌==◌}
use Rattle.std.specs.Int.{bit_at}
use Rattle.spec_image.specs.Bytes.{content, word_at, range_at}
use Rattle.spec_image.proofs.Words.{same-word, content-range}
use Rattle.spec_format.specs.SparseIndex.{map_bit}
use Rattle.blk_addr.specs.Bits.{has_bit}

-- a word of the fields
pub field_read : (f : ℕ → ℕ) (i : ℕ) → i + 4 ≤ 80 → word_at (content (range_at f 0 80)) i ≡ word_at f i
field_read f i small = same-word (content (range_at f 0 80)) f i (λ k low high. content-range 80 0 f k k (omega arith) (omega arith))

-- a bit of bytes of the map that were read
pub bit_read : (f : ℕ → ℕ) (at n b m : ℕ) → m < 8 * n → b ≡ 8 * at + m → has_bit (range_at f (80 + at) n) m ≡ map_bit f 80 b
unfolding has_bit
bit_read f at n b m small is =
    let byte : content (range_at f (80 + at) n) (m / 8) ≡ f (80 + b / 8) = content-range n (80 + at) f (m / 8) (80 + b / 8) (omega arith) (omega arith) in
    let bit : m % 8 ≡ b % 8 = omega arith in
    ap₂ (λ (x y : ℕ). bit_at x y == 1) byte bit
