-- The ranges of a command's numbers and bytes, in the forms that proofs by recursion take.
use Rattle.std.proofs.Common.{ℕ, ◌<◌, ◌≤◌, List, [], ◌∷◌, arith}
use Rattle.std.specs.List.{AllByRecursion}
use Rattle.std.proofs.lemmas.List.Elements.{All-nil, All-cons, All-head, All-tail}
use Rattle.blk_model.specs.Request.{Request, IsRequest, to_create, to_open, to_read, to_write, to_size, to_sparse_write, to_sparse_read, to_sparse_range, to_doom, to_doom_key, to_close, to_flush, to_list, to_trim, to_total}
use Rattle.blk_model.specs.Items.{IsBytes}

-- each number is a byte
abbrev pub AreSmall : List ℕ → Type 0
AreSmall bytes = AllByRecursion (λ byte. byte < 256) bytes

pub small_from_bytes : (bytes : List ℕ) → IsBytes bytes → AreSmall bytes
small_from_bytes [] all = tt
small_from_bytes (byte ∷ bytes) all = (All-head (λ b. b < 256) byte bytes all, small_from_bytes bytes (All-tail (λ b. b < 256) byte bytes all))

pub bytes_from_small : (bytes : List ℕ) → AreSmall bytes → IsBytes bytes
bytes_from_small [] small = All-nil (λ b. b < 256)
bytes_from_small (byte ∷ bytes) small = All-cons (λ b. b < 256) byte bytes small.0 (bytes_from_small bytes small.1)

-- the ranges of a command
abbrev pub IsRanged : Request → Type 0
IsRanged (to_create handle key) = (handle ≤ 65535) × AreSmall key
IsRanged (to_open handle key) = (handle ≤ 65535) × AreSmall key
IsRanged (to_read handle stream offset count) = (handle ≤ 65535) × (stream ≤ 255) × (offset ≤ 18446744073709551615) × (count ≤ 18446744073709551615)
IsRanged (to_write handle stream offset cut bytes) = (handle ≤ 65535) × (stream ≤ 255) × (offset ≤ 18446744073709551615) × AreSmall bytes
IsRanged (to_size handle stream) = (handle ≤ 65535) × (stream ≤ 255)
IsRanged (to_sparse_write handle offset bytes) = (handle ≤ 65535) × (offset ≤ 18446744073709551615) × AreSmall bytes
IsRanged (to_sparse_read handle offset count) = (handle ≤ 65535) × (offset ≤ 18446744073709551615) × (count ≤ 18446744073709551615)
IsRanged (to_sparse_range handle offset count) = (handle ≤ 65535) × (offset ≤ 18446744073709551615) × (count ≤ 18446744073709551615)
IsRanged (to_doom handle) = handle ≤ 65535
IsRanged (to_doom_key key) = AreSmall key
IsRanged (to_close handle) = handle ≤ 65535
IsRanged (to_flush handle) = handle ≤ 65535
IsRanged to_list = Unit {0}
IsRanged (to_trim bytes) = bytes ≤ 18446744073709551615
IsRanged to_total = Unit {0}

pub ranged : (request : Request) → IsRequest request → IsRanged request
ranged (to_create handle key) is = (omega (arith, is.0), small_from_bytes key is.1)
ranged (to_open handle key) is = (omega (arith, is.0), small_from_bytes key is.1)
ranged (to_read handle stream offset count) is = (omega (arith, is.0), omega (arith, is.1), omega (arith, is.2), omega (arith, is.3))
ranged (to_write handle stream offset cut bytes) is = (omega (arith, is.0), omega (arith, is.1), omega (arith, is.2), small_from_bytes bytes is.3)
ranged (to_size handle stream) is = (omega (arith, is.0), omega (arith, is.1))
ranged (to_sparse_write handle offset bytes) is = (omega (arith, is.0), omega (arith, is.1), small_from_bytes bytes is.2)
ranged (to_sparse_read handle offset count) is = (omega (arith, is.0), omega (arith, is.1), omega (arith, is.2))
ranged (to_sparse_range handle offset count) is = (omega (arith, is.0), omega (arith, is.1), omega (arith, is.2))
ranged (to_doom handle) is = omega (arith, is)
ranged (to_doom_key key) is = small_from_bytes key is
ranged (to_close handle) is = omega (arith, is)
ranged (to_flush handle) is = omega (arith, is)
ranged to_list is = tt
ranged (to_trim bytes) is = omega (arith, is)
ranged to_total is = tt
