-- A set of numbers as bytes: one bit for each number.
use Rattle.std.proofs.Common.{zero, suc}
use Rattle.std.specs.Prelude.{ℕ, ◌+◌, ◌*◌, ◌/◌, ◌%◌, List, Bool, ◌&&◌, slice_index, nat_le, nat_lt, ◌==◌, if◌then◌else◌}
use Rattle.std.specs.Int.{bit_at}

-- the number n is in the set: bit n % 8 of byte n / 8 is 1; numbers past the bytes aren't in it
unfoldable pub has_bit : List ℕ → ℕ → Bool
has_bit bytes n = bit_at (slice_index bytes (n / 8)) (n % 8) == 1

-- how many numbers below a limit are in the set
unfoldable pub bits_below : List ℕ → ℕ → ℕ
bits_below bytes zero = 0
bits_below bytes (suc limit) = bits_below bytes limit + (if has_bit bytes limit then 1 else 0)

-- the number is at least `first` and below `end`
abbrev pub is_between : ℕ → ℕ → ℕ → Bool
is_between first end n = nat_le first n && nat_lt n end

-- how many blocks of all 256 block files are in the set
unfoldable pub bits_of_files : List ℕ → ℕ
bits_of_files bytes = bits_below bytes (256 * 65536)
