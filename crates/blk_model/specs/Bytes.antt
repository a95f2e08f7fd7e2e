-- Lists of bytes, and lists of numbers.
use Rattle.std.specs.Prelude.{ℕ, zero, suc, ◌+◌, ◌-◌, List, [], ◌∷◌, ◌++◌, length, take, drop, replicate}

-- old with new written over it from a place on; a gap before the place is filled with zeros, and what comes after new stays
abbrev pub overwritten : List ℕ → ℕ → List ℕ → List ℕ
overwritten old place new = take place old ++ replicate (place - length old) 0 ++ new ++ drop (place + length new) old

-- the list old with new written over it from a place on, and cut after new; a gap before the place is filled with zeros
abbrev pub overwritten_and_cut : List ℕ → ℕ → List ℕ → List ℕ
overwritten_and_cut old place new = take place old ++ replicate (place - length old) 0 ++ new

-- the bytes from a place on, at most count of them
abbrev pub bytes_from : List ℕ → ℕ → ℕ → List ℕ
bytes_from bytes place count = take count (drop place bytes)

-- the count numbers from first on, rising
unfoldable pub numbers_from : ℕ → ℕ → List ℕ
numbers_from first zero = []
numbers_from first (suc count) = first ∷ numbers_from (first + 1) count
