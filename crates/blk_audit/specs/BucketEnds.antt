-- The records of all buckets in one list, and where those of each bucket end.
use Rattle.std.specs.Prelude.{ℕ, zero, suc, ◌-◌, ◌<◌, ◌≤◌, ◌≡◌, List, length, take, drop, slice_index}
use Rattle.spec_format.specs.Headers.{table_length}

-- where the records of a bucket begin in the list of all, from the list of where those of each bucket end
abbrev pub begin_of : List ℕ → ℕ → ℕ
begin_of ends zero = 0
begin_of ends (suc before) = slice_index ends before

-- the records of a bucket, cut out of the list of all
abbrev pub records_of : (records ends : List ℕ) → ℕ → List ℕ
records_of records ends bucket = take (slice_index ends bucket - begin_of ends bucket) (drop (begin_of ends bucket) records)

-- the ends cut the list of records into one piece for each bucket, in the order of the buckets
pub record AreEnds (records ends : List ℕ) : Type 0 where
  pub many : length ends ≡ table_length
  pub rising : (bucket : ℕ) → bucket < table_length → begin_of ends bucket ≤ slice_index ends bucket
  pub inside : (bucket : ℕ) → bucket < table_length → slice_index ends bucket ≤ length records
