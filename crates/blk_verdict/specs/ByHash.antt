-- An index of a list by hashes: for each hash the last place with it, and from each place the one before with the same hash.
use Rattle.std.specs.Prelude.{ℕ, ◌≡◌, ◌≢◌, ◌<◌, List, length, slice_get, slice_index}
use Rattle.std.specs.BTreeMap.{get}
use Rattle.std.specs.Ordering.{nat_cmp}
use Rattle.std.specs.declared.option.Option.{Option}
use Rattle.std.specs.declared.option.Option.TheVariants.{None, Some}
use Rattle.blk_verdict.specs.declared.by_hash.ByHash.{ByHash}

-- `place` is the last place before `end` with this hash
pub record IsLastPlace (hashes : List ℕ) (hash end place : ℕ) : Type 0 where
  pub inside : place < end
  pub is : slice_index hashes place ≡ hash
  pub behind : (i : ℕ) → place < i → i < end → slice_index hashes i ≢ hash

-- the last place before `end` with this hash, or None where there is none
abbrev pub IsLastWithHash : List ℕ → ℕ → ℕ → Option ℕ → Type 0
IsLastWithHash hashes hash end None = (i : ℕ) → i < end → slice_index hashes i ≢ hash
IsLastWithHash hashes hash end (Some place) = IsLastPlace hashes hash end place

-- invariant of the index: it has the last place of each hash, and for each place the last one before it with the same hash
pub record IsByHash (places : ByHash) (hashes : List ℕ) : Type 0 where
  pub many : length places.befores.items ≡ length hashes
  pub last : (hash : ℕ) → IsLastWithHash hashes hash (length hashes) (get nat_cmp places.lasts hash)
  pub before : (i : ℕ) (before : Option ℕ) → slice_get places.befores.items i ≡ Some before → IsLastWithHash hashes (slice_index hashes i) i before
