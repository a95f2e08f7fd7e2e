-- Where free blocks lie side by side inside one group, by a test that says which blocks are marked.
use Rattle.std.specs.Prelude.{◌≡◌, ℕ, ◌+◌, ◌%◌, ◌<◌, ◌≤◌, Bool, false, ◌&&◌, nat_le}
use Rattle.spec_format.specs.Maps.{group_size, are_free}

-- the `count` blocks from block b on lie inside one group, and all are free
unfoldable pub is_place : (ℕ → Bool) → ℕ → ℕ → Bool
is_place marked count b = nat_le (b % group_size + count) group_size && are_free marked b count

-- from no block between `low` and `end` (itself not counted) do `count` free blocks lie inside one group
abbrev pub AreNoPlaces : (ℕ → Bool) → ℕ → ℕ → ℕ → Type 0
AreNoPlaces marked count low end = (b : ℕ) → low ≤ b → b < end → is_place marked count b ≡ false
