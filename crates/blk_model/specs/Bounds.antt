-- Which limits a cache may have.
use Rattle.std.specs.Prelude.{ℕ, ◌≤◌}
use Rattle.blk_model.specs.Sizes.{most_bytes, most_items}
use Rattle.blk_model.specs.declared.bounds.Limits.{Limits}
use Rattle.blk_model.specs.State.{Bounds}

-- a cache may have a limit of 1 to the most bytes, and one of 1 to the most items
abbrev pub AreAllowed : ℕ → ℕ → Type 0
AreAllowed max_bytes max_items = (1 ≤ max_bytes) × (max_bytes ≤ most_bytes) × (1 ≤ max_items) × (max_items ≤ most_items)

-- the limits that a cache was made with, as its states have them
abbrev pub bounds_of : Limits → Bounds
bounds_of limits = record { max_bytes = limits.max_bytes; max_items = limits.max_items }
