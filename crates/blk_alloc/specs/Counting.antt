-- The counters of a block file's header: how many allocations it has, and how many groups have a longest free run of 1 to 4 blocks.
use Rattle.std.specs.Prelude.{◌≡◌, ◌≢◌, ◌⊎◌, ℕ, ◌+◌, ◌-◌, ◌^◌, ◌<◌, ◌≤◌, Bool, true, false, ◌==◌, if◌then◌else◌, slice_index}
use Rattle.spec_format.specs.Headers.{allocations_of, allocations_place, empty_of, empty_place}
use Rattle.blk_io.specs.declared.folder.FileId.TheVariants as names
use Rattle.blk_io.specs.declared.fault.Damage.{Damage}
use Rattle.blk_alloc.specs.declared.counters.Counters.{Counters}

-- the largest 32-bit number
abbrev pub largest : ℕ
largest = 2 ^ 32 - 1

-- `counters` are the counters in a header with content f
pub record AreCounters (f : ℕ → ℕ) (counters : Counters) : Type 0 where
  pub allocations : counters.allocations ≡ allocations_of f
  pub empty : (i : ℕ) → i < 4 → slice_index counters.empty i ≡ empty_of f i

-- by how much a group whose longest free run is `run` increases word i of `empty`: 1 where the run is i + 1 blocks
abbrev pub counted : ℕ → ℕ → ℕ
counted run i = if run == i + 1 then 1 else 0

-- a counter of allocations goes up by one where blocks come into use, and down by one where they are freed
abbrev pub IsCounted : Bool → ℕ → ℕ → Type 0
IsCounted used old new = new + (if used then 0 else 1) ≡ old + (if used then 1 else 0)

-- the longest free run of one group changed from `before` to `later`, and one allocation was added or removed: how the counters change
pub record MovesRun (old new : Counters) (before later : ℕ) (used : Bool) : Type 0 where
  pub allocations : IsCounted used old.allocations new.allocations
  pub empty : (i : ℕ) → i < 4 → slice_index new.empty i + counted before i ≡ slice_index old.empty i + counted later i

-- the counters can follow a change of a group's longest free run from `before` to `later`, with one allocation more or less, and none leaves its range
pub record MayMoveRun (counters : Counters) (before later : ℕ) (used : Bool) : Type 0 where
  pub more : used ≡ true → counters.allocations < largest
  pub less : used ≡ false → 0 < counters.allocations
  pub enough : (i : ℕ) → i < 4 → counted before i ≤ slice_index counters.empty i
  pub room : (i : ℕ) → i < 4 → slice_index counters.empty i + counted later i ≤ largest

-- the word of `empty` that counts the groups with a longest free run of `run` blocks is `number`: the error has its offset and this word
pub record IsEmptyAt (counters : Counters) (run number : ℕ) (damage : Damage) : Type 0 where
  pub i : ℕ
  pub of_run : run ≡ i + 1
  pub at : damage.at ≡ empty_place i
  pub found : damage.found ≡ slice_index counters.empty i
  pub is : damage.found ≡ number

-- a counter can't follow a change: num_entries is at its end (the largest number where it is to rise, 0 where it is to fall); or the longest free run of the
-- group changes, and the word of `empty` for the old run is 0, or that for the new run is the largest number
pub record IsAtEnd (counters : Counters) (n before later : ℕ) (used : Bool) (damage : Damage) : Type 0 where
  pub of_file : damage.file ≡ names.Block n
  pub counter : ((damage.at ≡ allocations_place) × (damage.found ≡ counters.allocations) × (damage.found ≡ (if used then largest else 0)))
      ⊎ ((before ≢ later) × (IsEmptyAt counters before 0 damage ⊎ IsEmptyAt counters later largest damage))
