-- The counters of the index, and how they change with the number of items and their costs.
use Rattle.std.specs.Prelude.{◌≡◌, ℕ, ◌+◌, ◌%◌, ◌^◌, ◌<◌, List, length}
use Rattle.spec_image.specs.Image.{Image, Index, byte}
use Rattle.blk_model.specs.State.{State}
use Rattle.spec_format.specs.Headers.{num_bytes64_of, num_entries_of, sizes_of}
use Rattle.spec_folder.specs.Layout.{Layout}
use Rattle.blk_object.specs.declared.counters.Counters.{Counters}
use Rattle.law_state.specs.CounterLaws.{AreCountersWritten, charged}
use Rattle.law_state.specs.Keeping.{CountsItems, Keeps, KeepsUncounted}

-- `counters` are the counters of the index: of items, of bytes, and the first word of `sizes`
pub record AreIndexCounters (counters : Counters) (image : Image) : Type 0 where
  pub entries : counters.entries ≡ num_entries_of (byte image Index)
  pub bytes : counters.bytes ≡ num_bytes64_of (byte image Index)
  pub size : counters.size ≡ sizes_of (byte image Index) 0

-- the counters of the index were lowered, each modulo its width: the two counters of items by one, and that of bytes by a cost
pub record AreCountedLess (charge : ℕ) (from image : Image) : Type 0 where
  pub entries : ℕ
  pub bytes : ℕ
  pub size : ℕ
  pub small : (entries < 2 ^ 32) × ((bytes < 2 ^ 64) × (size < 2 ^ 32))
  pub entries_less : (entries + 1) % 2 ^ 32 ≡ num_entries_of (byte from Index)
  pub bytes_less : (bytes + charge) % 2 ^ 64 ≡ num_bytes64_of (byte from Index)
  pub size_less : (size + 1) % 2 ^ 32 ≡ sizes_of (byte from Index) 0
  pub written : AreCountersWritten entries bytes size from image

-- the counters of the index were raised, each modulo its width: the two counters of items by `entries`, and that of bytes by a cost
abbrev pub AreCountedMore : (entries charge : ℕ) → (from image : Image) → Type 0
AreCountedMore entries charge from image =
    AreCountersWritten ((num_entries_of (byte from Index) + entries) % 2 ^ 32) ((num_bytes64_of (byte from Index) + charge) % 2 ^ 64) ((sizes_of (byte from Index) 0 + entries) % 2 ^ 32) from image

-- the counters of the index were written: those that were read, raised, each modulo its width, by one item and its cost
abbrev pub AreWrittenRaised : Counters → (charge : ℕ) → (from image : Image) → Type 0
AreWrittenRaised counters charge from image = AreCountersWritten ((counters.entries + 1) % 2 ^ 32) ((counters.bytes + charge) % 2 ^ 64) ((counters.size + 1) % 2 ^ 32) from image

-- state `after` lists one item less than `state`, and the costs of its items sum to `charge` less
pub record IsOneItemLess (state after : State) (layout now : Layout) (charge : ℕ) : Type 0 where
  pub items : length after.uses + 1 ≡ length state.uses
  pub bytes : charged after now + charge ≡ charged state layout

-- where the index counted `state`, a state with one item less of this cost is counted once its counters are lowered by it, if all else of that state is kept
-- already
abbrev pub LessIsCounted : Type 0
LessIsCounted = (state after : State) (layout now : Layout) (unlinked : List ℕ) (charge : ℕ) (from image : Image) → CountsItems from state layout → IsOneItemLess state after layout now charge → KeepsUncounted after now unlinked from
    → AreCountedLess charge from image → Keeps after now unlinked image

-- state `after` lists `entries` items more than `state`, and the costs of its items sum to `charge` more
pub record AreMoreItems (state after : State) (layout now : Layout) (entries charge : ℕ) : Type 0 where
  pub items : length after.uses ≡ length state.uses + entries
  pub bytes : charged after now ≡ charged state layout + charge

-- where the index counted `state`, a state with more items is counted once its counters are raised by them, if all else of that state is kept already
abbrev pub MoreIsCounted : Type 0
MoreIsCounted = (state after : State) (layout now : Layout) (unlinked : List ℕ) (entries charge : ℕ) (from image : Image) → CountsItems from state layout → AreMoreItems state after layout now entries charge → KeepsUncounted after now unlinked from
    → length after.uses < 2 ^ 32 → AreCountedMore entries charge from image → Keeps after now unlinked image
