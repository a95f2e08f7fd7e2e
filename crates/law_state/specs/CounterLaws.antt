-- The counters of the index, which a command writes last.
use Rattle.std.specs.Prelude.{◌≡◌, ℕ, ◌^◌, ◌<◌, List, [], length, true}
use Rattle.std.specs.List.{sum_by}
use Rattle.blk_model.specs.State.{State}
use Rattle.spec_image.specs.Image.{Image}
use Rattle.spec_format.specs.BlockFiles.{is_among}
use Rattle.spec_format.specs.Headers.{counter_places, num_bytes64_place, num_entries_place, sizes_place}
use Rattle.spec_folder.specs.Found.{charge_of}
use Rattle.spec_folder.specs.Layout.{Layout, order}
use Rattle.spec_folder.specs.Tidy.{loaded_at}
use Rattle.law_folder.specs.IndexWrites.{IsIndexLong, IsIndexWord}
use Rattle.law_state.specs.Changes.{KeepsWith}
use Rattle.law_state.specs.Keeping.{CountsItems, Keeps, KeepsUncounted}

-- the write of a counter of the index, whatever it becomes, keeps each state but for the counters
abbrev pub CountersMayBeWritten : Type 0
CountersMayBeWritten = (from image : Image) (at x : ℕ) → is_among counter_places at ≡ true → IsIndexWord at x from image → KeepsWith [] [] from image

-- the sum of the costs of a state's items
abbrev pub charged : State → Layout → ℕ
charged state layout = sum_by charge_of (loaded_at layout (order state layout))

-- the sum of the costs of a kept state's items is a number of eight bytes: there are at most 131072 nodes, and what lies at each has a key and three streams
-- that are short enough
abbrev pub ChargesAreSmall : Type 0
ChargesAreSmall = (state : State) (layout : Layout) (unlinked : List ℕ) (image : Image) → KeepsUncounted state layout unlinked image → charged state layout < 2 ^ 64

-- the counters are written in their order: the number of the items, the two words of the sum, and the number of the nodes
pub record AreCountersWritten (items sum nodes : ℕ) (from image : Image) : Type 0 where
  pub first : Image
  pub second : Image
  pub items_written : IsIndexWord num_entries_place items from first
  pub sum_written : IsIndexLong num_bytes64_place sum first second
  pub nodes_written : IsIndexWord sizes_place nodes second image

-- a state that is kept but for the counters is kept with them once all four are written as it is to be counted; before that the index counted some state, by
-- the version that is made now
abbrev pub WrittenCountersCount : Type 0
WrittenCountersCount = (state before : State) (layout was : Layout) (unlinked : List ℕ) (from image : Image) → KeepsUncounted state layout unlinked from → CountsItems from before was
    → AreCountersWritten (length state.uses) (charged state layout) (length state.uses) from image → Keeps state layout unlinked image
