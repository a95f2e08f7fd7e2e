-- How many allocations the block files of a kind have: so few that there is always space for more.
use Rattle.std.specs.Prelude.{◌≡◌, ◌≤◌, ◌+◌, ◌*◌, ℕ, List, length, true}
use Rattle.std.specs.List.{sum_by}
use Rattle.blk_model.specs.Room.{items}
use Rattle.blk_model.specs.Sizes.{most_items}
use Rattle.blk_model.specs.State.{State}
use Rattle.spec_image.specs.Image.{Block, Image, byte}
use Rattle.spec_format.specs.Address.{is_block_kind}
use Rattle.spec_format.specs.BlockFiles.{is_among, linked}
use Rattle.spec_format.specs.Headers.{allocations_of}
use Rattle.spec_format.specs.Maps.{HasAllocations}
use Rattle.spec_folder.specs.Layout.{Layout}
use Rattle.law_state.specs.Keeping.{KeepsUncounted}

-- the most address words of one kind of what lies at a node: its record or its node, its long key, and three streams
abbrev pub most_words : ℕ
most_words = 5

-- each file that is linked as a kind has its allocations, and all of them together are no more than this
pub record HaveFewAllocations (image : Image) (kind most : ℕ) : Type 0 where
  pub each : (n : ℕ) → is_among (linked image kind) n ≡ true → HasAllocations image n
  pub few : sum_by (λ n. allocations_of (byte image (Block n))) (linked image kind) ≤ most

-- the allocations of a kind are at most five for each item and doomed object, and one for each unlinked word
abbrev pub KeptAllocationsAreFew : Type 0
KeptAllocationsAreFew = (state : State) (layout : Layout) (unlinked : List ℕ) (image : Image) (kind : ℕ) → KeepsUncounted state layout unlinked image → is_block_kind kind ≡ true → HaveFewAllocations image kind (most_words * items state + length unlinked)

-- the allocations of a kind are no more than the 655362 that always leave space, while a command has so many items to add, and no more words are unlinked than
-- those of these items and two
abbrev pub KeptAllocationsLeaveRoom : Type 0
KeptAllocationsLeaveRoom =
    (state : State) (layout : Layout) (unlinked : List ℕ) (image : Image) (kind more : ℕ) → KeepsUncounted state layout unlinked image
    → is_block_kind kind ≡ true → items state + more ≤ most_items → length unlinked ≤ most_words * more + 2
    → HaveFewAllocations image kind (most_words * most_items + 2)
