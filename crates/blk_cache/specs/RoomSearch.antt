-- The invariant of the search for the last item that isn't pinned.
use Rattle.std.specs.Prelude.{ℕ, List}
use Rattle.std.specs.declared.option.Option.{Option}
use Rattle.spec_image.specs.Image.{Image}
use Rattle.blk_model.specs.Items.{Item}
use Rattle.blk_model.specs.State.{State}
use Rattle.blk_evict.specs.ListPlaces.{IsLast, IsPinnedFrom}
use Rattle.blk_evict.specs.declared.list_places.Unpinned.{Unpinned}
use Rattle.blk_cache.specs.declared.cache.Cache.{Cache}
use Rattle.blk_cache.specs.declared.covered.Covered.{Covered}
use Rattle.blk_cache.specs.CacheKeeping.{HoldsState}
use Rattle.blk_cache.specs.Covering.{LieCovered}

-- the cache keeps some state in which all items from the node `behind` on to the end of the LRU list are pinned (none yet where it is None), with the parts in
-- range pinned too
pub record KeepsPinnedFrom (cache : Cache) (parts : Covered) (behind : Option ℕ) (image : Image) : Type 0 where
  pub state : State
  pub kept : HoldsState cache state image
  pub covered : List Item
  pub lie : LieCovered state kept.layout covered parts
  pub pinned : IsPinnedFrom state kept.layout covered behind

-- in each state that the cache keeps, with these parts in range and all items from the node `behind` on pinned, the answer is the last item that isn't pinned
abbrev pub FindsLast : Cache → (parts : Covered) → (behind : Option ℕ) → (found : Option Unpinned) → Image → Type 0
FindsLast cache parts behind found image =
    (state : State) (kept : HoldsState cache state image) (covered : List Item)
    → LieCovered state kept.layout covered parts → IsPinnedFrom state kept.layout covered behind → IsLast state kept.layout covered found
