-- What is pinned by handles alone, and how a cache decides from its counters whether there is space.
use Rattle.std.specs.Prelude.{◌≡◌, ℕ, ◌+◌, Bool, false, not, ◌&&◌, ◌||◌, ◌==◌, nat_lt, List, [], length, sum_by, if◌then◌else◌}
use Rattle.spec_image.specs.Image.{Image}
use Rattle.blk_model.specs.Bounds.{bounds_of}
use Rattle.blk_model.specs.Items.{Item}
use Rattle.blk_model.specs.Refusals.{evicted_for, is_full}
use Rattle.blk_model.specs.Room.{count_of, evicted_until, fits, items, low, own_charge, pinned, room, total_of}
use Rattle.blk_model.specs.State.{Bounds, IsValidState, State}
use Rattle.blk_handles.specs.Bindings.{open_count}
use Rattle.blk_cache.specs.declared.cache.Cache.{Cache}
use Rattle.blk_cache.specs.declared.covered.Covered.{Covered}
use Rattle.blk_cache.specs.CacheKeeping.{HoldsState, named_objects}
use Rattle.blk_cache.specs.Covering.{AreCovered, count_in_range}

-- where no part is in range, the pinned bytes and items are those of the objects that handles name, each as its main item
pub record ArePinned (state : State) : Type 0 where
  pub bytes : total_of (pinned state []) ≡ sum_by own_charge (named_objects state)
  pub items : count_of (pinned state []) ≡ length (named_objects state)

-- in each valid state, the bytes and items pinned by handles alone are those of the main items of named objects
abbrev pub NamedObjectsArePinned : Type 0
NamedObjectsArePinned = (state : State) → IsValidState state → ArePinned state

-- the open objects and what is added exceed a limit, of bytes or of items
abbrev pub is_over : Bounds → ℕ → ℕ → ℕ → ℕ → Bool
is_over limits open_bytes open_objects bytes more = nat_lt limits.max_bytes (open_bytes + bytes) || nat_lt limits.max_items (open_objects + more)

-- something is to be added, and by the counters of the cache the open objects, the parts in range and what is added exceed a limit
abbrev pub asks_too_much : Cache → Covered → (bytes more : ℕ) → Bool
asks_too_much cache parts bytes more =
    not (bytes == 0 && more == 0) && is_over (bounds_of cache.limits) (cache.open_bytes + parts.bytes) (open_count cache.handles + count_in_range parts) bytes more

-- where a cache keeps a state, its counters and the parts in range decide whether there is space for so many more bytes and items
abbrev pub RoomIsTold : Type 0
RoomIsTold = (cache : Cache) (state : State) (image : Image) (covered : List Item) (parts : Covered) (bytes more : ℕ) → (k : HoldsState cache state image) → AreCovered state k.layout covered parts
    → is_full (room state covered bytes more) ≡ asks_too_much cache parts bytes more

-- where there is space: nothing is evicted if nothing is added or it fits below the limits; else eviction units until what is added fits below the low
-- watermark
abbrev pub RoomIsMade : Type 0
RoomIsMade = (state : State) (covered : List Item) (bytes more : ℕ) → is_full (room state covered bytes more) ≡ false
    → evicted_for (room state covered bytes more) ≡ (if (bytes == 0 && more == 0) || fits state.limits.max_bytes bytes more state then [] else evicted_until (fits (low state) bytes more) state covered)
