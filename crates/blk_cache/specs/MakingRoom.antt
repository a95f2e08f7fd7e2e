-- The making of space for what a command adds.
use Rattle.std.specs.Prelude.{◌≡◌, ℕ, Bool, List, [], false, true}
use Rattle.spec_image.specs.Told.{Told}
use Rattle.blk_model.specs.Refusals.{evicted_for, is_full}
use Rattle.blk_model.specs.Items.{Item}
use Rattle.blk_model.specs.Room.{Group, room}
use Rattle.blk_model.specs.State.{State}
use Rattle.law_state.specs.Commands.{ForKept}
use Rattle.blk_cache.specs.declared.cache.Cache.{Cache}
use Rattle.blk_cache.specs.declared.covered.Covered.{Covered}
use Rattle.blk_cache.specs.CacheKeeping.{HoldsState}
use Rattle.blk_cache.specs.Covering.{ForCovered}
use Rattle.blk_cache.specs.declared.making_room.Room.{Room}
use Rattle.blk_cache.specs.declared.making_room.Room.TheVariants.{Full, Made}

-- the answer says that there is no space
abbrev pub says_full : Room → Bool
says_full Full = true
says_full Made = false

-- the answer says that there is no space for so many more bytes and items exactly if there is none
abbrev pub TellsFull : (bytes more : ℕ) → Room → State → List Item → Type 0
TellsFull bytes more answer state covered = says_full answer ≡ is_full (room state covered bytes more)

-- there is space for so many more bytes and items
abbrev pub HasSpace : (bytes more : ℕ) → State → List Item → Type 0
HasSpace bytes more state covered = is_full (room state covered bytes more) ≡ false

-- P holds of each state that the cache keeps in which there is space for so many more bytes and items, with the eviction units that are evicted for them
abbrev pub ForRoom : Cache → Covered → Told → (bytes more : ℕ) → (State → List Group → Type 0) → Type 0
ForRoom cache parts told bytes more P = ForCovered cache parts told (λ state covered. is_full (room state covered bytes more) ≡ false → P state (evicted_for (room state covered bytes more)))

-- P holds of the eviction units that are evicted for so many more bytes and items, in each state that the cache keeps
abbrev pub ForMaking : Cache → Told → (bytes more : ℕ) → (State → List Group → Type 0) → Type 0
ForMaking cache told bytes more P = ForKept (HoldsState cache) told (λ state. P state (evicted_for (room state [] bytes more)))

-- P holds of the eviction units that are evicted where the items in range at the nodes of `parts` stay
abbrev pub ForUnits : Cache → Covered → Told → (bytes more : ℕ) → (State → List Group → Type 0) → Type 0
ForUnits cache parts told bytes more P = ForCovered cache parts told (λ state covered. P state (evicted_for (room state covered bytes more)))
