-- Eviction units are evicted one after another, until a goal is met.
use Rattle.std.specs.Prelude.{◌≡◌, ℕ, Bool, List, [], ◌∷◌, ◌++◌, length, nat_le, sum_by, ◌+◌}
use Rattle.std.specs.Option.{ForSome}
use Rattle.std.specs.declared.option.Option.{Option}
use Rattle.spec_image.specs.Image.{Image}
use Rattle.spec_image.specs.Told.{Passes, Told}
use Rattle.blk_io.specs.Streams.{Appends}
use Rattle.blk_model.specs.Holding.{rest}
use Rattle.blk_model.specs.Room.{Group, evicted_until, fits, items_of_group, low, total, without}
use Rattle.blk_model.specs.State.{State}
use Rattle.spec_folder.specs.Layout.{Layout}
use Rattle.law_state.specs.Changes.{Finds}
use Rattle.blk_script.specs.Reply.{evicted_text}
use Rattle.blk_object.specs.RemovingObjects.{FindsEither}
use Rattle.blk_cache.specs.declared.cache.Cache.{Cache}
use Rattle.blk_cache.specs.declared.covered.Covered.{Covered}
use Rattle.blk_cache.specs.declared.goal.Goal.{Goal}
use Rattle.blk_cache.specs.declared.goal.Goal.TheVariants.{Bytes, Room}
use Rattle.blk_evict.specs.declared.list_places.Unpinned.{Unpinned}
use Rattle.blk_cache.specs.CacheKeeping.{HoldsState}
use Rattle.blk_cache.specs.Covering.{ForCovered}
use Rattle.blk_evict.specs.RoomLaws.{group_for}
use Rattle.blk_evict.specs.ListPlaces.{MayGoAt}
use Rattle.blk_evict.specs.RoomPrinting.{PrintsUnlessFailed}

-- the goal of an eviction is met: what is to be added fits below the low watermark, or no more than so many bytes are left
abbrev pub is_met : Goal → State → Bool
is_met (Room bytes items) state = fits (low state) bytes items state
is_met (Bytes most) state = nat_le (total state) most

-- how many items these eviction units have together
abbrev pub count_of_groups : List Group → ℕ
count_of_groups groups = sum_by (λ group. length (items_of_group group)) groups

-- while eviction units of a state are evicted one after another, recovery gives the durable contents without a prefix of them
pub record IsEvicting (groups : List Group) (state : State) (image : Image) : Type 0 where
  pub first : List Group
  pub others : List Group
  pub split : groups ≡ first ++ others
  pub finds : Finds (rest (without first state)) image

-- nothing of the cache but its items, the sum of their costs and its key buffer has changed
pub record OnlyItemsChange (old new : Cache) : Type 0 where
  pub limits : new.limits ≡ old.limits
  pub open_bytes : new.open_bytes ≡ old.open_bytes
  pub handles : new.handles ≡ old.handles
  pub files : new.files ≡ old.files
  pub mark : new.mark ≡ old.mark
  pub notes : new.notes ≡ old.notes

-- the cache keeps the state, by some layout in which each item has the node that it has in `layout`
pub record KeepsInPlaces (cache : Cache) (state : State) (layout : Layout) (image : Image) : Type 0 where
  pub kept : HoldsState cache state image
  pub places : kept.layout.place ≡ layout.place

-- P holds, with layout and eviction unit, wherever the cache keeps a state in which the item that was found may be evicted
abbrev pub ForEachThatMayGo : Cache → Unpinned → Image → (State → Layout → Group → Type 0) → Type 0
ForEachThatMayGo cache found image P = (state : State) (kept : HoldsState cache state image) (at : MayGoAt state kept.layout found) → P state kept.layout (group_for at.item at.front)

-- the cache keeps some state in which the item that was found may be evicted
pub record KeepsThatMayGo (cache : Cache) (found : Unpinned) (image : Image) : Type 0 where
  pub state : State
  pub kept : HoldsState cache state image
  pub at : MayGoAt state kept.layout found

-- What a call does that evicts: each of these takes what the call left first, and then the state before and the eviction units that are evicted.

-- the new cache keeps the state without the units
abbrev pub EvictedBy : (new : Cache) → (now : Told) → State → List Group → Type 0
EvictedBy new now state groups = ForSome now.files (HoldsState new (without groups state))

-- at each word of the steps that were made a prefix of the units is out
abbrev pub EvictingBy : (told now : Told) → State → List Group → Type 0
EvictingBy told now state groups = Passes told now (IsEvicting groups state)

-- the lines of the units were printed, unless the output failed
abbrev pub PrintedBy : {S : Type 0} → (failed_before failed : Bool) → (written : S → Option (List ℕ)) → (old new : S) → State → List Group → Type 0
PrintedBy failed_before failed written old new state groups = PrintsUnlessFailed failed_before failed (written old) (written new) (evicted_text groups)

-- a prefix of the lines of the units was printed
abbrev pub BegunBy : {S : Type 0} → (written : S → Option (List ℕ)) → (old new : S) → State → List Group → Type 0
BegunBy written old new state groups = Appends (written old) (written new) (evicted_text groups)

-- the new cache has as many items less as the units have
abbrev pub CountedBy : (old new : Cache) → State → List Group → Type 0
CountedBy old new state groups = old.items ≡ new.items + count_of_groups groups

-- at each word of the steps that were made recovery gives the durable contents with the units or without them
abbrev pub RemovingBy : (told now : Told) → State → List Group → Type 0
RemovingBy told now state groups = Passes told now (FindsEither state (without groups state))

-- the new cache keeps the state without the unit, and each item in its place
abbrev pub UnitEvictedBy : (new : Cache) → (now : Told) → (from : Image) → State → Layout → Group → Type 0
UnitEvictedBy new now from = λ state layout group. ForSome now.files (KeepsInPlaces new (without (group ∷ []) state) layout)

-- P, one of these, holds of the units that are evicted until the goal is met
abbrev pub ForGoal : Cache → Covered → Told → Goal → (State → List Group → Type 0) → Type 0
ForGoal cache parts told goal P = ForCovered cache parts told (λ state covered. P state (evicted_until (is_met goal) state covered))

-- P holds of the one unit that begins with the item that was found
abbrev pub ForUnit : Cache → Unpinned → Told → (State → List Group → Type 0) → Type 0
ForUnit cache found told P = ForSome told.files (λ from. ForEachThatMayGo cache found from (λ state layout group. P state (group ∷ [])))
