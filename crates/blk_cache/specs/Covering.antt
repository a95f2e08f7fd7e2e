-- The parts in range of a command, which are pinned while it runs, as a cache is given them: their nodes and the sum of their costs.
use Rattle.std.specs.Prelude.{◌≡◌, ◌==◌, ℕ, ◌+◌, Bool, false, true, ◌||◌, List, []}
use Rattle.std.specs.List.{list_any}
use Rattle.std.specs.Option.{ForSome}
use Rattle.std.specs.declared.option.Option.{Option}
use Rattle.std.specs.declared.option.Option.TheVariants.{None, Some}
use Rattle.spec_image.specs.Image.{Image}
use Rattle.spec_image.specs.Told.{Told}
use Rattle.blk_model.specs.Items.{Item, same_item}
use Rattle.blk_model.specs.Room.{count_of, pinned, total_of}
use Rattle.blk_model.specs.State.{State}
use Rattle.spec_folder.specs.Layout.{Layout, is_listed}
use Rattle.blk_evict.specs.RoomLaws.{AreOfNamed}
use Rattle.blk_cache.specs.declared.cache.Cache.{Cache}
use Rattle.blk_cache.specs.declared.covered.Covered.{Covered}
use Rattle.blk_cache.specs.CacheKeeping.{HoldsState}

-- `node` is the given one, if there is one
abbrev pub is_node : Option ℕ → ℕ → Bool
is_node None node = false
is_node (Some other) node = other == node

-- `node` is that of a part in range
abbrev pub covers : Covered → ℕ → Bool
covers parts node = is_node parts.first node || is_node parts.second node

-- 1 where there is a node, else 0
abbrev pub one_if_some : Option ℕ → ℕ
one_if_some None = 0
one_if_some (Some node) = 1

-- how many parts are in range, of those that exist
abbrev pub count_in_range : Covered → ℕ
count_in_range parts = one_if_some parts.first + one_if_some parts.second

-- the items `covered` are parts of an object that a handle names, and a listed item is one of them exactly if its node is one of `parts`
pub record LieCovered (state : State) (layout : Layout) (covered : List Item) (parts : Covered) : Type 0 where
  pub of_named : AreOfNamed state covered
  pub nodes : (item : Item) → is_listed state item ≡ true → covers parts (layout.place item) ≡ list_any (same_item item) covered

-- the items `covered` lie at the nodes of `parts`, and pin exactly so many bytes and items more than the handles alone
pub record AreCovered (state : State) (layout : Layout) (covered : List Item) (parts : Covered) : Type 0 where
  pub lie : LieCovered state layout covered parts
  pub bytes : total_of (pinned state covered) ≡ total_of (pinned state []) + parts.bytes
  pub items : count_of (pinned state covered) ≡ count_of (pinned state []) + count_in_range parts

-- P holds of each state that the cache keeps, with the items in range that lie at the nodes of `parts`
abbrev pub ForCovered : Cache → Covered → Told → (State → List Item → Type 0) → Type 0
ForCovered cache parts told P = ForSome told.files (λ image. (state : State) (kept : HoldsState cache state image) (covered : List Item) → AreCovered state kept.layout covered parts → P state covered)

-- P holds of each state that the cache keeps on any image, with the items in range that lie at the nodes of `parts`
abbrev pub ForAnyCovered : Cache → Covered → (State → List Item → Type 0) → Type 0
ForAnyCovered cache parts P = (state : State) (image : Image) (kept : HoldsState cache state image) (covered : List Item) → AreCovered state kept.layout covered parts → P state covered

-- the cache keeps some state, in which some items in range lie at the nodes of `parts`
pub record KeepsCovered (cache : Cache) (parts : Covered) (image : Image) : Type 0 where
  pub state : State
  pub kept : HoldsState cache state image
  pub covered : List Item
  pub are : AreCovered state kept.layout covered parts

-- no part in range
abbrev pub none_in_range : Covered
none_in_range = record { first = None; second = None; bytes = 0 }

-- where no part is in range, `covered` is empty and nothing more is pinned
abbrev pub NoPartsAreCovered : Type 0
NoPartsAreCovered = (state : State) (layout : Layout) → AreCovered state layout [] none_in_range
