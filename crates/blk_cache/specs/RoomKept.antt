-- The invariant of a cache once an eviction unit is out.
use Rattle.std.specs.Prelude.{◌≡◌, ℕ, ◌+◌, List, [], ◌∷◌, length, sum_by}
use Rattle.spec_image.specs.Image.{Image, Index, byte}
use Rattle.spec_format.specs.Headers.{this_id_of}
use Rattle.blk_model.specs.Items.{Item, main}
use Rattle.blk_model.specs.Room.{Group, items_of_group, without}
use Rattle.blk_model.specs.State.{State}
use Rattle.spec_folder.specs.Layout.{Layout}
use Rattle.spec_folder.specs.Removal.{is_of_another}
use Rattle.law_state.specs.GroupLaws.{gone_nodes, layout_less}
use Rattle.law_state.specs.Keeping.{Keeps}
use Rattle.law_state.specs.RemovalLaws.{layout_removed}
use Rattle.blk_disk.specs.Tables.{Agrees}
use Rattle.blk_cache.specs.declared.cache.Cache.{Cache}
use Rattle.blk_cache.specs.CacheKeeping.{HoldsState}
use Rattle.blk_evict.specs.RoomLaws.{MayGo, NamedObjectsStay, group_for, item_charge}

-- the cache counts `item_count` items less, and `charged` bytes less; its handles, its limits and its session's number are unchanged
pub record HasFewer (old new : Cache) (item_count charged : ℕ) : Type 0 where
  pub items_less : old.items ≡ new.items + item_count
  pub bytes_less : old.bytes ≡ new.bytes + charged
  pub limits : new.limits ≡ old.limits
  pub open_bytes : new.open_bytes ≡ old.open_bytes
  pub handles : new.handles ≡ old.handles
  pub mark : new.mark ≡ old.mark

-- the eviction unit is out: the folder keeps the state without it in the same session, and the cache counts its items and costs no longer
pub record IsEvicted (state : State) (group : Group) (layout left : Layout) (old new : Cache) (from image : Image) : Type 0 where
  pub kept : Keeps (without (group ∷ []) state) left [] image
  pub stay : NamedObjectsStay (without (group ∷ []) state) layout left
  pub fewer : HasFewer old new (length (items_of_group group)) (sum_by (item_charge state) (items_of_group group))
  pub files : Agrees new.files image
  pub session : this_id_of (byte image Index) ≡ this_id_of (byte from Index)

-- the cache keeps the state on the image, by this layout
pub record KeepsBy (cache : Cache) (state : State) (layout : Layout) (image : Image) : Type 0 where
  pub kept : HoldsState cache state image
  pub layout_is : kept.layout ≡ layout

-- once the eviction unit of an item that may be evicted is out, the cache keeps the state without it, by the layout that is left
abbrev pub EvictedStatesAreKept : Type 0
EvictedStatesAreKept =
    (state : State) (front : List Item) (item : Item) (behind : List Item) (left : Layout) (old new : Cache) (from image : Image) (k : HoldsState old state from)
    → MayGo state front item behind → IsEvicted state (group_for item front) k.layout left old new from image
    → KeepsBy new (without (group_for item front ∷ []) state) left image

-- where a single item is evicted, each object that a handle names has the node that it had
abbrev pub NamedObjectsLieApart : Type 0
NamedObjectsLieApart =
    (cache : Cache) (state : State) (image : Image) (front : List Item) (item : Item) (behind : List Item) (contents : ℕ) (k : HoldsState cache state image) → MayGo state front item behind
    → NamedObjectsStay (without (group_for item front ∷ []) state) k.layout (layout_removed k.layout (k.layout.place item) contents)

-- where an object that no handle names is evicted with its parts, each object that a handle names has the node that it had
abbrev pub WholeGroupsLieApart : Type 0
WholeGroupsLieApart =
    (cache : Cache) (state : State) (image : Image) (front : List Item) (key : List ℕ) (behind : List Item) (chains : ℕ → List ℕ) (k : HoldsState cache state image) → MayGo state front (main key) behind
    → NamedObjectsStay (without (group_for (main key) front ∷ []) state) k.layout (layout_less k.layout (gone_nodes state k.layout (is_of_another key)) chains)
