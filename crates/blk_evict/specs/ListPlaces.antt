-- Places in the LRU list as a folder has it, and the last item that isn't pinned.
use Rattle.std.specs.Prelude.{◌≡◌, ℕ, List, ◌++◌, true}
use Rattle.std.specs.List.{AllByRecursion}
use Rattle.std.specs.declared.option.Option.{Option}
use Rattle.std.specs.declared.option.Option.TheVariants.{None, Some}
use Rattle.spec_image.specs.Image.{Image}
use Rattle.blk_model.specs.Items.{Item}
use Rattle.blk_model.specs.Room.{is_pinned}
use Rattle.blk_model.specs.State.{State}
use Rattle.spec_folder.specs.Layout.{Layout, nodes_of}
use Rattle.spec_folder.specs.ListImages.{HasListAtRest}
use Rattle.spec_folder.specs.Loads.{Loaded}
use Rattle.blk_lru.specs.Lists.{first_node_of, last_node_of}
use Rattle.blk_evict.specs.declared.list_places.Unpinned.{Unpinned}
use Rattle.blk_evict.specs.RoomLaws.{AreAllPinned, IsLastUnpinned, MayGo}
use Rattle.blk_disk.specs.declared.tables.BlockFiles.{BlockFiles}
use Rattle.blk_disk.specs.Tables.{Agrees}

-- the list is idle, and has the nodes `front` before the node `behind`, or before its end where that is None
pub record AreInPrefix (front : List ℕ) (behind : Option ℕ) (image : Image) : Type 0 where
  pub rest : List ℕ
  pub list : HasListAtRest (front ++ rest) image
  pub next : behind ≡ first_node_of rest

-- `node` is the last of the nodes of the list before the node `behind`, or None where there are none
abbrev pub IsNodeBefore : BlockFiles → (behind node : Option ℕ) → Image → Type 0
IsNodeBefore files behind node image = Agrees files image → (front : List ℕ) → AreInPrefix front behind image → node ≡ last_node_of front

-- `behind` is a node of the list, which is idle, or None for its end
abbrev pub IsPlaceInList : Option ℕ → Image → Type 0
IsPlaceInList behind image = (front : List ℕ) × AreInPrefix front behind image

-- all items from the node `behind` on to the end of the list are pinned, with the parts in range pinned too; None is the end of the list
pub record IsPinnedFrom (state : State) (layout : Layout) (covered : List Item) (behind : Option ℕ) : Type 0 where
  pub front : List Item
  pub rest : List Item
  pub listed : state.uses ≡ front ++ rest
  pub pinned : AllByRecursion (λ item. is_pinned state covered item ≡ true) rest
  pub next : behind ≡ first_node_of (nodes_of layout rest)

-- the item with this node and this record may be evicted
pub record MayGoAt (state : State) (layout : Layout) (found : Unpinned) : Type 0 where
  pub front : List Item
  pub item : Item
  pub rest : List Item
  pub goes : MayGo state front item rest
  pub node : found.node ≡ layout.place item
  pub loaded : Loaded
  pub here : layout.at (layout.place item) ≡ Some loaded
  pub entry : found.entry ≡ loaded.contents

-- the last item that isn't pinned, with the parts in range pinned too, has this node and this record; it may be evicted, and the node after it is given
pub record IsLastAt (state : State) (layout : Layout) (covered : List Item) (found : Unpinned) : Type 0 where
  pub goes : MayGoAt state layout found
  pub last : IsLastUnpinned state covered goes.front goes.item goes.rest
  pub next : found.behind ≡ first_node_of (nodes_of layout goes.rest)

-- the answer of a search for the last item that isn't pinned, or None where all are
abbrev pub IsLast : State → Layout → List Item → Option Unpinned → Type 0
IsLast state layout covered None = AreAllPinned state covered
IsLast state layout covered (Some found) = IsLastAt state layout covered found
