use Rattle.std.proofs.Common.{◌≡◌, ◌≤◌, List}
use Rattle.std.specs.Prelude.{IfSome, IsTrue}
use Rattle.std.specs.Option.{ForSome}
use Rattle.blk_model.specs.Items.{Item}
use Rattle.blk_model.specs.State.{State}
use Rattle.blk_disk.specs.Tables.{is_node_among}
use Rattle.blk_record.specs.declared.node.TheConstants.NodeView as NodeView
use Rattle.blk_object.specs.ListWalks.{HasPassedNodes}
use Rattle.blk_cache.specs.CacheKeeping.{HoldsState}
use Rattle.blk_cache.specs.Covering.{LieCovered}
use Rattle.blk_evict.specs.ListPlaces.{IsPinnedFrom}
use Rattle.blk_cache.proofs.RoomLast.{IsPinnedSoFar}
use Rattle.blk_cache.proofs.cache.Cache.last_unpinned.Given as goal

abbrev pub invariant-loop : goal.invariant-loop
invariant-loop g l = record {
  stands : IfSome l.behind (λ node. IsTrue (is_node_among l.self.files node));
  passed : ForSome (g.F.Folder.told l.fn.folder).files (HasPassedNodes l.fn.self.files NodeView.PREV l.fn.behind l.behind l.counter);
  told : g.F.Folder.told l.folder ≡ g.F.Folder.told l.fn.folder;
  later : g.F.Folder.faults l.fn.folder ≤ g.F.Folder.faults l.folder;
  pinned : ForSome (g.F.Folder.told l.fn.folder).files (λ image. (state : State) (kept : HoldsState l.fn.self state image) (covered : List Item) → LieCovered state kept.layout covered l.fn.parts → IsPinnedFrom state kept.layout covered l.fn.behind → IsPinnedSoFar state kept.layout covered l.behind l.counter);
}
