use Rattle.std.proofs.Common.{◌≡◌, ◌≤◌, ℕ, List, None, true}
use Rattle.std.specs.Prelude.{IfSome, IsTrue}
use Rattle.std.specs.Option.{ForSome}
use Rattle.blk_model.specs.Items.{Item}
use Rattle.blk_model.specs.State.{State}
use Rattle.blk_disk.specs.Open.{IsOpen}
use Rattle.blk_disk.specs.Tables.{is_node_among}
use Rattle.blk_cache.specs.CacheKeeping.{HoldsState}
use Rattle.blk_cache.specs.Covering.{AreCovered}
use Rattle.blk_cache.specs.Evicting.{OnlyItemsChange, is_met}
use Rattle.blk_evict.specs.RoomPrinting.{FailsWhereItRose}
use Rattle.blk_cache.proofs.Evictions.{HasEvicted}
use Rattle.blk_io.specs.Streams.{GoesOn}
use Rattle.blk_cache.proofs.cache.Cache.evict_groups.Given as goal

abbrev pub invariant-loop : goal.invariant-loop
invariant-loop g l = record {
  most : ◌≡◌ {A = ℕ} l.most l.fn.self.items;
  stands : IfSome l.behind (λ node. IsTrue (is_node_among l.self.files node));
  is_open : ForSome (g.F.Folder.told l.folder).files (IsOpen l.self.files);
  others : OnlyItemsChange l.fn.self l.self;
  silent : (g.F.Folder.told l.fn.folder).files ≡ None → (g.F.Folder.told l.folder).files ≡ None;
  later : g.F.Folder.faults l.fn.folder ≤ g.F.Folder.faults l.folder;
  sink_later : GoesOn g.K.Sink.is g.K.Sink.faults l.fn.out l.out;
  quiet : l.fn.failed ≡ true → (l.failed ≡ true) × (g.K.Sink.written l.out ≡ g.K.Sink.written l.fn.out);
  fails : FailsWhereItRose l.fn.failed l.failed (g.K.Sink.faults l.fn.out) (g.K.Sink.faults l.out);
  evicted : ForSome (g.F.Folder.told l.fn.folder).files (λ image. (state : State) (kept : HoldsState l.fn.self state image) (covered : List Item) → AreCovered state kept.layout covered l.fn.parts → HasEvicted (is_met l.fn.goal) state covered l.fn.parts l.fn.self l.self l.behind l.counter (g.F.Folder.told l.fn.folder) (g.F.Folder.told l.folder) l.fn.failed l.failed (g.K.Sink.written l.fn.out) (g.K.Sink.written l.out));
}
