use Rattle.blk_run.specs.Telling.{ReadsAs}
use Rattle.std.proofs.Common.{◌≤◌, ◌+◌, ◌*◌, ℕ, Some}
use Rattle.std.specs.Prelude.{is_some}
use Rattle.std.specs.List.{count_by}
use Rattle.std.specs.Option.{ForSome}
use Rattle.blk_model.specs.Sizes.{handle_names}
use Rattle.blk_disk.specs.Open.{IsOpen}
use Rattle.blk_cache.specs.CacheKeeping.{KeepsState}
use Rattle.blk_run.specs.Playing.{SoFar, StandsAt}
use Rattle.blk_run.proofs.ClosingAll.{AreClosedSoFar}
use Rattle.blk_run.proofs.closing.close_all.Given as goal

abbrev pub invariant-loop-cache : goal.invariant-loop-cache
invariant-loop-cache g l = record {
  is_open : ForSome (g.F.Folder.told l.folder).files (IsOpen l.cache.files);
  closed : ReadsAs (g.C.Clock.readings l.initial.clock) (g.C.Clock.readings l.clock) (λ early late. (far : SoFar) (left : ℕ) → StandsAt far (KeepsState l.initial.cache) (l.initial.cache.notes) (left + 2 * handle_names) (g.F.Folder.told l.initial.folder)
      → AreClosedSoFar far (KeepsState l.cache) (l.cache.notes) left (g.F.Folder.told l.folder) (Some early) (Some late));
  later : g.F.Folder.faults l.initial.folder ≤ g.F.Folder.faults l.folder;
}

abbrev pub decreases-loop-cache : goal.decreases-loop-cache
decreases-loop-cache g l = count_by is_some (l.cache.handles)
