use Rattle.std.proofs.Common.{drop, ◌≤◌}
use Rattle.std.specs.Option.{ForSome}
use Rattle.blk_disk.specs.Open.{IsOpen}
use Rattle.law_recovery.specs.ChainRepair.{next_words_steps}
use Rattle.blk_repair.proofs.Progress.{Progress}
use Rattle.blk_repair.proofs.chains.link.Given as goal

abbrev pub invariant-loop-i : goal.invariant-loop-i
invariant-loop-i g l = record {
  progress : Progress (g.F.Folder.told l.fn.folder) (g.F.Folder.told l.folder) (next_words_steps l.records) (next_words_steps (drop l.i l.records));
  is_open : ForSome (g.F.Folder.told l.folder).files (IsOpen l.files);
  later : g.F.Folder.faults l.fn.folder ≤ g.F.Folder.faults l.folder;
}
