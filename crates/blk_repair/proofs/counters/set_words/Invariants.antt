use Rattle.std.proofs.Common.{drop, ◌≤◌}
use Rattle.std.specs.Option.{ForSome}
use Rattle.spec_image.specs.Bytes.{content}
use Rattle.spec_format.specs.Headers.{HasWholeIndex}
use Rattle.blk_repair.proofs.CounterRuns.{differing}
use Rattle.blk_repair.proofs.Progress.{Progress}
use Rattle.blk_repair.proofs.counters.set_words.Given as goal

abbrev pub invariant-loop-word : goal.invariant-loop-word
invariant-loop-word g l = record {
  progress : Progress (g.F.Folder.told l.fn.folder) (g.F.Folder.told l.folder) (λ _. differing (content l.head) l.words) (λ _. differing (content l.head) (drop l.word-index l.words));
  complete : ForSome (g.F.Folder.told l.folder).files HasWholeIndex;
  later : g.F.Folder.faults l.fn.folder ≤ g.F.Folder.faults l.folder;
}
