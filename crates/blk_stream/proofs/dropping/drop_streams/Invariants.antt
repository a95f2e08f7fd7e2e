use Rattle.std.proofs.Common.{◌≤◌}
use Rattle.blk_stream.proofs.Dropped.{HasDropped}
use Rattle.blk_stream.proofs.dropping.drop_streams.Given as goal

abbrev pub invariant-loop-stream : goal.invariant-loop-stream
invariant-loop-stream g l = record {
  has : HasDropped (g.F.Folder.told l.initial.f) (g.F.Folder.told l.f) l.files l.entry l.stream l.bytes;
  later : g.F.Folder.faults l.initial.f ≤ g.F.Folder.faults l.f;
}
