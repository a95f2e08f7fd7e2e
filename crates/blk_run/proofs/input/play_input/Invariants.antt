use Rattle.blk_run.specs.Telling.{ReadsAs}
use Rattle.std.proofs.Common.{◌≤◌, ◌≡◌, ◌+◌, length, false, Some}
use Rattle.std.specs.Option.{ForSome}
use Rattle.blk_disk.specs.Open.{IsOpen}
use Rattle.blk_cache.specs.CacheKeeping.{KeepsState}
use Rattle.blk_run.specs.Playing.{around}
use Rattle.blk_run.specs.Pending.{pending}
use Rattle.blk_run.proofs.InputPlayed.{IsInputPlayed}
use Rattle.blk_io.specs.Streams.{GoesOn}
use Rattle.blk_run.proofs.input.play_input.Given as goal

abbrev pub invariant-loop-n : goal.invariant-loop-n
invariant-loop-n g l = record {
  is_open : ForSome (g.F.Folder.told l.folder).files (IsOpen l.cache.files);
  played : ReadsAs (g.C.Clock.readings l.initial.clock) (g.C.Clock.readings l.clock) (λ early late. ReadsAs (g.S.Source.left l.initial.input) (g.S.Source.left l.input) (λ bytes rest. IsInputPlayed l.initial.lines.budget l.left (Some bytes) (Some rest) l.lines.line l.lines.played.lines (KeepsState l.initial.cache) (KeepsState l.cache) (l.initial.cache.notes) (l.cache.notes)
      (around (g.F.Folder.told l.initial.folder) (g.K.Sink.written l.initial.out) (Some early) l.initial.lines.played.refused) (around (g.F.Folder.told l.folder) (g.K.Sink.written l.out) (Some late) l.lines.played.refused)));
  lines : l.lines.played.lines + pending l.lines.line + l.left ≤ l.initial.lines.budget;
  buffer : length l.buffer ≡ length l.initial.buffer;
  later : g.F.Folder.faults l.initial.folder ≤ g.F.Folder.faults l.folder;
  sink : GoesOn g.K.Sink.is g.K.Sink.faults l.initial.out l.out;
  handed : g.K.Sink.waiting l.initial.out ≡ false → g.K.Sink.waiting l.out ≡ false;
  source : g.S.Source.faults l.initial.input ≤ g.S.Source.faults l.input;
}

abbrev pub decreases-loop-n : goal.decreases-loop-n
decreases-loop-n g l = l.left
