use Rattle.blk_run.specs.Telling.{ReadsAs}
use Rattle.std.proofs.Common.{◌≤◌, ◌≡◌, ◌+◌, ℕ, List, length, false, Some}
use Rattle.std.specs.Option.{ForSome}
use Rattle.blk_disk.specs.Open.{IsOpen}
use Rattle.blk_cache.specs.CacheKeeping.{KeepsState}
use Rattle.blk_run.specs.Playing.{around}
use Rattle.blk_run.specs.Pending.{HoldsLine, pending}
use Rattle.blk_run.proofs.BytesPlayed.{ArePlayed}
use Rattle.blk_io.specs.Streams.{GoesOn}
use Rattle.blk_run.proofs.playing.play_bytes.Given as goal

abbrev pub invariant-loop-end : goal.invariant-loop-end
invariant-loop-end g l = record {
  is_open : ForSome (g.F.Folder.told l.folder).files (IsOpen l.cache.files);
  played : ReadsAs (g.C.Clock.readings l.initial.clock) (g.C.Clock.readings l.clock) (λ early late. (before : List ℕ) → HoldsLine l.initial.lines.line before
      → ArePlayed before l.bytes l.rest l.lines.line l.initial.lines.played.lines l.lines.played.lines (KeepsState l.initial.cache) (KeepsState l.cache) (l.initial.cache.notes) (l.cache.notes)
      (around (g.F.Folder.told l.initial.folder) (g.K.Sink.written l.initial.out) (Some early) l.initial.lines.played.refused) (around (g.F.Folder.told l.folder) (g.K.Sink.written l.out) (Some late) l.lines.played.refused));
  lines : l.lines.played.lines + pending l.lines.line + length l.rest ≤ l.initial.lines.played.lines + pending l.initial.lines.line + length l.bytes;
  buffer : length l.buffer ≡ length l.initial.buffer;
  later : g.F.Folder.faults l.initial.folder ≤ g.F.Folder.faults l.folder;
  sink : GoesOn g.K.Sink.is g.K.Sink.faults l.initial.out l.out;
  handed : g.K.Sink.waiting l.initial.out ≡ false → g.K.Sink.waiting l.out ≡ false;
}

abbrev pub decreases-loop-end : goal.decreases-loop-end
decreases-loop-end g l = length l.rest
