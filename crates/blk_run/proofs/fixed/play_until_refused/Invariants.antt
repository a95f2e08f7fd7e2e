use Rattle.blk_run.specs.Telling.{ReadsAs}
use Rattle.blk_cache.specs.CacheKeeping.{KeepsState}
use Rattle.blk_disk.specs.Open.{IsOpen}
use Rattle.std.proofs.Common.{◌≡◌, ◌≤◌, ◌+◌, ◌-◌, ◌*◌, ℕ, length, drop, map, false, Some}
use Rattle.std.specs.Option.{ForSome}
use Rattle.blk_model.specs.Request.{request_of}
use Rattle.spec_run.specs.Script.{until_refused}
use Rattle.spec_run.specs.Run.{turns}
use Rattle.blk_run.specs.Fixed.{PlaysUpTo}
use Rattle.blk_run.specs.Playing.{SoFar, StandsAt, around}
use Rattle.blk_io.specs.Streams.{GoesOn}
use Rattle.blk_run.proofs.fixed.play_until_refused.Given as goal

abbrev pub invariant-loop-command : goal.invariant-loop-command
invariant-loop-command g l = record {
  plays : ReadsAs (g.C.Clock.readings l.initial.clock) (g.C.Clock.readings l.clock) (λ early late. (far : SoFar) (left : ℕ) → StandsAt far (KeepsState l.initial.cache) (l.initial.cache.notes) (left + 2 * length l.commands) (g.F.Folder.told l.initial.folder)
      → PlaysUpTo (turns (until_refused (map request_of l.commands))) (turns (until_refused (map request_of (drop l.command-index l.commands)))) far (KeepsState l.cache) (l.cache.notes) (left + 2 * (length l.commands - l.command-index))
      (around (g.F.Folder.told l.initial.folder) (g.K.Sink.written l.initial.out) (Some early) l.initial.refused) (around (g.F.Folder.told l.folder) (g.K.Sink.written l.out) (Some late) l.initial.refused));
  refused : l.refused ≡ l.initial.refused;
  is_open : ForSome (g.F.Folder.told l.folder).files (IsOpen l.cache.files);
  later : g.F.Folder.faults l.initial.folder ≤ g.F.Folder.faults l.folder;
  printed_later : GoesOn g.K.Sink.is g.K.Sink.faults l.initial.out l.out;
  handed : g.K.Sink.waiting l.initial.out ≡ false → g.K.Sink.waiting l.out ≡ false;
}
