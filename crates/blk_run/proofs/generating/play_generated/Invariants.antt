use Rattle.blk_run.specs.Telling.{ReadsAs}
use Rattle.std.proofs.Common.{◌≡◌, ◌≤◌, ◌+◌, ◌-◌, ◌*◌, ℕ, Bool, List, Option, length, Some}
use Rattle.std.specs.Option.{ForSome}
use Rattle.blk_disk.specs.Open.{IsOpen}
use Rattle.spec_run.specs.Run.{turns}
use Rattle.blk_gen.specs.Generator.{gen_script, turns_script}
use Rattle.blk_cache.specs.CacheKeeping.{KeepsState}
use Rattle.blk_run.specs.Fixed.{PlaysUpTo}
use Rattle.blk_run.specs.Generating.{AreWithin, unshown}
use Rattle.blk_run.specs.Playing.{SoFar, StandsAt}
use Rattle.blk_run.proofs.generating.play_generated.Given as goal

abbrev pub invariant-loop-number : goal.invariant-loop-number
invariant-loop-number g l = record {
  plays : ReadsAs (g.C.Clock.readings l.initial.clock) (g.C.Clock.readings l.clock) (λ early late. (written : Option (List ℕ)) (refused : Bool) (far : SoFar) (left : ℕ) → StandsAt far (KeepsState l.initial.cache) (l.initial.cache.notes) (left + 2 * (5 * l.count)) (g.F.Folder.told l.initial.folder)
      → (PlaysUpTo (turns (gen_script l.seed l.count)) (turns (turns_script (l.count - l.number) l.number l.draws.value l.counts)) far (KeepsState l.cache) (l.cache.notes) (left + 2 * (5 * (l.count - l.number)))
      (unshown (g.F.Folder.told l.initial.folder) written (Some early) refused) (unshown (g.F.Folder.told l.folder) written (Some late) refused)) × AreWithin (5 * l.number) l.counts);
  is_open : ForSome (g.F.Folder.told l.folder).files (IsOpen l.cache.files);
  buffer : length l.buffer ≡ 20000;
  later : g.F.Folder.faults l.initial.folder ≤ g.F.Folder.faults l.folder;
}
