use Rattle.std.proofs.Common.{ℕ, ◌+◌, ◌*◌, Some, sym, subst}
use Rattle.spec_run.specs.Run.{turns}
use Rattle.blk_cache.specs.CacheKeeping.{KeepsState}
use Rattle.blk_run.specs.declared.scripts.Fixed.{Fixed}
use Rattle.blk_run.specs.Playing.{PlaysPart, SoFar, StandsAt, around}
use Rattle.blk_run.specs.Scripts.{commands_in, script_of}
use Rattle.blk_run.specs.Telling.{ReadsAs}
use Rattle.blk_run.proofs.scripts.play_turns.Goals as goal

pub returns-in-Commands-clause-played : goal.returns-in-Commands-clause-played
returns-in-Commands-clause-played g c =
    subst (λ (f : Fixed). ReadsAs (g.C.Clock.readings c.args.clock.now) (g.C.Clock.readings c.play_until_refused.new.clock) (λ early late. (far : SoFar) (left : ℕ) → StandsAt far (KeepsState c.args.cache.now) c.args.cache.now.notes (left + 2 * commands_in f) (g.F.Folder.told c.args.folder.now)
    → PlaysPart c.play_until_refused.result (turns (script_of f)) far (KeepsState c.play_until_refused.new.cache) c.play_until_refused.new.cache.notes left (around (g.F.Folder.told c.args.folder.now) (g.K.Sink.written c.args.out.now) (Some early) c.args.refused.now)
    (around (g.F.Folder.told c.play_until_refused.new.folder) (g.K.Sink.written c.play_until_refused.new.out) (Some late) c.play_until_refused.new.refused)))
    (sym c.in-Commands.is) c.play_until_refused.ensures.played
