use Rattle.std.proofs.Common.{◌≡◌, None, refl, ap, arith}
use Rattle.std.specs.Prelude.{is_some}
use Rattle.blk_io.proofs.Carried.{carried}
use Rattle.blk_model.specs.Request.{to_flush}
use Rattle.blk_model.specs.declared.Refusal.TheVariants as refusal
use Rattle.law_state.proofs.Stopping.{nothing-stops, refusals-done}
use Rattle.blk_cache.specs.CacheKeeping.{HoldsState}
use Rattle.blk_cache.proofs.CloseSteps.{free-there}
use Rattle.blk_cache.proofs.DoomSteps.{bound-object}
use Rattle.blk_cache.proofs.FlushSteps.{flush-done, flush-idle, flush-refused, flush-stops, flush-unbound, flush-spares}
use Rattle.blk_cache.proofs.Refusing.{says-kept}
use Rattle.blk_cache.proofs.Sparing.{any-err}
use Rattle.blk_cache.proofs.cache.Cache.flush.Goals as goal

-- Refused.

pub returns-in_default-clause-does : goal.returns-in_default-clause-does
returns-in_default-clause-does g c moment =
    refusals-done (HoldsState c.args.self.now) (g.F.Folder.told c.args.folder.now) (g.F.Folder.told c.args.folder.now) moment (to_flush c.args.handle) refusal.BadHandle refl
    (λ image there state k. flush-unbound c.args.self.now state image k moment c.args.handle (free-there c.args.self.now.handles c.args.handle c.object.result c.object.ensures.object (ap is_some c.in_default.is)))

pub returns-in_default-clause-stops : goal.returns-in_default-clause-stops
returns-in_default-clause-stops g c moment = nothing-stops (HoldsState c.args.self.now) (says-kept c.args.self.now) (g.F.Folder.told c.args.folder.now) (g.F.Folder.told c.args.folder.now) moment (to_flush c.args.handle) refl

pub returns-then-object-clause-does : goal.returns-then-object-clause-does
returns-then-object-clause-does g c moment =
    refusals-done (HoldsState c.args.self.now) (g.F.Folder.told c.args.folder.now) (g.F.Folder.told c.args.folder.now) moment (to_flush c.args.handle) refusal.Doomed refl
    (λ image there state k. flush-refused c.args.self.now c.args.handle (omega (arith, c.ranges.handle.fits)) c.in-Some.object (bound-object c.args.self.now.handles c.args.handle c.object.result c.in-Some.object c.object.ensures.object c.in-Some.is) c.if-object.true moment state image k)

pub returns-then-object-clause-stops : goal.returns-then-object-clause-stops
returns-then-object-clause-stops g c moment = nothing-stops (HoldsState c.args.self.now) (says-kept c.args.self.now) (g.F.Folder.told c.args.folder.now) (g.F.Folder.told c.args.folder.now) moment (to_flush c.args.handle) refl

-- Clean.

pub returns-in_err-set_dirty-clause-stops : goal.returns-in_err-set_dirty-clause-stops
returns-in_err-set_dirty-clause-stops g c moment =
    flush-stops c.args.self.now c.args.handle (omega (arith, c.ranges.handle.fits)) c.in-Some.object (bound-object c.args.self.now.handles c.args.handle c.object.result c.in-Some.object c.object.ensures.object c.in-Some.is) c.if-object.false (g.F.Folder.told c.args.folder.now) (g.F.Folder.told c.set_dirty.new.folder) moment c.in_err-set_dirty.ensures.idle (λ e. cc) c.in_err-set_dirty.ensures.stops

pub returns-in_err-set_dirty-clause-idle : goal.returns-in_err-set_dirty-clause-idle
returns-in_err-set_dirty-clause-idle g c =
    flush-idle c.args.self.now c.args.handle (omega (arith, c.ranges.handle.fits)) c.in-Some.object (bound-object c.args.self.now.handles c.args.handle c.object.result c.in-Some.object c.object.ensures.object c.in-Some.is) (g.F.Folder.told c.args.folder.now) (g.F.Folder.told c.set_dirty.new.folder) c.in_err-set_dirty.ensures.idle (λ e. cc)

pub returns-in_err-set_dirty-clause-untold : goal.returns-in_err-set_dirty-clause-untold
returns-in_err-set_dirty-clause-untold g c any =
    carried c.set_dirty.result c.from_residual.result c.in_err-set_dirty.field-0.0 (λ _. (g.F.Folder.told c.args.folder.now).files ≡ None) c.in_err-set_dirty.was c.from_residual.ensures.1 (c.set_dirty.ensures.untold any)

pub returns-clause-does : goal.returns-clause-does
returns-clause-does g c moment =
    flush-done c.args.self.now c.args.handle (omega (arith, c.ranges.handle.fits)) c.in-Some.object (bound-object c.args.self.now.handles c.args.handle c.object.result c.in-Some.object c.object.ensures.object c.in-Some.is) c.if-object.false (g.F.Folder.told c.args.folder.now) (g.F.Folder.told c.set_dirty.new.folder) moment c.set_dirty.new.self c.in_ok-set_dirty.ensures.marked

pub returns-clause-stops : goal.returns-clause-stops
returns-clause-stops g c moment =
    flush-stops c.args.self.now c.args.handle (omega (arith, c.ranges.handle.fits)) c.in-Some.object (bound-object c.args.self.now.handles c.args.handle c.object.result c.in-Some.object c.object.ensures.object c.in-Some.is) c.if-object.false (g.F.Folder.told c.args.folder.now) (g.F.Folder.told c.set_dirty.new.folder) moment c.in_ok-set_dirty.ensures.idle (λ e. cc) c.in_ok-set_dirty.ensures.stops

pub returns-clause-idle : goal.returns-clause-idle
returns-clause-idle g c =
    flush-idle c.args.self.now c.args.handle (omega (arith, c.ranges.handle.fits)) c.in-Some.object (bound-object c.args.self.now.handles c.args.handle c.object.result c.in-Some.object c.object.ensures.object c.in-Some.is) (g.F.Folder.told c.args.folder.now) (g.F.Folder.told c.set_dirty.new.folder) c.in_ok-set_dirty.ensures.idle (λ e. cc)

pub returns-in_err-set_dirty-clause-spares : goal.returns-in_err-set_dirty-clause-spares
returns-in_err-set_dirty-clause-spares g c moment =
    any-err c.from_residual.result _
    (flush-spares c.args.self.now c.args.handle (omega (arith, c.ranges.handle.fits)) c.in-Some.object (bound-object c.args.self.now.handles c.args.handle c.object.result c.in-Some.object c.object.ensures.object c.in-Some.is) c.if-object.false
    (g.F.Folder.told c.args.folder.now) (g.F.Folder.told c.set_dirty.new.folder) moment)
