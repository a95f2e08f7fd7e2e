use Rattle.std.proofs.Common.{◌≡◌, None, refl, ◌∙◌, ap, arith, true, false}
use Rattle.std.specs.Prelude.{is_some}
use Rattle.blk_io.proofs.Carried.{carried}
use Rattle.blk_model.specs.Request.{to_doom}
use Rattle.blk_model.specs.declared.Refusal.TheVariants as refusal
use Rattle.blk_handles.specs.declared.open_object.OpenObject.{OpenObject}
use Rattle.blk_disk.specs.Tables.{is_node_among, is_record_among}
use Rattle.law_state.proofs.Stopping.{nothing-stops, refusals-done}
use Rattle.blk_cache.specs.CacheKeeping.{HoldsState}
use Rattle.blk_cache.specs.CommandClauses.{KeepsAny}
use Rattle.blk_cache.proofs.CloseSteps.{free-there}
use Rattle.blk_cache.proofs.DoomSteps.{bound-object, free-refused, given-done, given-lies, given-refused, given-stops, given-spares}
use Rattle.blk_cache.proofs.Evictions.{untold-where}
use Rattle.blk_cache.proofs.Refusing.{says-kept}
use Rattle.blk_cache.proofs.Sparing.{any-err}
use Rattle.blk_cache.proofs.cache.Cache.doom.Goals as goal

-- Refused.

pub returns-in_default-clause-does : goal.returns-in_default-clause-does
returns-in_default-clause-does g c moment =
    refusals-done (HoldsState c.args.self.now) (g.F.Folder.told c.args.folder.now) (g.F.Folder.told c.args.folder.now) moment (to_doom c.args.handle) refusal.BadHandle refl
    (λ image there state k. free-refused c.args.self.now state image k moment c.args.handle (free-there c.args.self.now.handles c.args.handle c.object.result c.object.ensures.object (ap is_some c.in_default.is)))

pub returns-in_default-clause-stops : goal.returns-in_default-clause-stops
returns-in_default-clause-stops g c moment = nothing-stops (HoldsState c.args.self.now) (says-kept c.args.self.now) (g.F.Folder.told c.args.folder.now) (g.F.Folder.told c.args.folder.now) moment (to_doom c.args.handle) refl

pub returns-then-object-clause-does : goal.returns-then-object-clause-does
returns-then-object-clause-does g c moment =
    refusals-done (HoldsState c.args.self.now) (g.F.Folder.told c.args.folder.now) (g.F.Folder.told c.args.folder.now) moment (to_doom c.args.handle) refusal.Doomed refl
    (λ image there state k. given-refused c.args.self.now c.args.handle (omega (arith, c.ranges.handle.fits)) c.in-Some.object (bound-object c.args.self.now.handles c.args.handle c.object.result c.in-Some.object c.object.ensures.object c.in-Some.is) c.if-object.true moment state image k)

pub returns-then-object-clause-stops : goal.returns-then-object-clause-stops
returns-then-object-clause-stops g c moment = nothing-stops (HoldsState c.args.self.now) (says-kept c.args.self.now) (g.F.Folder.told c.args.folder.now) (g.F.Folder.told c.args.folder.now) moment (to_doom c.args.handle) refl

-- Doomed.

pub doom_open-requires-clause-names : goal.doom_open-requires-clause-names
doom_open-requires-clause-names g c =
    let b = bound-object c.args.self.now.handles c.args.handle c.object.result c.in-Some.object c.object.ensures.object c.in-Some.is in
    ap (λ (o : OpenObject). is_record_among c.args.self.now.files o.entry) b.same ∙ (c.args.self.now.stand c.args.handle b.binding b.bound).1

pub doom_open-requires-clause-node : goal.doom_open-requires-clause-node
doom_open-requires-clause-node g c =
    let b = bound-object c.args.self.now.handles c.args.handle c.object.result c.in-Some.object c.object.ensures.object c.in-Some.is in
    ap (λ (o : OpenObject). is_node_among c.args.self.now.files o.node) b.same ∙ (c.args.self.now.stand c.args.handle b.binding b.bound).0

pub returns-in_err-doom_open-clause-stops : goal.returns-in_err-doom_open-clause-stops
returns-in_err-doom_open-clause-stops g c moment =
    given-stops c.args.self.now c.args.handle (omega (arith, c.ranges.handle.fits)) c.in-Some.object (bound-object c.args.self.now.handles c.args.handle c.object.result c.in-Some.object c.object.ensures.object c.in-Some.is) c.if-object.false (g.F.Folder.told c.args.folder.now) (g.F.Folder.told c.doom_open.new.folder) c.in_err-doom_open.ensures.stops moment

pub returns-in_err-doom_open-clause-untold : goal.returns-in_err-doom_open-clause-untold
returns-in_err-doom_open-clause-untold g c any =
    carried c.doom_open.result c.from_residual.result c.in_err-doom_open.field-0.0 (λ _. (g.F.Folder.told c.args.folder.now).files ≡ None) c.in_err-doom_open.was c.from_residual.ensures.1
    (untold-where c.doom_open.result (g.F.Folder.told c.args.folder.now) (KeepsAny c.args.self.now) any (λ image there one.
    given-lies c.args.self.now c.args.handle (omega (arith, c.ranges.handle.fits)) c.in-Some.object (bound-object c.args.self.now.handles c.args.handle c.object.result c.in-Some.object c.object.ensures.object c.in-Some.is) c.if-object.false _ image one.0 one.1 (c.doom_open.ensures.untold image there)))

pub returns-clause-does : goal.returns-clause-does
returns-clause-does g c moment =
    given-done c.args.self.now c.args.handle (omega (arith, c.ranges.handle.fits)) c.in-Some.object (bound-object c.args.self.now.handles c.args.handle c.object.result c.in-Some.object c.object.ensures.object c.in-Some.is) c.if-object.false (g.F.Folder.told c.args.folder.now) (g.F.Folder.told c.doom_open.new.folder) c.doom_open.new.self c.in_ok-doom_open.ensures.dooms moment

pub returns-clause-stops : goal.returns-clause-stops
returns-clause-stops g c moment =
    given-stops c.args.self.now c.args.handle (omega (arith, c.ranges.handle.fits)) c.in-Some.object (bound-object c.args.self.now.handles c.args.handle c.object.result c.in-Some.object c.object.ensures.object c.in-Some.is) c.if-object.false (g.F.Folder.told c.args.folder.now) (g.F.Folder.told c.doom_open.new.folder) c.in_ok-doom_open.ensures.stops moment

pub returns-in_err-doom_open-clause-spares : goal.returns-in_err-doom_open-clause-spares
returns-in_err-doom_open-clause-spares g c moment =
    any-err c.from_residual.result _
    (given-spares c.args.self.now c.args.handle (omega (arith, c.ranges.handle.fits)) c.in-Some.object (bound-object c.args.self.now.handles c.args.handle c.object.result c.in-Some.object c.object.ensures.object c.in-Some.is) c.if-object.false
    (g.F.Folder.told c.args.folder.now) (g.F.Folder.told c.doom_open.new.folder) moment)
