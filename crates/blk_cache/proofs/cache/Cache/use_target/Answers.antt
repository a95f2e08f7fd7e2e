use Rattle.std.proofs.Common.{◌≡◌, None}
use Rattle.blk_io.proofs.Carried.{carried}
use Rattle.blk_object.proofs.DamageChecks.{handed, touch-checked}
use Rattle.blk_cache.proofs.SparseEmpty.{empty-does, empty-stops, target-listed}
use Rattle.blk_cache.proofs.cache.Cache.use_target.Goals as goal

pub returns-in_err-touch-clause-stops : goal.returns-in_err-touch-clause-stops
returns-in_err-touch-clause-stops g c handle offset names =
    empty-stops c.args.self.now (g.F.Folder.told c.args.folder.now) (g.F.Folder.told c.touch.new.f) c.args.moment handle offset c.args.target.now names c.touch.ensures.stops

pub returns-in_err-touch-clause-untold : goal.returns-in_err-touch-clause-untold
returns-in_err-touch-clause-untold g c handle offset names any =
    carried c.touch.result c.from_residual.result c.in_err-touch.field-0.0 (λ _. (g.F.Folder.told c.args.folder.now).files ≡ None) c.in_err-touch.was c.from_residual.ensures.1
    (c.touch.ensures.untold (target-listed c.args.self.now (g.F.Folder.told c.args.folder.now) (g.F.Folder.told c.args.folder.now) c.args.moment handle offset c.args.target.now names any))

pub returns-in_err-touch-clause-damaged : goal.returns-in_err-touch-clause-damaged
returns-in_err-touch-clause-damaged g c =
    handed c.touch.result c.from_residual.result c.in_err-touch.field-0.0 _ c.args.self.now.files (g.F.Folder.told c.touch.new.f)
    (touch-checked c.args.target.now.parent.node c.args.self.now.files (g.F.Folder.told c.args.folder.now) (g.F.Folder.told c.touch.new.f)) c.in_err-touch.was c.from_residual.ensures.1 c.touch.ensures.damaged

pub returns-clause-does : goal.returns-clause-does
returns-clause-does g c handle offset names =
    empty-does c.args.self.now (g.F.Folder.told c.args.folder.now) (g.F.Folder.told c.touch.new.f) c.args.moment handle offset c.args.target.now names (g.met.F.Folder.are_bytes c.args.folder.now) c.requires.is_open c.in_ok-touch.ensures.is_open c.in_ok-touch.ensures.steps

pub returns-clause-stops : goal.returns-clause-stops
returns-clause-stops g c handle offset names =
    empty-stops c.args.self.now (g.F.Folder.told c.args.folder.now) (g.F.Folder.told c.touch.new.f) c.args.moment handle offset c.args.target.now names c.in_ok-touch.ensures.stops
