use Rattle.std.proofs.Common.{◌≡◌, ◌<◌, None, arith}
use Rattle.std.proofs.lemmas.List.Elements.{All-from_get_or}
use Rattle.blk_io.proofs.Carried.{carried}
use Rattle.blk_cache.proofs.CreateEnds.{ready-does, ready-keeps, ready-stops}
use Rattle.blk_cache.proofs.cache.Cache.end_create.Goals as goal

pub returns-clause-does : goal.returns-clause-does
returns-clause-does g c =
    ready-does c.args.self.now c.args.handle c.args.key.now (omega (arith, c.ranges.handle.fits)) (All-from_get_or (λ b. b < 256) c.args.key.now 0 (λ i within. omega (arith, c.type_inv.key i)))
    (g.F.Folder.told c.args.folder.now) (g.F.Folder.told c.make_object.new.folder) c.args.moment c.make_object.new.self c.in_ok-make_object.ensures.made

pub returns-clause-stops : goal.returns-clause-stops
returns-clause-stops g c =
    ready-stops c.args.self.now c.args.handle c.args.key.now (omega (arith, c.ranges.handle.fits)) (All-from_get_or (λ b. b < 256) c.args.key.now 0 (λ i within. omega (arith, c.type_inv.key i)))
    (g.F.Folder.told c.args.folder.now) (g.F.Folder.told c.make_object.new.folder) c.args.moment c.make_object.ensures.stops

pub returns-in_err-make_object-clause-stops : goal.returns-in_err-make_object-clause-stops
returns-in_err-make_object-clause-stops g c =
    ready-stops c.args.self.now c.args.handle c.args.key.now (omega (arith, c.ranges.handle.fits)) (All-from_get_or (λ b. b < 256) c.args.key.now 0 (λ i within. omega (arith, c.type_inv.key i)))
    (g.F.Folder.told c.args.folder.now) (g.F.Folder.told c.make_object.new.folder) c.args.moment c.make_object.ensures.stops

pub returns-in_err-make_object-clause-untold : goal.returns-in_err-make_object-clause-untold
returns-in_err-make_object-clause-untold g c any =
    carried c.make_object.result c.from_residual.result c.in_err-make_object.field-0.0 (λ _. (g.F.Folder.told c.args.folder.now).files ≡ None) c.in_err-make_object.was c.from_residual.ensures.1
    (c.make_object.ensures.untold (λ from there. ready-keeps c.args.self.now c.args.handle c.args.key.now (omega (arith, c.ranges.handle.fits)) (All-from_get_or (λ b. b < 256) c.args.key.now 0 (λ i within. omega (arith, c.type_inv.key i))) from (any from there)))
