use Rattle.std.proofs.Common.{◌≡◌, None}
use Rattle.std.proofs.lemmas.Result.{on_ok_weaker}
use Rattle.blk_io.proofs.Carried.{carried}
use Rattle.blk_sparse.proofs.StoredObjects.{all-ends, all-stops, all-untold, to-begin}
use Rattle.blk_sparse.proofs.storing.store_sparse.Goals as goal

pub returns-in_err-use_and_begin-clause-stops : goal.returns-in_err-use_and_begin-clause-stops
returns-in_err-use_and_begin-clause-stops g c from there state layout number object can =
    c.use_and_begin.ensures.stops from there state layout _ number object (to-begin state layout number object c.args.target.now c.args.data.offset c.args.data.bytes.now c.args.more.entries c.args.more.charge from can)

pub returns-in_err-use_and_begin-clause-untold : goal.returns-in_err-use_and_begin-clause-untold
returns-in_err-use_and_begin-clause-untold g c from there state layout number object can =
    carried c.use_and_begin.result c.from_residual.result c.in_err-use_and_begin.field-0.0 (λ _. (g.F.Folder.told c.args.folder.now).files ≡ None) c.in_err-use_and_begin.was c.from_residual.ensures.1
    (c.use_and_begin.ensures.untold from there state layout _ number object (to-begin state layout number object c.args.target.now c.args.data.offset c.args.data.bytes.now c.args.more.entries c.args.more.charge from can))

pub returns-clause-stored : goal.returns-clause-stored
returns-clause-stored g c =
    on_ok_weaker c.write_and_count.result
    (λ ends from there state layout number object can.
    all-ends c.args.target.now c.args.data.offset c.args.data.bytes.now c.args.more.entries c.args.more.charge (g.F.Folder.told c.args.folder.now) (g.F.Folder.told c.use_and_begin.new.folder) (g.F.Folder.told c.write_and_count.new.folder) from there state layout number object can
    c.use_and_begin.ensures.stops c.in_ok-use_and_begin.ensures.begun ends)
    c.write_and_count.ensures.counted

pub returns-clause-stops : goal.returns-clause-stops
returns-clause-stops g c from there state layout number object can =
    all-stops c.args.target.now c.args.data.offset c.args.data.bytes.now c.args.more.entries c.args.more.charge (g.F.Folder.told c.args.folder.now) (g.F.Folder.told c.use_and_begin.new.folder) (g.F.Folder.told c.write_and_count.new.folder) from there state layout number object can
    c.use_and_begin.ensures.stops c.in_ok-use_and_begin.ensures.begun c.write_and_count.ensures.stops

pub returns-clause-untold : goal.returns-clause-untold
returns-clause-untold g c from there state layout number object can =
    all-untold c.args.target.now c.args.data.offset c.args.data.bytes.now c.args.more.entries c.args.more.charge (g.F.Folder.told c.args.folder.now) (g.F.Folder.told c.use_and_begin.new.folder) (g.F.Folder.told c.write_and_count.new.folder) from there state layout number object can
    c.use_and_begin.ensures.stops c.in_ok-use_and_begin.ensures.begun c.write_and_count.result c.write_and_count.ensures.untold
