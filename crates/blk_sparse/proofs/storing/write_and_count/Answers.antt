use Rattle.std.proofs.Common.{◌≡◌, None}
use Rattle.std.specs.Int.{cast_unsigned, w64}
use Rattle.std.proofs.lemmas.Result.{on_ok_weaker}
use Rattle.blk_io.proofs.Carried.{carried}
use Rattle.blk_sparse.proofs.StoredObjects.{count-ends, count-passes, count-untold}
use Rattle.blk_sparse.proofs.storing.write_and_count.Goals as goal

pub returns-clause-counted : goal.returns-clause-counted
returns-clause-counted g c =
    on_ok_weaker c.count_items.result
    (λ more from there state layout unlinked number object can counted laid after.
    count-ends c.args.data.offset c.args.data.bytes.now (g.F.Folder.told c.args.folder.now) (g.F.Folder.told c.write.new.f) (g.F.Folder.told c.count_items.new.folder) from there state layout unlinked number object c.args.parent.now.node c.args.parent.now.entry (cast_unsigned w64 c.args.parent.now.signature) can
    (c.write.ensures.stops from there state layout unlinked number object can) (c.in_ok-write.ensures.written from there state layout unlinked number object can)
    c.count_items.ensures.stops c.args.more.entries c.args.more.charge more counted laid after)
    c.count_items.ensures.counted

pub returns-clause-stops : goal.returns-clause-stops
returns-clause-stops g c from there state layout unlinked number object can =
    count-passes c.args.data.offset c.args.data.bytes.now (g.F.Folder.told c.args.folder.now) (g.F.Folder.told c.write.new.f) (g.F.Folder.told c.count_items.new.folder) from there state layout unlinked number object c.args.parent.now.node c.args.parent.now.entry (cast_unsigned w64 c.args.parent.now.signature) can
    (c.write.ensures.stops from there state layout unlinked number object can) (c.in_ok-write.ensures.written from there state layout unlinked number object can) c.count_items.ensures.stops

pub returns-clause-untold : goal.returns-clause-untold
returns-clause-untold g c from there state layout unlinked number object can =
    count-untold c.args.data.offset c.args.data.bytes.now (g.F.Folder.told c.args.folder.now) (g.F.Folder.told c.write.new.f) (g.F.Folder.told c.count_items.new.folder) from there state layout unlinked number object c.args.parent.now.node c.args.parent.now.entry (cast_unsigned w64 c.args.parent.now.signature) can
    (c.write.ensures.stops from there state layout unlinked number object can) (c.in_ok-write.ensures.written from there state layout unlinked number object can) c.count_items.result c.count_items.ensures.untold

pub returns-in_err-write-clause-untold : goal.returns-in_err-write-clause-untold
returns-in_err-write-clause-untold g c from there state layout unlinked number object can =
    carried c.write.result c.from_residual.result c.in_err-write.field-0.0 (λ _. (g.F.Folder.told c.args.folder.now).files ≡ None) c.in_err-write.was c.from_residual.ensures.1
    (c.write.ensures.untold from there state layout unlinked number object can)
