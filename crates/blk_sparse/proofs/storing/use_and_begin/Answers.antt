use Rattle.std.proofs.Common.{◌≡◌, arith, None}
use Rattle.std.specs.Int.{cast_unsigned, w64}
use Rattle.std.proofs.lemmas.Int.{of_z-to_z}
use Rattle.std.proofs.lemmas.Result.{on_ok_weaker}
use Rattle.blk_io.proofs.Carried.{carried}
use Rattle.blk_sparse.proofs.StoredObjects.{begin-ends, begin-passes, begin-untold, sparse-ends, use-passes, use-untold}
use Rattle.blk_sparse.proofs.storing.use_and_begin.Goals as goal

pub returns-in_err-use_entry-clause-stops : goal.returns-in_err-use_entry-clause-stops
returns-in_err-use_entry-clause-stops g c from there state layout unlinked number object t =
    use-passes c.args.target.now (g.F.Folder.told c.args.folder.now) (g.F.Folder.told c.use_entry.new.folder) from there state layout unlinked number object t c.use_entry.ensures.stops

pub returns-in_err-use_entry-clause-untold : goal.returns-in_err-use_entry-clause-untold
returns-in_err-use_entry-clause-untold g c from there state layout unlinked number object t =
    carried c.use_entry.result c.from_residual.result c.in_err-use_entry.field-0.0 (λ _. (g.F.Folder.told c.args.folder.now).files ≡ None) c.in_err-use_entry.was c.from_residual.ensures.1
    (use-untold c.args.target.now (g.F.Folder.told c.args.folder.now) (g.F.Folder.told c.use_entry.new.folder) from there state layout unlinked number object t c.use_entry.result c.use_entry.ensures.untold)

pub returns-then-target-clause-begun : goal.returns-then-target-clause-begun
returns-then-target-clause-begun g c =
    on_ok_weaker c.begin.result
    (λ ends from there state layout unlinked number object t.
    begin-ends c.args.target.now (g.F.Folder.told c.args.folder.now) (g.F.Folder.told c.use_entry.new.folder) from there state layout unlinked number object t c.use_entry.ensures.stops c.in_ok-use_entry.ensures.used (g.F.Folder.told c.begin.new.f) c.if-target.true
    _ (of_z-to_z w64 (cast_unsigned w64 c.args.target.now.parent.signature) (let small = c.requires.signature in omega (arith, small))) ends)
    c.begin.ensures.begun

pub returns-then-target-clause-stops : goal.returns-then-target-clause-stops
returns-then-target-clause-stops g c from there state layout unlinked number object t =
    begin-passes c.args.target.now (g.F.Folder.told c.args.folder.now) (g.F.Folder.told c.use_entry.new.folder) from there state layout unlinked number object t c.use_entry.ensures.stops c.in_ok-use_entry.ensures.used (g.F.Folder.told c.begin.new.f) c.if-target.true c.begin.ensures.stops

pub returns-then-target-clause-untold : goal.returns-then-target-clause-untold
returns-then-target-clause-untold g c from there state layout unlinked number object t =
    begin-untold c.args.target.now (g.F.Folder.told c.args.folder.now) (g.F.Folder.told c.use_entry.new.folder) from there state layout unlinked number object t c.use_entry.ensures.stops c.in_ok-use_entry.ensures.used (g.F.Folder.told c.begin.new.f) c.if-target.true c.begin.result c.begin.ensures.untold

pub returns-clause-begun : goal.returns-clause-begun
returns-clause-begun g c from there state layout unlinked number object t =
    sparse-ends c.args.target.now (g.F.Folder.told c.args.folder.now) (g.F.Folder.told c.use_entry.new.folder) from there state layout unlinked number object t c.use_entry.ensures.stops c.in_ok-use_entry.ensures.used c.if-target.false

pub returns-clause-stops : goal.returns-clause-stops
returns-clause-stops g c from there state layout unlinked number object t =
    use-passes c.args.target.now (g.F.Folder.told c.args.folder.now) (g.F.Folder.told c.use_entry.new.folder) from there state layout unlinked number object t c.use_entry.ensures.stops
