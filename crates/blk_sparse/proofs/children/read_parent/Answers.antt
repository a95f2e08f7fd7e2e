use Rattle.std.proofs.Common.{◌≡◌, None, sym, subst}
use Rattle.std.specs.Option.{ForSome}
use Rattle.spec_image.specs.Told.{Told}
use Rattle.blk_io.specs.Faults.{IfDamaged}
use Rattle.blk_io.proofs.Carried.{carried}
use Rattle.blk_disk.specs.Tables.{Agrees}
use Rattle.blk_sparse.specs.Parents.{LoadsAsParent}
use Rattle.blk_sparse.proofs.PartsOut.{stays-there}
use Rattle.blk_sparse.proofs.children.read_parent.Goals as goal

pub returns-in_err-indexed-clause-untold : goal.returns-in_err-indexed-clause-untold
returns-in_err-indexed-clause-untold g c agrees has loads =
    let stays = c.in_ok-len.ensures.reads.stays in
    subst (λ (t : Told). IfDamaged c.from_residual-in_err-indexed.result (λ _. t.files ≡ None)) stays
    (carried c.read_index.result c.from_residual-in_err-indexed.result c.in_err-indexed.field-0.0 (λ _. (g.F.Folder.told c.read_key.new.folder).files ≡ None) c.in_err-indexed.was c.from_residual-in_err-indexed.ensures.1
    (c.read_index.ensures.untold (subst (λ (t : Told). ForSome t.files (Agrees c.args.files.now)) (sym stays) agrees) (subst (λ (t : Told). ForSome t.files (LoadsAsParent c.args.entry)) (sym stays) loads)))

pub returns-clause-none : goal.returns-clause-none
returns-clause-none g c image there = c.in_ok-indexed.ensures.none image (stays-there (g.F.Folder.told c.args.folder.now) (g.F.Folder.told c.read_key.new.folder) image there c.in_ok-len.ensures.reads.stays)
