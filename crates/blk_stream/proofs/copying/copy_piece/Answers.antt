use Rattle.std.proofs.Common.{◌≡◌, ℕ, List, length, Some, sym, ◌∙◌, ap, subst}
use Rattle.std.specs.Option.{ForSome}
use Rattle.spec_image.specs.Told.{Told, Applies}
use Rattle.blk_disk.specs.Tables.{Agrees}
use Rattle.blk_io.specs.Faults.{IfDamaged}
use Rattle.blk_io.proofs.Carried.{carried}
use Rattle.blk_entry.specs.Keys.{IsCut, data_at}
use Rattle.blk_entry.specs.Steps.{data_steps}
use Rattle.blk_stream.proofs.copying.copy_piece.Goals as goal

pub returns-in_err-read_data-clause-agrees : goal.returns-in_err-read_data-clause-agrees
returns-in_err-read_data-clause-agrees g c = subst (λ (t : Told). ForSome t.files (Agrees c.args.files.now)) (sym c.in_err-read_data.ensures.reads.stays) c.requires.agrees

pub write_data-requires-clause-agrees : goal.write_data-requires-clause-agrees
write_data-requires-clause-agrees g c = subst (λ (t : Told). ForSome t.files (Agrees c.args.files.now)) (sym c.in_ok-read_data.ensures.reads.stays) c.requires.agrees

pub returns-clause-steps : goal.returns-clause-steps
returns-clause-steps g c from there =
    let now : (g.F.Folder.told c.read_data.new.folder).files ≡ Some from = ap (λ (t : Told). t.files) c.in_ok-read_data.ensures.reads.stays ∙ there in
    subst (λ (t : Told). Applies t (g.F.Folder.told c.write_data.new.folder) (data_steps c.args.to c.args.at (data_at from c.args.from c.args.at (length c.args.piece.now)))) c.in_ok-read_data.ensures.reads.stays
    (subst (λ (bytes : List ℕ). Applies (g.F.Folder.told c.read_data.new.folder) (g.F.Folder.told c.write_data.new.folder) (data_steps c.args.to c.args.at bytes)) (c.in_ok-read_data.ensures.bytes from there) c.in_ok-write_data.ensures.steps)

pub returns-in_err-read_data-clause-damaged : goal.returns-in_err-read_data-clause-damaged
returns-in_err-read_data-clause-damaged g c =
    carried c.read_data.result c.from_residual.result c.in_err-read_data.field-0.0 (IsCut (g.F.Folder.told c.read_data.new.folder) c.args.from c.args.at (length c.args.piece.now)) c.in_err-read_data.was c.from_residual.ensures.1
    (subst (λ (t : Told). IfDamaged c.read_data.result (IsCut t c.args.from c.args.at (length c.args.piece.now))) (sym c.in_err-read_data.ensures.reads.stays) c.read_data.ensures.short)
