use Rattle.std.proofs.Common.{rules, ◌≡◌, ◌∙◌, None, Some, sym, ap, subst, List, ℕ}
use Rattle.spec_image.specs.Told.{Told}
use Rattle.blk_io.specs.Faults.{IfDamaged}
use Rattle.blk_io.proofs.Carried.{carried}
use Rattle.spec_format.specs.Names.{read_name}
use Rattle.blk_object.specs.ListedParts.{number_said}
use Rattle.blk_object.proofs.OwnedPlaces.{loaded-checks}
use Rattle.blk_object.proofs.PartNames.{key-readable, not-a-part, part-read}
use Rattle.blk_object.proofs.DamageChecks.{handed, head-checked, moved, part-checked, said-by, whole-key}
use Rattle.blk_object.proofs.listed_parts.number_of.Goals as goal

pub returns-in_err-head-clause-untold : goal.returns-in_err-head-clause-untold
returns-in_err-head-clause-untold g c agrees lies =
    carried c.read_head.result c.from_residual.result c.in_err-head.field-0.0 (λ _. (g.F.Folder.told c.args.folder.now).files ≡ None) c.in_err-head.was c.from_residual.ensures.1
    (c.read_head.ensures.untold agrees (λ image there. loaded-checks image c.args.entry (lies image there).0 (g.met.F.Folder.are_bytes c.args.folder.now image there) (lies image there).1))

pub returns-then-head-ne-CHILD-clause-number : goal.returns-then-head-ne-CHILD-clause-number
returns-then-head-ne-CHILD-clause-number g c image there loaded lies = sym (not-a-part c.args.key.now image c.args.entry c.in_ok-head.head loaded (c.in_ok-head.ensures.head image there) lies (search rules))

pub returns-in_err-len-clause-untold : goal.returns-in_err-len-clause-untold
returns-in_err-len-clause-untold g c agrees lies =
    subst (λ (t : Told). IfDamaged c.from_residual-in_err-len.result (λ _. t.files ≡ None)) c.in_ok-head.ensures.reads.stays
    (carried c.key_piece.result c.from_residual-in_err-len.result c.in_err-len.field-0.0 (λ _. (g.F.Folder.told c.read_head.new.folder).files ≡ None) c.in_err-len.was c.from_residual-in_err-len.ensures.1
    (c.key_piece.ensures.untold (λ image now.
    let there : (g.F.Folder.told c.args.folder.now).files ≡ Some image = ap (λ (t : Told). t.files) (sym c.in_ok-head.ensures.reads.stays) ∙ now in
    record {
      agrees = agrees image there;
      checks = loaded-checks image c.args.entry (lies image there).0 (g.met.F.Folder.are_bytes c.args.folder.now image there) (lies image there).1;
      key = key-readable image c.args.entry (lies image there).0 (lies image there).1;
    })))

pub returns-clause-number : goal.returns-clause-number
returns-clause-number g c image there loaded lies =
    c.part_named.ensures.number
    ∙ part-read c.args.key.now image c.args.entry c.in_ok-head.head loaded c.args.buffer.now c.key_piece.new.out c.in_ok-len.len (c.in_ok-head.ensures.head image there) lies (search rules) c.requires.buffer
    (c.in_ok-len.ensures.piece image (ap (λ (t : Told). t.files) c.in_ok-head.ensures.reads.stays ∙ there))

pub returns-in_err-head-clause-damaged : goal.returns-in_err-head-clause-damaged
returns-in_err-head-clause-damaged g c =
    handed c.read_head.result c.from_residual.result c.in_err-head.field-0.0 _ c.args.files.now (g.F.Folder.told c.read_head.new.folder)
    (λ damage wrong. moved c.args.files.now (g.F.Folder.told c.args.folder.now) (g.F.Folder.told c.read_head.new.folder) damage c.read_head.ensures.reads.stays (head-checked c.args.files.now (g.F.Folder.told c.args.folder.now) c.args.entry damage c.requires.kind c.requires.stands wrong))
    c.in_err-head.was c.from_residual.ensures.1 c.read_head.ensures.damaged

pub returns-in_err-len-clause-damaged : goal.returns-in_err-len-clause-damaged
returns-in_err-len-clause-damaged g c =
    handed c.key_piece.result c.from_residual-in_err-len.result c.in_err-len.field-0.0 _ c.args.files.now (g.F.Folder.told c.key_piece.new.f)
    (λ damage wrong. moved c.args.files.now (g.F.Folder.told c.read_head.new.folder) (g.F.Folder.told c.key_piece.new.f) damage c.key_piece.ensures.reads.stays (part-checked c.args.files.now (g.F.Folder.told c.read_head.new.folder) c.args.entry _ _ damage c.requires.kind c.requires.stands wrong))
    c.in_err-len.was c.from_residual-in_err-len.ensures.1 c.key_piece.ensures.damaged

pub returns-clause-named : goal.returns-clause-named
returns-clause-named g c =
    said-by c.args.entry c.args.key.now c.part_named.result (g.F.Folder.told c.args.folder.now).files (λ image there.
    let now : (g.F.Folder.told c.read_head.new.folder).files ≡ Some image = ap (λ (t : Told). t.files) c.in_ok-head.ensures.reads.stays ∙ there in
    ap (λ (bytes : List ℕ). number_said c.args.key.now (read_name bytes)) (sym (whole-key c.args.files.now image c.args.entry c.args.buffer.now c.key_piece.new.out c.in_ok-len.len (c.in_ok-len.ensures.bytes image now) (c.in_ok-len.ensures.placed image now) c.requires.buffer))
    ∙ sym c.part_named.ensures.number)
