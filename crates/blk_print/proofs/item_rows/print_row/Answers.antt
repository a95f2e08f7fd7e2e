use Rattle.std.proofs.Common.{◌≡◌, ◌∙◌, None, Some, sym, ap, subst}
use Rattle.std.proofs.lemmas.Result.{on_ok_weaker}
use Rattle.spec_image.specs.Told.{Told}
use Rattle.blk_io.specs.Faults.{IfDamaged}
use Rattle.blk_io.proofs.Carried.{carried, if_damaged_weaker, untold_where}
use Rattle.spec_format.specs.Names.{read_name}
use Rattle.blk_object.proofs.DamageChecks.{handed, head-checked, moved, part-checked, whole-key, within-checked}
use Rattle.blk_object.proofs.OwnedPlaces.{loaded-checks}
use Rattle.blk_object.specs.FailedChecks.{WrongName}
use Rattle.blk_object.proofs.PartNames.{at-with, key-readable}
use Rattle.blk_print.proofs.ListedRecords.{told-by}
use Rattle.blk_print.proofs.item_rows.print_row.Goals as goal

pub returns-in_err-entry-clause-untold : goal.returns-in_err-entry-clause-untold
returns-in_err-entry-clause-untold g c agrees lies =
    carried c.entry_named.result c.from_residual.result c.in_err-entry.field-0.0 (λ _. (g.F.Folder.told c.args.folder.now).files ≡ None) c.in_err-entry.was c.from_residual.ensures.1
    (c.entry_named.ensures.untold agrees lies)

pub returns-in_err-head-clause-untold : goal.returns-in_err-head-clause-untold
returns-in_err-head-clause-untold g c agrees lies =
    let same = ap (λ (t : Told). t.files) c.in_ok-entry.ensures.reads.stays in
    subst (λ (t : Told). IfDamaged c.from_residual-in_err-head.result (λ _. t.files ≡ None)) c.in_ok-entry.ensures.reads.stays
    (carried c.read_head.result c.from_residual-in_err-head.result c.in_err-head.field-0.0 (λ _. (g.F.Folder.told c.entry_named.new.folder).files ≡ None) c.in_err-head.was c.from_residual-in_err-head.ensures.1
    (c.read_head.ensures.untold
    (λ image now. agrees image (sym same ∙ now))
    (λ image now.
    let there = sym same ∙ now in
    let at = lies image there in
    loaded-checks image c.in_ok-entry.entry at.0 (g.met.F.Folder.are_bytes c.args.folder.now image there) (at-with image c.args.node c.in_ok-entry.entry at.0 (c.in_ok-entry.ensures.entry image there) at.1))))

pub returns-in_err-len-clause-untold : goal.returns-in_err-len-clause-untold
returns-in_err-len-clause-untold g c agrees lies =
    let stays = c.in_ok-head.ensures.reads.stays ∙ c.in_ok-entry.ensures.reads.stays in
    let same = ap (λ (t : Told). t.files) stays in
    subst (λ (t : Told). IfDamaged c.from_residual-in_err-len.result (λ _. t.files ≡ None)) stays
    (carried c.key_piece.result c.from_residual-in_err-len.result c.in_err-len.field-0.0 (λ _. (g.F.Folder.told c.read_head.new.folder).files ≡ None) c.in_err-len.was c.from_residual-in_err-len.ensures.1
    (c.key_piece.ensures.untold (λ image now.
    let there = sym same ∙ now in
    let at = lies image there in
    let with_record = at-with image c.args.node c.in_ok-entry.entry at.0 (c.in_ok-entry.ensures.entry image there) at.1 in
    record {
      agrees = agrees image there;
      checks = loaded-checks image c.in_ok-entry.entry at.0 (g.met.F.Folder.are_bytes c.args.folder.now image there) with_record;
      key = key-readable image c.in_ok-entry.entry at.0 with_record;
    })))

pub returns-clause-printed : goal.returns-clause-printed
returns-clause-printed g c =
    on_ok_weaker c.say_row.result
    (λ printed image there loaded at. printed loaded
    (told-by image c.in_ok-entry.entry c.in_ok-head.head loaded c.args.name.now c.key_piece.new.out c.in_ok-len.len (c.in_ok-head.ensures.head image (ap (λ (t : Told). t.files) c.in_ok-entry.ensures.reads.stays ∙ there))
    (at-with image c.args.node c.in_ok-entry.entry loaded (c.in_ok-entry.ensures.entry image there) at) c.requires.buffer
    (c.in_ok-len.ensures.piece image (ap (λ (t : Told). t.files) (c.in_ok-head.ensures.reads.stays ∙ c.in_ok-entry.ensures.reads.stays) ∙ there))))
    c.say_row.ensures.printed

pub returns-clause-untold : goal.returns-clause-untold
returns-clause-untold g c agrees lies =
    if_damaged_weaker c.say_row.result _ (λ _. (g.F.Folder.told c.args.folder.now).files ≡ None)
    (λ damage never. untold_where (g.F.Folder.told c.args.folder.now).files (λ image there.
    let at = lies image there in
    never at.0
    (told-by image c.in_ok-entry.entry c.in_ok-head.head at.0 c.args.name.now c.key_piece.new.out c.in_ok-len.len (c.in_ok-head.ensures.head image (ap (λ (t : Told). t.files) c.in_ok-entry.ensures.reads.stays ∙ there))
    (at-with image c.args.node c.in_ok-entry.entry at.0 (c.in_ok-entry.ensures.entry image there) at.1) c.requires.buffer
    (c.in_ok-len.ensures.piece image (ap (λ (t : Told). t.files) (c.in_ok-head.ensures.reads.stays ∙ c.in_ok-entry.ensures.reads.stays) ∙ there)))))
    c.say_row.ensures.untold

pub returns-in_err-head-clause-damaged : goal.returns-in_err-head-clause-damaged
returns-in_err-head-clause-damaged g c =
    handed c.read_head.result c.from_residual-in_err-head.result c.in_err-head.field-0.0 _ c.args.files.now (g.F.Folder.told c.read_head.new.folder)
    (λ damage wrong. moved c.args.files.now (g.F.Folder.told c.entry_named.new.folder) (g.F.Folder.told c.read_head.new.folder) damage c.read_head.ensures.reads.stays (head-checked c.args.files.now (g.F.Folder.told c.entry_named.new.folder) c.in_ok-entry.entry damage c.in_ok-entry.ensures.kind c.in_ok-entry.ensures.stands wrong))
    c.in_err-head.was c.from_residual-in_err-head.ensures.1 c.read_head.ensures.damaged

pub returns-in_err-len-clause-damaged : goal.returns-in_err-len-clause-damaged
returns-in_err-len-clause-damaged g c =
    handed c.key_piece.result c.from_residual-in_err-len.result c.in_err-len.field-0.0 _ c.args.files.now (g.F.Folder.told c.key_piece.new.f)
    (λ damage wrong. moved c.args.files.now (g.F.Folder.told c.read_head.new.folder) (g.F.Folder.told c.key_piece.new.f) damage c.key_piece.ensures.reads.stays (part-checked c.args.files.now (g.F.Folder.told c.read_head.new.folder) c.in_ok-entry.entry _ _ damage c.in_ok-entry.ensures.kind c.in_ok-entry.ensures.stands wrong))
    c.in_err-len.was c.from_residual-in_err-len.ensures.1 c.key_piece.ensures.damaged

pub returns-clause-damaged : goal.returns-clause-damaged
returns-clause-damaged g c =
    if_damaged_weaker c.say_row.result _ _
    (λ damage d. within-checked c.args.files.now (g.F.Folder.told c.key_piece.new.f) c.in_ok-entry.entry damage c.in_ok-entry.ensures.kind c.in_ok-entry.ensures.stands (WrongName (record {
      of_word = d.0;
      unlike = λ image here.
          let now : (g.F.Folder.told c.read_head.new.folder).files ≡ Some image = ap (λ (t : Told). t.files) (sym c.in_ok-len.ensures.reads.stays) ∙ here in
          ap read_name (sym (whole-key c.args.files.now image c.in_ok-entry.entry c.args.name.now c.key_piece.new.out c.in_ok-len.len (c.in_ok-len.ensures.bytes image now) (c.in_ok-len.ensures.placed image now) c.requires.buffer)) ∙ d.1;
    })))
    c.say_row.ensures.damaged
