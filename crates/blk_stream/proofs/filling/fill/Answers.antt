use Rattle.std.proofs.Common.{◌≡◌, ℕ, refl, Option, None, ap, subst, arith}
use Rattle.std.specs.Prelude.{length, unwrap_or}
use Rattle.spec_image.proofs.Runs.{passes_end}
use Rattle.blk_io.proofs.Carried.{carried, if_damaged_weaker, silent_part, told_at_end}
use Rattle.blk_entry.specs.Keys.{IsInFile}
use Rattle.blk_stream.specs.Copying.{IsOldThere, ShareNoFile, old_spans}
use Rattle.blk_stream.proofs.Copies.{there_kept}
use Rattle.blk_stream.proofs.Fillings.{fill_done, new_passes, none_before, old_inside, old_passes, room_keeps, room_passes}
use Rattle.blk_stream.proofs.filling.fill.Goals as goal

pub returns-in_err-extend_data-clause-stops : goal.returns-in_err-extend_data-clause-stops
returns-in_err-extend_data-clause-stops g c from there = room_passes c.args.files.now (unwrap_or c.args.old.addr 0) c.args.addr c.args.old.size c.args.size c.args.offset c.args.bytes.now (old_inside c.args.files.now c.args.old c.requires.old) c.requires.inside c.requires.few c.room_start-start.result c.room_start-start.ensures from (g.F.Folder.told c.args.folder.now) (g.F.Folder.told c.extend_data.new.folder) there c.in_err-extend_data.ensures.prefix

pub returns-in_err-copy_old-clause-untold : goal.returns-in_err-copy_old-clause-untold
returns-in_err-copy_old-clause-untold g c there apart =
    carried c.copy_old.result c.from_residual-in_err-copy_old.result c.in_err-copy_old.field-0.0 (λ _. (g.F.Folder.told c.args.folder.now).files ≡ None) c.in_err-copy_old.was c.from_residual-in_err-copy_old.ensures.1
    (if_damaged_weaker c.copy_old.result _ _ (λ damage none. none_before c.in_ok-extend_data.ensures.steps none)
    (c.copy_old.ensures.untold
    (told_at_end (g.F.Folder.told c.args.folder.now).files (g.F.Folder.told c.extend_data.new.folder).files (IsOldThere c.args.old) (λ none. silent_part c.in_ok-extend_data.ensures.prefix none)
    (λ from here mid now v is.
    room_keeps c.args.files.now (unwrap_or c.args.old.addr 0) c.args.addr c.args.old.size c.args.size c.args.offset c.args.bytes.now (old_inside c.args.files.now c.args.old c.requires.old) c.requires.inside c.requires.few c.room_start-start.result c.room_start-start.ensures from (g.F.Folder.told c.args.folder.now) (g.F.Folder.told c.extend_data.new.folder) here v c.args.old.size (subst (λ (u : ℕ). ShareNoFile u c.args.addr) (ap (λ (o : Option ℕ). unwrap_or o 0) is) apart) c.in_ok-extend_data.ensures.steps (there from here v is) mid now))))

pub returns-in_err-copy_old-clause-stops : goal.returns-in_err-copy_old-clause-stops
returns-in_err-copy_old-clause-stops g c from there = old_passes c.args.files.now (unwrap_or c.args.old.addr 0) c.args.addr c.args.old.size c.args.size c.args.offset c.args.bytes.now (old_inside c.args.files.now c.args.old c.requires.old) c.requires.inside c.requires.few c.room_start-start.result c.room_start-start.ensures from (g.F.Folder.told c.args.folder.now) (g.F.Folder.told c.extend_data.new.folder) there (g.F.Folder.told c.copy_old.new.folder) c.in_ok-extend_data.ensures.steps c.in_err-copy_old.ensures.stops

pub write_some-requires-clause-external : goal.write_some-requires-clause-external
write_some-requires-clause-external g c =
    told_at_end (g.F.Folder.told c.extend_data.new.folder).files (g.F.Folder.told c.copy_old.new.folder).files (IsInFile c.args.addr c.args.offset (length c.args.bytes.now)) c.in_ok-copy_old.ensures.writes.silent
    (λ mid there two now kind.
    let h = there_kept (old_spans c.args.addr c.args.old.size c.args.size c.args.offset (length c.args.bytes.now)) mid two c.args.addr c.args.size (λ g. refl) (passes_end (c.in_ok-copy_old.ensures.stops mid there) two now) (c.in_ok-extend_data.ensures.external mid there) kind in
    omega (arith, h, c.requires.few))

pub returns-in_err-write_some-clause-stops : goal.returns-in_err-write_some-clause-stops
returns-in_err-write_some-clause-stops g c from there = new_passes c.args.files.now (unwrap_or c.args.old.addr 0) c.args.addr c.args.old.size c.args.size c.args.offset c.args.bytes.now (old_inside c.args.files.now c.args.old c.requires.old) c.requires.inside c.requires.few c.room_start-start.result c.room_start-start.ensures from (g.F.Folder.told c.args.folder.now) (g.F.Folder.told c.extend_data.new.folder) there (g.F.Folder.told c.copy_old.new.folder) c.in_ok-extend_data.ensures.steps c.in_ok-copy_old.ensures.stops (g.F.Folder.told c.write_some.new.folder) c.in_err-write_some.ensures.prefix

pub returns-clause-stops : goal.returns-clause-stops
returns-clause-stops g c from there = new_passes c.args.files.now (unwrap_or c.args.old.addr 0) c.args.addr c.args.old.size c.args.size c.args.offset c.args.bytes.now (old_inside c.args.files.now c.args.old c.requires.old) c.requires.inside c.requires.few c.room_start-start.result c.room_start-start.ensures from (g.F.Folder.told c.args.folder.now) (g.F.Folder.told c.extend_data.new.folder) there (g.F.Folder.told c.copy_old.new.folder) c.in_ok-extend_data.ensures.steps c.in_ok-copy_old.ensures.stops (g.F.Folder.told c.write_some.new.folder) c.in_ok-write_some.ensures.prefix

pub returns-clause-filled : goal.returns-clause-filled
returns-clause-filled g c from there apart empty =
    fill_done c.args.files.now (unwrap_or c.args.old.addr 0) c.args.addr c.args.old.size c.args.size c.args.offset c.args.bytes.now (old_inside c.args.files.now c.args.old c.requires.old) c.requires.inside c.requires.few c.room_start-start.result c.room_start-start.ensures from (g.F.Folder.told c.args.folder.now) (g.F.Folder.told c.extend_data.new.folder) there (g.F.Folder.told c.copy_old.new.folder) c.in_ok-extend_data.ensures.steps c.in_ok-copy_old.ensures.stops (g.F.Folder.told c.write_some.new.folder) (c.requires.agrees from there) empty apart (λ mid now. c.in_ok-copy_old.ensures.copied mid now apart) c.in_ok-write_some.ensures.steps
