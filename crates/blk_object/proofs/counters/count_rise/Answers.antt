use Rattle.std.proofs.Common.{sym, subst, ap, ◌∙◌}
use Rattle.std.specs.Option.{ForSome}
use Rattle.spec_image.specs.Told.{Told}
use Rattle.blk_disk.specs.Open.{IsOpen}
use Rattle.blk_object.proofs.DamageChecks.{handed, moved, short-checked}
use Rattle.blk_object.proofs.RisenCounters.{rise-counted}
use Rattle.blk_object.proofs.counters.count_rise.Goals as goal

pub returns-in_err-bytes-clause-is_open : goal.returns-in_err-bytes-clause-is_open
returns-in_err-bytes-clause-is_open g c = subst (λ (t : Told). ForSome t.files (IsOpen c.args.files.now)) (sym c.in_err-bytes.ensures.reads.stays) c.requires.is_open

pub set_bytes-requires : goal.set_bytes-requires
set_bytes-requires g c = record { is_open = subst (λ (t : Told). ForSome t.files (IsOpen c.args.files.now)) (sym c.in_ok-bytes.ensures.reads.stays) c.requires.is_open }

pub returns-clause-counted : goal.returns-clause-counted
returns-clause-counted g c from there image is =
    rise-counted c.in_ok-bytes.bytes c.rise-risen.result c.args.less c.args.more from image (c.in_ok-bytes.ensures.number from there) c.rise-risen.ensures.small c.rise-risen.ensures.risen
    (c.in_ok-set_bytes.ensures.written from (ap (λ (t : Told). t.files) c.in_ok-bytes.ensures.reads.stays ∙ there) image is)

pub returns-in_err-bytes-clause-damaged : goal.returns-in_err-bytes-clause-damaged
returns-in_err-bytes-clause-damaged g c =
    handed c.long.result c.from_residual.result c.in_err-bytes.field-0.0 _ c.args.files.now (g.F.Folder.told c.long.new.folder)
    (λ damage short. moved c.args.files.now (g.F.Folder.told c.args.folder.now) (g.F.Folder.told c.long.new.folder) damage c.long.ensures.reads.stays (short-checked c.args.files.now (g.F.Folder.told c.args.folder.now) _ _ _ damage short)) c.in_err-bytes.was c.from_residual.ensures.1 c.long.ensures.short
