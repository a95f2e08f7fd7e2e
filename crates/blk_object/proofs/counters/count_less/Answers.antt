use Rattle.std.proofs.Common.{sym, subst, ap, ◌∙◌}
use Rattle.std.specs.Option.{ForSome}
use Rattle.spec_image.specs.Told.{Told}
use Rattle.blk_disk.specs.Open.{IsOpen}
use Rattle.blk_object.proofs.CounterWords.{counted-less}
use Rattle.blk_object.proofs.DamageChecks.{handed}
use Rattle.blk_object.specs.FailedChecks.{FailsShort}
use Rattle.blk_object.proofs.counters.count_less.Goals as goal

pub returns-in_err-counters-clause-is_open : goal.returns-in_err-counters-clause-is_open
returns-in_err-counters-clause-is_open g c = subst (λ (t : Told). ForSome t.files (IsOpen c.args.files.now)) (sym c.in_err-counters.ensures.reads.stays) c.requires.is_open

pub set_counters-requires : goal.set_counters-requires
set_counters-requires g c = record { is_open = subst (λ (t : Told). ForSome t.files (IsOpen c.args.files.now)) (sym c.in_ok-counters.ensures.reads.stays) c.requires.is_open }

pub returns-clause-counted : goal.returns-clause-counted
returns-clause-counted g c from there image is =
    counted-less c.in_ok-counters.counters c.args.charge from image (c.in_ok-counters.ensures.read from there) (g.met.F.Folder.are_bytes c.args.folder.now from there) c.ranges.charge.fits
    (c.in_ok-set_counters.ensures.written from (ap (λ (t : Told). t.files) c.in_ok-counters.ensures.reads.stays ∙ there) image is)

pub returns-in_err-counters-clause-damaged : goal.returns-in_err-counters-clause-damaged
returns-in_err-counters-clause-damaged g c =
    handed c.read_counters.result c.from_residual.result c.in_err-counters.field-0.0 _ c.args.files.now (g.F.Folder.told c.read_counters.new.folder) (λ damage few. FailsShort few) c.in_err-counters.was c.from_residual.ensures.1 c.read_counters.ensures.damaged
