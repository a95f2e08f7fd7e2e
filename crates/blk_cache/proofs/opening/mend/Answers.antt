use Rattle.std.proofs.Common.{inr, sym, ap, ◌∙◌}
use Rattle.spec_image.specs.Image.{Index, byte}
use Rattle.spec_image.specs.Told.{Told}
use Rattle.spec_format.specs.Headers.{this_id_of}
use Rattle.spec_format.specs.Session.{session_after}
use Rattle.blk_repair.proofs.Endings.{either-pass, ends-stay}
use Rattle.blk_repair.proofs.RepairRuns.{none-before, still-told}
use Rattle.blk_cache.specs.declared.opening.Opened.{Opened}
use Rattle.blk_cache.proofs.CreationTimes.{counted-moment}
use Rattle.blk_cache.proofs.OpenRuns.{mending-damage, opened-as, repaired-either, repaired-opens, untold-on}
use Rattle.blk_cache.proofs.opening.mend.Goals as goal

pub returns-in_err-repair-clause-damaged : goal.returns-in_err-repair-clause-damaged
returns-in_err-repair-clause-damaged g c = mending-damage c.from_residual.result c.in_err-repair.field-0.0 (g.F.Folder.told c.repair.new.f) c.repair.new.files c.from_residual.ensures.1 c.in_err-repair.ensures.damaged

pub returns-in_err-mark-clause-untold : goal.returns-in_err-mark-clause-untold
returns-in_err-mark-clause-untold g c all =
    untold-on c.from_residual-in_err-mark.result c.in_err-mark.field-0.0 (g.F.Folder.told c.args.folder.now) (g.F.Folder.told c.repair.new.f) c.from_residual-in_err-mark.ensures.1
    (none-before (g.F.Folder.told c.args.folder.now) (g.F.Folder.told c.repair.new.f) (λ from there. still-told from there (either-pass (c.repair.ensures.stops from there (all from there)))))
    (c.in_err-mark.ensures.untold (λ i here. let open_now = c.repair.ensures.is_open i here in open_now.whole_index))

pub returns-in_err-repair-clause-stops : goal.returns-in_err-repair-clause-stops
returns-in_err-repair-clause-stops g c from there can = repaired-either from can.well_formed (c.repair.ensures.stops from there can)

pub returns-in_err-mark-clause-stops : goal.returns-in_err-mark-clause-stops
returns-in_err-mark-clause-stops g c from there can = inr (ends-stay (repaired-opens from can.well_formed (c.in_ok-repair.ensures.last from there can)) c.in_err-mark.ensures.reads.stays)

pub returns-clause-stops : goal.returns-clause-stops
returns-clause-stops g c from there can = inr (ends-stay (repaired-opens from can.well_formed (c.in_ok-repair.ensures.last from there can)) c.in_ok-mark.ensures.reads.stays)

pub returns-clause-last : goal.returns-clause-last
returns-clause-last g c from there can = ends-stay (repaired-opens from can.well_formed (c.in_ok-repair.ensures.last from there can)) c.in_ok-mark.ensures.reads.stays

pub returns-clause-opened : goal.returns-clause-opened
returns-clause-opened g c from there can image here =
    let opened : Opened = record { files = c.repair.new.files; items = c.items.result; bytes = c.bytes.result; mark = c.in_ok-mark.mark } in
    let now = sym (ap (λ (t : Told). t.files) c.in_ok-mark.ensures.reads.stays) ∙ here in
    let open_now = c.repair.ensures.is_open image now in
    opened-as c.args.scan.now from image opened can (c.in_ok-repair.ensures.mended from there can image now) (g.met.F.Folder.are_bytes c.word.new.f image here) open_now.agrees c.items.ensures c.bytes.ensures (c.in_ok-mark.ensures.word image now)

pub returns-clause-made : goal.returns-clause-made
returns-clause-made g c from there can only image here = counted-moment from (session_after (this_id_of (byte from Index))) from there (c.in_ok-repair.ensures.clean from there can only) image (sym (ap (λ (t : Told). t.files) c.in_ok-mark.ensures.reads.stays) ∙ here)
