use Rattle.std.proofs.Common.{inr, inl, sym, ap, ◌∙◌}
use Rattle.spec_image.specs.Told.{Told}
use Rattle.blk_repair.proofs.Endings.{either-stayed, ends-stayed}
use Rattle.blk_cache.specs.Opened.{IsOpeningDamage}
use Rattle.blk_cache.proofs.CarriedFaults.{damaged-on, if-memory, open-damaged-weaker, scan-damaged-on}
use Rattle.blk_cache.proofs.OpenRuns.{scanned-can, stayed-mid, untold-as}
use Rattle.blk_cache.proofs.opening.open_loaded.Goals as goal

pub returns-in_err-scan-clause-stops : goal.returns-in_err-scan-clause-stops
returns-in_err-scan-clause-stops g c from there well = inl (stayed-mid from there well c.in_err-scan.ensures.reads.stays)

pub returns-in_err-mend-clause-stops : goal.returns-in_err-mend-clause-stops
returns-in_err-mend-clause-stops g c from there well =
    either-stayed c.in_ok-scan.ensures.reads.stays
    (c.mend.ensures.stops from (ap (λ (t : Told). t.files) c.in_ok-scan.ensures.reads.stays ∙ there) (scanned-can c.args.files c.in_ok-scan.scan from well (c.requires.is_open from there) (c.in_ok-scan.ensures.scanned from there)))

pub returns-clause-stops : goal.returns-clause-stops
returns-clause-stops g c from there well =
    either-stayed c.in_ok-scan.ensures.reads.stays
    (c.mend.ensures.stops from (ap (λ (t : Told). t.files) c.in_ok-scan.ensures.reads.stays ∙ there) (scanned-can c.args.files c.in_ok-scan.scan from well (c.requires.is_open from there) (c.in_ok-scan.ensures.scanned from there)))

pub returns-clause-last : goal.returns-clause-last
returns-clause-last g c from there well =
    ends-stayed c.in_ok-scan.ensures.reads.stays
    (c.in_ok-mend.ensures.last from (ap (λ (t : Told). t.files) c.in_ok-scan.ensures.reads.stays ∙ there) (scanned-can c.args.files c.in_ok-scan.scan from well (c.requires.is_open from there) (c.in_ok-scan.ensures.scanned from there)))

pub returns-in_err-scan-clause-damaged : goal.returns-in_err-scan-clause-damaged
returns-in_err-scan-clause-damaged g c =
    open-damaged-weaker c.from_residual.result _ (IsOpeningDamage (g.F.Folder.told c.scan_files.new.folder)) (λ damage cause. inr (inr (record { files = c.args.files; cause = inl cause })))
    (scan-damaged-on c.from_residual.result c.in_err-scan.field-0.0 c.from_residual.ensures.1 _ c.in_err-scan.ensures.damaged)

pub returns-in_err-scan-clause-untold : goal.returns-in_err-scan-clause-untold
returns-in_err-scan-clause-untold g c well = scan-damaged-on c.from_residual.result c.in_err-scan.field-0.0 c.from_residual.ensures.1 _ (c.in_err-scan.ensures.untold c.requires.is_open)

pub returns-in_err-scan-clause-memory : goal.returns-in_err-scan-clause-memory
returns-in_err-scan-clause-memory g c = if-memory c.from_residual.result _ c.in_err-scan.ensures.reads.stays

pub mend-requires-clause-is_open : goal.mend-requires-clause-is_open
mend-requires-clause-is_open g c i here = c.requires.is_open i (sym (ap (λ (t : Told). t.files) c.in_ok-scan.ensures.reads.stays) ∙ here)

pub returns-in_err-mend-clause-untold : goal.returns-in_err-mend-clause-untold
returns-in_err-mend-clause-untold g c well =
    damaged-on c.from_residual-in_err-mend.result c.in_err-mend.field-0.0 c.from_residual-in_err-mend.ensures.1 _
    (untold-as c.in_err-mend.field-0.0 (g.F.Folder.told c.args.folder.now) (g.F.Folder.told c.scan_files.new.folder) c.in_ok-scan.ensures.reads.stays
    (c.in_err-mend.ensures.untold
    (λ i here.
    let there = sym (ap (λ (t : Told). t.files) c.in_ok-scan.ensures.reads.stays) ∙ here in
    scanned-can c.args.files c.in_ok-scan.scan i (well i there) (c.requires.is_open i there) (c.in_ok-scan.ensures.scanned i there))))

pub returns-clause-opened : goal.returns-clause-opened
returns-clause-opened g c from there well image here =
    c.in_ok-mend.ensures.opened from (ap (λ (t : Told). t.files) c.in_ok-scan.ensures.reads.stays ∙ there) (scanned-can c.args.files c.in_ok-scan.scan from well (c.requires.is_open from there) (c.in_ok-scan.ensures.scanned from there)) image here
