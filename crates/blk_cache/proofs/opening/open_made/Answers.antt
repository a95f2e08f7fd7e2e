use Rattle.std.proofs.Common.{inl, sym, ap, ◌∙◌}
use Rattle.std.proofs.lemmas.Result.{IfOk-weaker, on_ok_weaker}
use Rattle.spec_image.specs.Told.{Told}
use Rattle.blk_io.proofs.Carried.{if_damaged_weaker}
use Rattle.blk_repair.proofs.Endings.{either-stayed, ends-stayed}
use Rattle.blk_cache.proofs.CreationTimes.{made-needs}
use Rattle.blk_cache.proofs.OpenRuns.{empty-stands, load-untold, loading-damage, made-can, made-formed, stayed-mid, untold-on}
use Rattle.blk_cache.proofs.opening.open_made.Goals as goal

pub returns-in_err-files-clause-stops : goal.returns-in_err-files-clause-stops
returns-in_err-files-clause-stops g c from there made = inl (stayed-mid from there (made-formed from made) c.in_err-files.ensures.reads.stays)

pub returns-in_err-files-clause-damaged : goal.returns-in_err-files-clause-damaged
returns-in_err-files-clause-damaged g c =
    loading-damage c.from_residual.result c.in_err-files.field-0.0 (g.F.Folder.told c.args.folder.now) (g.F.Folder.told c.load.new.f) c.in_err-files.ensures.reads.stays c.from_residual.ensures.1 c.in_err-files.ensures.cause

pub returns-in_err-files-clause-untold : goal.returns-in_err-files-clause-untold
returns-in_err-files-clause-untold g c all =
    untold-on c.from_residual.result c.in_err-files.field-0.0 (g.F.Folder.told c.args.folder.now) (g.F.Folder.told c.args.folder.now) c.from_residual.ensures.1 (λ none. none)
    (load-untold c.in_err-files.field-0.0 (g.F.Folder.told c.args.folder.now) (λ i there. made-formed i (all i there)) c.in_err-files.ensures.loaded)

pub mend-requires-clause-stand : goal.mend-requires-clause-stand
mend-requires-clause-stand g c = empty-stands c.in_ok-files.files c.empty.result c.empty.ensures

pub mend-requires-clause-is_open : goal.mend-requires-clause-is_open
mend-requires-clause-is_open g c i here =
    let there = sym (ap (λ (t : Told). t.files) c.in_ok-files.ensures.reads.stays) ∙ here in
    record { agrees = (c.in_ok-files.ensures.loaded i there).0; whole_index = c.requires.complete i there }

pub returns-clause-opened : goal.returns-clause-opened
returns-clause-opened g c =
    IfOk-weaker c.mend.result _ _ (λ opened left from there made. left from (ap (λ (t : Told). t.files) c.in_ok-files.ensures.reads.stays ∙ there) (made-can c.empty.result from made c.empty.ensures)) c.mend.ensures.opened

pub returns-clause-stops : goal.returns-clause-stops
returns-clause-stops g c from there made =
    either-stayed c.in_ok-files.ensures.reads.stays (c.mend.ensures.stops from (ap (λ (t : Told). t.files) c.in_ok-files.ensures.reads.stays ∙ there) (made-can c.empty.result from made c.empty.ensures))

pub returns-clause-last : goal.returns-clause-last
returns-clause-last g c =
    on_ok_weaker c.mend.result
    (λ ends from there made. ends-stayed c.in_ok-files.ensures.reads.stays (ends from (ap (λ (t : Told). t.files) c.in_ok-files.ensures.reads.stays ∙ there) (made-can c.empty.result from made c.empty.ensures))) c.mend.ensures.last

pub returns-clause-untold : goal.returns-clause-untold
returns-clause-untold g c all =
    if_damaged_weaker c.mend.result _ _ (λ damage none. sym (ap (λ (t : Told). t.files) c.in_ok-files.ensures.reads.stays) ∙ none)
    (c.mend.ensures.untold (λ i here. made-can c.empty.result i (all i (sym (ap (λ (t : Told). t.files) c.in_ok-files.ensures.reads.stays) ∙ here)) c.empty.ensures))

pub returns-clause-made : goal.returns-clause-made
returns-clause-made g c =
    on_ok_weaker c.mend.result
    (λ kept from there made. kept from (ap (λ (t : Told). t.files) c.in_ok-files.ensures.reads.stays ∙ there) (made-can c.empty.result from made c.empty.ensures) (made-needs c.empty.result from made c.empty.ensures)) c.mend.ensures.made
