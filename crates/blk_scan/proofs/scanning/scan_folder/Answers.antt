use Rattle.std.proofs.Common.{inl, inr, ◌∙◌}
use Rattle.std.proofs.lemmas.Result.{IfOk-weaker}
use Rattle.spec_format.proofs.Finished.{finished_whole}
use Rattle.blk_lru.proofs.Conditions.{told_now}
use Rattle.blk_audit.proofs.Carrying.{converted, weaker}
use Rattle.blk_scan.proofs.FirstDamages.{first-behind, formed-of, length-checked, looked-as, looked-first}
use Rattle.blk_scan.proofs.scanning.scan_folder.Given as given
use Rattle.blk_scan.proofs.scanning.scan_folder.Goals as goal

pub returns-in_err-look-clause-damaged : goal.returns-in_err-look-clause-damaged
returns-in_err-look-clause-damaged g c = converted c.look.result c.from_residual.result c.in_err-look.field-0.0 _ c.in_err-look.was c.from_residual.ensures.1 (looked-first c.look.result (g.F.Folder.told c.args.folder.now) c.look.ensures.looked)

pub returns-in-Unfinished-clause-scanned : goal.returns-in-Unfinished-clause-scanned
returns-in-Unfinished-clause-scanned g c image there well = absurd ((finished_whole image well).finished (looked-as _ _ image c.in-Unfinished.is (c.in_ok-look.ensures.looked image there)))

pub returns-in-Unfinished-clause-exact : goal.returns-in-Unfinished-clause-exact
returns-in-Unfinished-clause-exact g c image there well = absurd ((finished_whole image well).finished (looked-as _ _ image c.in-Unfinished.is (c.in_ok-look.ensures.looked image there)))

pub returns-in-Unfinished-clause-checked : goal.returns-in-Unfinished-clause-checked
returns-in-Unfinished-clause-checked g c image there = inl (looked-as _ _ image c.in-Unfinished.is (c.in_ok-look.ensures.looked image there))

pub returns-in-Finished-clause-scanned : goal.returns-in-Finished-clause-scanned
returns-in-Finished-clause-scanned g c = IfOk-weaker c.scan_finished.result _ _ (λ scan tells image there well. tells image (told_now image c.in_ok-look.ensures.reads.stays there)) c.scan_finished.ensures.scanned

pub returns-in-Finished-clause-exact : goal.returns-in-Finished-clause-exact
returns-in-Finished-clause-exact g c = IfOk-weaker c.scan_finished.result _ _ (λ scan tells image there well. tells image (told_now image c.in_ok-look.ensures.reads.stays there)) c.scan_finished.ensures.exact

pub returns-in-Finished-clause-empty : goal.returns-in-Finished-clause-empty
returns-in-Finished-clause-empty g c =
    IfOk-weaker c.scan_finished.result _ _
    (λ scan _ image there un. absurd ((looked-as _ _ image c.in-Finished.is (c.in_ok-look.ensures.looked image there)).finished un)) c.scan_finished.ensures.scanned

pub returns-in-Finished-clause-checked : goal.returns-in-Finished-clause-checked
returns-in-Finished-clause-checked g c =
    IfOk-weaker c.scan_finished.result _ _
    (λ scan none image there.
    let fin = looked-as _ _ image c.in-Finished.is (c.in_ok-look.ensures.looked image there) in
    inr (formed-of image fin.undamaged (none image (told_now image c.in_ok-look.ensures.reads.stays there)))) c.scan_finished.ensures.checked

pub returns-in-Finished-clause-damaged : goal.returns-in-Finished-clause-damaged
returns-in-Finished-clause-damaged g c =
    weaker c.scan_finished.result _ _
    (λ damage first image there.
    let fin = looked-as _ _ image c.in-Finished.is (c.in_ok-look.ensures.looked image there) in
    record { finished = fin.finished; first = first-behind image fin.undamaged ∙ first image (told_now image c.in_ok-look.ensures.reads.stays there) (length-checked image fin.undamaged) }) c.scan_finished.ensures.damaged
