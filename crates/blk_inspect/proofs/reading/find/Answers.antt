use Rattle.std.proofs.Common.{inl, inr, ◌∙◌}
use Rattle.std.proofs.lemmas.Result.{IfOk-weaker}
use Rattle.blk_lru.proofs.Conditions.{told_now}
use Rattle.blk_audit.proofs.Carrying.{converted, weaker}
use Rattle.blk_scan.proofs.FirstDamages.{first-behind, formed-of, length-checked, looked-as, looked-first}
use Rattle.blk_inspect.proofs.Found.{finished_shown, unfinished_shown}
use Rattle.blk_inspect.proofs.reading.find.Goals as goal

pub returns-in_err-look-clause-damaged : goal.returns-in_err-look-clause-damaged
returns-in_err-look-clause-damaged g c = converted c.look.result c.from_residual.result c.in_err-look.field-0.0 _ c.in_err-look.was c.from_residual.ensures.1 (looked-first c.look.result (g.F.Folder.told c.args.folder.now) c.look.ensures.looked)

pub returns-in-Unfinished-clause-found : goal.returns-in-Unfinished-clause-found
returns-in-Unfinished-clause-found g c image there = unfinished_shown c.args.question.now image (looked-as _ _ image c.in-Unfinished.is (c.in_ok-look.ensures.looked image there))

pub returns-in-Unfinished-clause-checked : goal.returns-in-Unfinished-clause-checked
returns-in-Unfinished-clause-checked g c image there = inl (looked-as _ _ image c.in-Unfinished.is (c.in_ok-look.ensures.looked image there))

pub returns-in-Finished-clause-found : goal.returns-in-Finished-clause-found
returns-in-Finished-clause-found g c =
    IfOk-weaker c.find_finished.result _ _
    (λ findings tells image there.
    let fin = looked-as _ _ image c.in-Finished.is (c.in_ok-look.ensures.looked image there) in
    finished_shown findings c.args.question.now image fin.finished (tells image (told_now image c.in_ok-look.ensures.reads.stays there) (length-checked image fin.undamaged))) c.find_finished.ensures.found

pub returns-in-Finished-clause-checked : goal.returns-in-Finished-clause-checked
returns-in-Finished-clause-checked g c =
    IfOk-weaker c.find_finished.result _ _
    (λ findings none image there.
    let fin = looked-as _ _ image c.in-Finished.is (c.in_ok-look.ensures.looked image there) in
    inr (formed-of image fin.undamaged (none image (told_now image c.in_ok-look.ensures.reads.stays there)))) c.find_finished.ensures.checked

pub returns-in-Finished-clause-damaged : goal.returns-in-Finished-clause-damaged
returns-in-Finished-clause-damaged g c =
    weaker c.find_finished.result _ _
    (λ damage first image there.
    let fin = looked-as _ _ image c.in-Finished.is (c.in_ok-look.ensures.looked image there) in
    record { finished = fin.finished; first = first-behind image fin.undamaged ∙ first image (told_now image c.in_ok-look.ensures.reads.stays there) (length-checked image fin.undamaged) }) c.find_finished.ensures.damaged
