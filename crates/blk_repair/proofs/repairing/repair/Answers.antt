use Rattle.std.proofs.Common.{ℕ, inl, refl, sym, ◌∙◌, ap, subst}
use Rattle.std.proofs.lemmas.Result.{on_ok_weaker}
use Rattle.std.specs.Option.{ForSome}
use Rattle.spec_image.specs.Told.{Told, Applies}
use Rattle.spec_image.proofs.Runs.{some_inj}
use Rattle.spec_format.specs.Session.{session_after}
use Rattle.blk_io.proofs.Carried.{if_damaged_weaker}
use Rattle.blk_disk.specs.Open.{IsOpen}
use Rattle.law_recovery.specs.MendedChanges.{IsMidRepair}
use Rattle.blk_repair.specs.Endings.{EndsOrBreaksOff, EndsWithCrashWord}
use Rattle.blk_repair.specs.Parts.{AppliesOf}
use Rattle.blk_repair.specs.Repair.{IsRepairable, IsRepairedFor, RepairsInOrder, counting_steps}
use Rattle.blk_repair.proofs.Endings.{breaks-none, either-stayed, ends-stayed}
use Rattle.blk_repair.proofs.repairing.repair.Goals as goal

pub returns-in_err-this_id-clause-is_open : goal.returns-in_err-this_id-clause-is_open
returns-in_err-this_id-clause-is_open g c = subst (λ (t : Told). ForSome t.files (IsOpen c.args.files.now)) (sym c.in_err-this_id.ensures.reads.stays) c.requires.is_open

pub mend_all-requires-clause-is_open : goal.mend_all-requires-clause-is_open
mend_all-requires-clause-is_open g c = subst (λ (t : Told). ForSome t.files (IsOpen c.args.files.now)) (sym c.in_ok-this_id.ensures.reads.stays) c.requires.is_open

pub returns-clause-mended : goal.returns-clause-mended
returns-clause-mended g c =
    on_ok_weaker c.mend_all.result
    (λ made from there is.
    subst (λ (id : ℕ). ForSome (g.F.Folder.told c.mend_all.new.folder).files (IsRepairedFor id from)) (c.next_id.ensures ∙ ap session_after (c.in_ok-this_id.ensures.word from there))
    (made from (ap (λ (t : Told). t.files) c.in_ok-this_id.ensures.reads.stays ∙ there) is)) c.mend_all.ensures.mended

pub returns-clause-untold : goal.returns-clause-untold
returns-clause-untold g c all =
    if_damaged_weaker c.mend_all.result _ _ (λ damage none. sym (ap (λ (t : Told). t.files) c.in_ok-this_id.ensures.reads.stays) ∙ none)
    (c.mend_all.ensures.untold (subst (λ (t : Told). ForSome t.files (IsRepairable c.args.scan.now)) (sym c.in_ok-this_id.ensures.reads.stays) all))

pub returns-clause-steps : goal.returns-clause-steps
returns-clause-steps g c =
    on_ok_weaker c.mend_all.result
    (λ made from there is.
    subst (λ (id : ℕ). AppliesOf (RepairsInOrder c.args.files.now c.args.scan.now from id) from (g.F.Folder.told c.args.f.now) (g.F.Folder.told c.mend_all.new.folder)) (c.next_id.ensures ∙ ap session_after (c.in_ok-this_id.ensures.word from there))
    (subst (λ (t : Told). AppliesOf (RepairsInOrder c.args.files.now c.args.scan.now from c.next_id.result) from t (g.F.Folder.told c.mend_all.new.folder)) c.in_ok-this_id.ensures.reads.stays (made from (ap (λ (t : Told). t.files) c.in_ok-this_id.ensures.reads.stays ∙ there) is)))
    c.mend_all.ensures.steps

pub returns-in_err-this_id-clause-stops : goal.returns-in_err-this_id-clause-stops
returns-in_err-this_id-clause-stops g c from there is = inl (breaks-none (IsMidRepair from) c.in_err-this_id.ensures.reads.stays (λ i here. subst (IsMidRepair from) (some_inj (sym there ∙ here)) (record { well_formed = is.well_formed; kept_same = refl; found_same = refl })))

pub returns-clause-stops : goal.returns-clause-stops
returns-clause-stops g c from there is =
    subst (λ (id : ℕ). EndsOrBreaksOff (g.F.Folder.told c.args.f.now) (g.F.Folder.told c.mend_all.new.folder) (IsMidRepair from) (IsRepairedFor id from)) (c.next_id.ensures ∙ ap session_after (c.in_ok-this_id.ensures.word from there))
    (either-stayed c.in_ok-this_id.ensures.reads.stays (c.mend_all.ensures.stops from (ap (λ (t : Told). t.files) c.in_ok-this_id.ensures.reads.stays ∙ there) is))

pub returns-clause-last : goal.returns-clause-last
returns-clause-last g c =
    on_ok_weaker c.mend_all.result
    (λ ends from there is.
    subst (λ (id : ℕ). EndsWithCrashWord (g.F.Folder.told c.args.f.now) (g.F.Folder.told c.mend_all.new.folder) (IsMidRepair from) (IsRepairedFor id from)) (c.next_id.ensures ∙ ap session_after (c.in_ok-this_id.ensures.word from there))
    (ends-stayed c.in_ok-this_id.ensures.reads.stays (ends from (ap (λ (t : Told). t.files) c.in_ok-this_id.ensures.reads.stays ∙ there) is)))
    c.mend_all.ensures.last

pub returns-clause-clean : goal.returns-clause-clean
returns-clause-clean g c =
    on_ok_weaker c.mend_all.result
    (λ clean from there is needs.
    subst (λ (id : ℕ). Applies (g.F.Folder.told c.args.f.now) (g.F.Folder.told c.mend_all.new.folder) (counting_steps from id from)) (c.next_id.ensures ∙ ap session_after (c.in_ok-this_id.ensures.word from there))
    (subst (λ (t : Told). Applies t (g.F.Folder.told c.mend_all.new.folder) (counting_steps from c.next_id.result from)) c.in_ok-this_id.ensures.reads.stays (clean from (ap (λ (t : Told). t.files) c.in_ok-this_id.ensures.reads.stays ∙ there) is needs)))
    c.mend_all.ensures.clean
