use Rattle.std.proofs.Common.{ℕ, List, sym, subst, ◌∙◌}
use Rattle.spec_image.proofs.Quiet.{passes_any}
use Rattle.blk_io.proofs.Carried.{carried, if_damaged_weaker}
use Rattle.blk_alloc.specs.Rebuilding.{IsShortReadOf}
use Rattle.blk_repair.specs.Deletions.{DeletesOthers}
use Rattle.blk_repair.specs.Maps.{Rebuilds}
use Rattle.blk_repair.proofs.EndingRuns.{rebuilds-break, store-breaks}
use Rattle.blk_repair.proofs.PartRuns.{in-turn, others-same}
use Rattle.blk_repair.proofs.RepairRuns.{files-right, here-still, same-files, store-done}
use Rattle.blk_repair.proofs.repairing.mend_store.Goals as goal

pub returns-in_err-mend_files-clause-stops : goal.returns-in_err-mend_files-clause-stops
returns-in_err-mend_files-clause-stops g c from there entry next =
    rebuilds-break (g.F.Folder.told c.args.folder.now) (g.F.Folder.told c.mend_files.new.folder) c.args.files.now c.args.claims.now entry from there next (c.mend_files.ensures.rebuilds from there)

pub returns-in_err-mend_files-clause-damaged : goal.returns-in_err-mend_files-clause-damaged
returns-in_err-mend_files-clause-damaged g c =
    carried c.mend_files.result c.from_residual.result c.in_err-mend_files.field-0.0 _ c.in_err-mend_files.was c.from_residual.ensures.1
    (if_damaged_weaker c.mend_files.result _ _ (λ damage short. subst (λ (l : List ℕ). IsShortReadOf (g.F.Folder.told c.mend_files.new.folder) l damage) (sym (same-files c.args.files.now c.mend_files.new.files c.mend_files.ensures.all)) short) c.mend_files.ensures.damaged)

pub returns-in_err-delete_others-clause-stops : goal.returns-in_err-delete_others-clause-stops
returns-in_err-delete_others-clause-stops g c from there entry next =
    store-breaks c.args.claims.now (g.F.Folder.told c.args.folder.now) (g.F.Folder.told c.mend_files.new.folder) (g.F.Folder.told c.delete_others.new.folder) entry from there next
    (rebuilds-break (g.F.Folder.told c.args.folder.now) (g.F.Folder.told c.mend_files.new.folder) c.args.files.now c.args.claims.now entry from there next (c.mend_files.ensures.rebuilds from there)) (c.in_ok-mend_files.ensures.mended from there entry next)
    c.delete_others.ensures.stops

pub returns-clause-mended : goal.returns-clause-mended
returns-clause-mended g c from there entry next =
    store-done c.args.claims.now (g.F.Folder.told c.args.folder.now) (g.F.Folder.told c.mend_files.new.folder) (g.F.Folder.told c.delete_others.new.folder) entry from there next (passes_any (c.mend_files.ensures.stops from there entry next.holds.keeps)) (c.in_ok-mend_files.ensures.mended from there entry next)
    c.in_ok-delete_others.ensures.mended

pub returns-clause-stops : goal.returns-clause-stops
returns-clause-stops g c from there entry next =
    store-breaks c.args.claims.now (g.F.Folder.told c.args.folder.now) (g.F.Folder.told c.mend_files.new.folder) (g.F.Folder.told c.delete_others.new.folder) entry from there next
    (rebuilds-break (g.F.Folder.told c.args.folder.now) (g.F.Folder.told c.mend_files.new.folder) c.args.files.now c.args.claims.now entry from there next (c.mend_files.ensures.rebuilds from there)) (c.in_ok-mend_files.ensures.mended from there entry next)
    c.delete_others.ensures.stops

pub returns-clause-clean : goal.returns-clause-clean
returns-clause-clean g c from there entry next files only =
    let same = c.mend_files.ensures.clean from there (files-right entry from c.args.claims.now c.args.files.now next (c.requires.is_open from there) files) in
    c.in_ok-delete_others.ensures.clean from (here-still from there same) entry next only ∙ same

pub returns-clause-steps : goal.returns-clause-steps
returns-clause-steps g c from there =
    in-turn (g.F.Folder.told c.delete_others.new.folder) (Rebuilds c.args.files.now c.args.claims.now) (DeletesOthers c.args.files.now c.args.claims.now) from there (c.mend_files.ensures.rebuilds from there)
    (others-same c.args.files.now c.mend_files.new.files c.args.claims.now c.mend_files.ensures.all c.in_ok-delete_others.ensures.steps)
