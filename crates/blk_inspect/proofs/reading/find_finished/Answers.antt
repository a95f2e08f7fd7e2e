use Rattle.std.proofs.lemmas.Result.{IfOk-weaker}
use Rattle.blk_lru.proofs.Conditions.{told_now}
use Rattle.blk_disk.proofs.Agreeing.{loaded_agrees}
use Rattle.blk_audit.proofs.Carrying.{converted}
use Rattle.blk_scan.proofs.FolderScans.{loading_first}
use Rattle.blk_inspect.proofs.Found.{reading_cause}
use Rattle.blk_inspect.proofs.reading.find_finished.Goals as goal

pub returns-in_err-files-clause-damaged : goal.returns-in_err-files-clause-damaged
returns-in_err-files-clause-damaged g c = converted c.load.result c.from_residual.result c.in_err-files.field-0.0 _ c.in_err-files.was c.from_residual.ensures.1 (loading_first c.load.result (g.F.Folder.told c.args.folder.now) c.load.ensures.loaded)

pub returns-clause-found : goal.returns-clause-found
returns-clause-found g c =
    let agrees = loaded_agrees c.in_ok-files.files (g.F.Folder.told c.args.folder.now) (g.F.Folder.told c.load.new.f) c.in_ok-files.ensures.reads.stays c.in_ok-files.ensures.loaded in
    IfOk-weaker c.read.result _ _ (λ findings tells image there whole. let now = told_now image c.in_ok-files.ensures.reads.stays there in tells image now (record { agrees = agrees image now; whole_index = whole })) c.read.ensures.found

pub returns-clause-cause : goal.returns-clause-cause
returns-clause-cause g c =
    reading_cause c.read.result c.in_ok-files.files (g.F.Folder.told c.args.folder.now) (g.F.Folder.told c.load.new.f) (g.F.Folder.told c.read.new.folder) c.in_ok-files.ensures.reads.stays c.read.ensures.reads.stays
    (loaded_agrees c.in_ok-files.files (g.F.Folder.told c.args.folder.now) (g.F.Folder.told c.load.new.f) c.in_ok-files.ensures.reads.stays c.in_ok-files.ensures.loaded) c.read.ensures.damaged
