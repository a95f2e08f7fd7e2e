use Rattle.blk_disk.proofs.Agreeing.{loaded_agrees}
use Rattle.test_files.proofs.disk.fit_file.Goals as goal

pub fit-requires-clause-agrees : goal.fit-requires-clause-agrees
fit-requires-clause-agrees g c = loaded_agrees c.in_ok-files.files (g.F.Folder.told c.args.f.now) (g.F.Folder.told c.load.new.f) c.in_ok-files.ensures.reads.stays c.in_ok-files.ensures.loaded
