use Rattle.blk_disk.proofs.Agreeing.{loaded_agrees}
use Rattle.test_files.proofs.disk.add_to.Goals as goal

pub add_file-requires-clause-agrees : goal.add_file-requires-clause-agrees
add_file-requires-clause-agrees g c = loaded_agrees c.in_ok-files.files (g.F.Folder.told c.args.f.now) (g.F.Folder.told c.load.new.f) c.in_ok-files.ensures.reads.stays c.in_ok-files.ensures.loaded
