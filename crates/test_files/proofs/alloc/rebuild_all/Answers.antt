use Rattle.blk_disk.proofs.Agreeing.{loaded_agrees}
use Rattle.test_files.proofs.alloc.rebuild_all.Goals as goal

pub rebuild-requires : goal.rebuild-requires
rebuild-requires g c = record { agrees = loaded_agrees c.in_ok-files.files (g.F.Folder.told c.args.f.now) (g.F.Folder.told c.load.new.f) c.in_ok-files.ensures.reads.stays c.in_ok-files.ensures.loaded }
