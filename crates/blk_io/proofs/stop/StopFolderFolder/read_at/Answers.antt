use Rattle.std.proofs.Common.{IfOk, subst}
use Rattle.std.specs.Option.{ForSome}
use Rattle.spec_image.specs.Told.{GivesBytes}
use Rattle.blk_io.specs.declared.mem.MemFolder.{MemFolder}
use Rattle.blk_io.specs.FileNames.{file_of}
use Rattle.blk_io.specs.MemFolder.{mem_told}
use Rattle.blk_io.proofs.stop.StopFolderFolder.read_at.Goals as goal

pub returns-clause-bytes : goal.returns-clause-bytes
returns-clause-bytes c =
    subst (λ (m : MemFolder). IfOk c.read_at.result (λ n. ForSome (mem_told m).files (λ image. GivesBytes image (file_of c.args.file) c.args.at c.args.out.now c.read_at.new.out n)))
    c.in_ok-pass.ensures.inner c.read_at.ensures.bytes
