use Rattle.blk_io.specs.FileNames.{file_of}
use Rattle.blk_eraser.proofs.MapWrites.{far_none}
use Rattle.blk_eraser.proofs.map.touches_map.Goals as goal

pub returns-in-Block-clause-none : goal.returns-in-Block-clause-none
returns-in-Block-clause-none c = λ far image. far_none (file_of c.args.file) image c.args.at c.args.bytes.now far
