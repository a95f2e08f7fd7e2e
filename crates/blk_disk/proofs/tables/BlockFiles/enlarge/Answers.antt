use Rattle.std.proofs.Common.{◌<◌, length, refl, arith}
use Rattle.blk_disk.specs.Tables.{all_files, blocks_of, files_of, length_in}
use Rattle.blk_disk.proofs.Joining.{there, elsewhere}
use Rattle.blk_disk.proofs.tables.BlockFiles.enlarge.Goals as goal

pub returns : goal.returns
unfolding all_files files_of blocks_of length_in
returns c =
    let old = c.args.self.now in
    let within : c.args.file < length old.blocks = omega (arith, old.all_blocks, c.ranges.file.fits) in
    let within2 : c.args.file < length old.lengths = omega (arith, old.all_lengths, c.ranges.file.fits) in
    record {
      files = λ kind. refl;
      all = refl;
      blocks_there = there old.blocks c.from.result c.args.file c.args.blocks c.from.ensures within;
      size_there = there old.lengths c.from-2.result c.args.file c.args.size c.from-2.ensures within2;
      other_blocks = λ other differs. elsewhere old.blocks c.from.result c.args.file c.args.blocks c.from.ensures other differs;
      other_lengths = λ other differs. elsewhere old.lengths c.from-2.result c.args.file c.args.size c.from-2.ensures other differs;
    }
