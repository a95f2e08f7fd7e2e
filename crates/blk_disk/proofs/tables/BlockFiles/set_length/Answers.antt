use Rattle.std.proofs.Common.{◌<◌, length, refl, arith}
use Rattle.blk_disk.specs.Tables.{all_files, blocks_of, files_of, length_in}
use Rattle.blk_disk.proofs.Joining.{there, elsewhere}
use Rattle.blk_disk.proofs.tables.BlockFiles.set_length.Goals as goal

pub returns : goal.returns
unfolding all_files files_of blocks_of length_in
returns c =
    let old = c.args.self.now in
    let within : c.args.file < length old.lengths = omega (arith, old.all_lengths, c.ranges.file.fits) in
    record {
      files = λ kind. refl;
      all = refl;
      blocks = λ m. refl;
      size_there = there old.lengths c.from.result c.args.file c.args.size c.from.ensures within;
      other_lengths = λ other differs. elsewhere old.lengths c.from.result c.args.file c.args.size c.from.ensures other differs;
    }
