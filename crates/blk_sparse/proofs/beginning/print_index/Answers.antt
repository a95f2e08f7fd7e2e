use Rattle.std.proofs.Common.{arith, refl}
use Rattle.std.specs.Int.{cast_unsigned, w64}
use Rattle.std.proofs.lemmas.Int.{of_z-to_z}
use Rattle.blk_sparse.proofs.Begun.{index-of-map}
use Rattle.blk_sparse.proofs.beginning.print_index.Goals as goal

pub returns : goal.returns
returns c = record { index = index-of-map (cast_unsigned w64 c.args.signature) c.args.key_len c.print.new.out _ c.print.ensures.read_back (of_z-to_z w64 (cast_unsigned w64 c.args.signature) (let small = c.requires.signature in omega (arith, small))) refl }
