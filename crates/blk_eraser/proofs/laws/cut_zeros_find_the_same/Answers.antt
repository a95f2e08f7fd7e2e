use Rattle.blk_eraser.proofs.CutZeros.{cut_zeros, doomed_cut_zeros}
use Rattle.blk_eraser.proofs.laws.cut_zeros_find_the_same.Goals as goal

pub returns : goal.returns
returns c = record { unsettled = cut_zeros; doomed = doomed_cut_zeros }
