use Rattle.blk_eraser.proofs.Remade.{remade_maps, unkept_files}
use Rattle.blk_eraser.proofs.laws.recovery_may_erase.Goals as goal

pub returns : goal.returns
returns c = record { maps = remade_maps; files = unkept_files }
