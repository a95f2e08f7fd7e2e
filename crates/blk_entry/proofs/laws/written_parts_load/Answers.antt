use Rattle.blk_entry.proofs.Parts.{written-parts-load}
use Rattle.blk_entry.proofs.laws.written_parts_load.Goals as goal

pub returns : goal.returns
returns c = record { load = written-parts-load }
