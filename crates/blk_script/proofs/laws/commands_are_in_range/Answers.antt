use Rattle.blk_script.proofs.ReadRanges.{read_text-ranged}
use Rattle.blk_script.proofs.laws.commands_are_in_range.Goals as goal

pub returns : goal.returns
returns c = read_text-ranged
