use Rattle.law_folder.proofs.updates.Nodes.{contents-written, dirty-written}
use Rattle.law_folder.proofs.mid_updates.names_are_written.Goals as goal

pub returns : goal.returns
returns c = record { contents = contents-written; dirty = dirty-written }
