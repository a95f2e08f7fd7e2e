use Rattle.law_folder.proofs.lists.Adding.{changes-begin, changes-add}
use Rattle.law_folder.proofs.updates.Nodes.{nexts-written, prevs-written, times-hidden}
use Rattle.law_folder.proofs.mid_updates.links_are_written.Goals as goal

pub returns : goal.returns
returns c = record { next = nexts-written; prev = prevs-written; times = times-hidden; begin = changes-begin; add = changes-add }
