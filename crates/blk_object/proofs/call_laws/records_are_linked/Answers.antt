use Rattle.blk_object.proofs.KeptMarks.{come-in-front, in-front}
use Rattle.blk_object.proofs.KeptNewEntries.{new-can-be-linked}
use Rattle.blk_object.proofs.call_laws.records_are_linked.Goals as goal

pub returns : goal.returns
returns c = record { asked = new-can-be-linked; each = come-in-front; linked = in-front }
