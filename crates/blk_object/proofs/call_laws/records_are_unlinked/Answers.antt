use Rattle.blk_object.proofs.KeptChains.{can-be-unlinked, links-change, records-leave, records-out}
use Rattle.blk_object.proofs.call_laws.records_are_unlinked.Goals as goal

pub returns : goal.returns
returns c = record { asked = can-be-unlinked; each = links-change; out = records-out; leaves = records-leave }
