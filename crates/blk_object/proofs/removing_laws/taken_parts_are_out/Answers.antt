use Rattle.blk_object.proofs.TakenParts.{going-lone-parts, going-mains, going-parts, left-loads, left-may, left-out, unlinked-find}
use Rattle.blk_object.proofs.removing_laws.taken_parts_are_out.Goals as goal

pub returns : goal.returns
returns c = record { may = left-may; out = left-out; loads = left-loads; unlinked = unlinked-find; find = going-parts; first = going-mains; alone = going-lone-parts }
