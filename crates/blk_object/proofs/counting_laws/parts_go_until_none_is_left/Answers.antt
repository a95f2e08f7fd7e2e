use Rattle.blk_object.proofs.PartsFound.{names-are-theirs, names-find-parts}
use Rattle.blk_object.proofs.PartsLeft.{first-next, found-next, none-left}
use Rattle.blk_object.proofs.counting_laws.parts_go_until_none_is_left.Goals as goal

pub returns : goal.returns
returns c = record { none = none-left; next = first-next; found = found-next; own = names-find-parts; names = names-are-theirs }
