use Rattle.std.proofs.Common.{◌∙◌, ap, sym, length, List, ℕ}
use Rattle.blk_object.proofs.PartNames.{cut-name, name-length}
use Rattle.blk_object.proofs.listed_parts.part_named.Goals as goal

pub slice_bounds-parent-end : goal.slice_bounds-parent-end
slice_bounds-parent-end c = sym (ap (λ (l : List ℕ). length l) (cut-name c.args.name.now c.in_ok-child.child.key_len) ∙ name-length c.args.name.now c.in_ok-child.child c.in_ok-child.ensures.printed)
