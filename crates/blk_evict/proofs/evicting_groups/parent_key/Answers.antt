use Rattle.std.proofs.Common.{◌∙◌, ap, sym, length, List, ℕ}
use Rattle.blk_object.proofs.PartNames.{cut-name, name-length}
use Rattle.blk_evict.proofs.evicting_groups.parent_key.Goals as goal

pub slice_bounds-result-end : goal.slice_bounds-result-end
slice_bounds-result-end c = sym (ap (λ (l : List ℕ). length l) (cut-name c.args.name.now c.args.child.now.key_len) ∙ name-length c.args.name.now c.args.child.now c.requires.named)
