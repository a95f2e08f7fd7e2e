use Rattle.std.proofs.Common.{refl}
use Rattle.blk_handles.proofs.StoredLemmas.{sound-free, shown-free}
use Rattle.blk_handles.proofs.handles.Handles.new.Goals as goal

pub invariant_of-result : goal.invariant_of-result
invariant_of-result c = rw (c.in_ok-resize.ensures.items, c.from.ensures, c.new-names.ensures.items, c.new-names.ensures.len) (sound-free c.in_ok-new.field-0 4096 refl c.in_ok-new.ensures)

pub returns : goal.returns
returns c = rw (c.in_ok-resize.ensures.items, c.from.ensures, c.new-names.ensures.items, c.new-names.ensures.len) (shown-free c.in_ok-new.field-0 4096)
