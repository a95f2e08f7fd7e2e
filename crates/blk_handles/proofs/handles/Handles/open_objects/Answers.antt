use Rattle.std.proofs.Common.{sym, ◌∙◌}
use Rattle.blk_handles.proofs.StoredLemmas.{stored, open-counted}
use Rattle.blk_handles.proofs.handles.Handles.open_objects.Goals as goal

pub returns : goal.returns
returns c = rw (← c.self.view_is) (c.len.ensures ∙ c.self.invariant.object_count ∙ sym (open-counted c.self.inside.objects c.self.invariant.distinct _ (stored _ _ c.self.invariant)))
