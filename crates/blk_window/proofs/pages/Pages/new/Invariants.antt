use Rattle.std.proofs.Common.{◌≡◌, ◌≤◌, [], length}
use Rattle.blk_window.specs.Slots.{held_in, AreTags}
use Rattle.blk_window.proofs.Lists.{AreSlots}
use Rattle.blk_window.proofs.pages.Pages.new.Given as goal

abbrev pub invariant-loop-slot : goal.invariant-loop-slot
invariant-loop-slot l =
    (l.slots.cap ≡ l.fn.pages) × (l.slot ≤ l.fn.pages) × AreSlots l.slot l.slots.entries × (held_in l.slots.entries ≡ []) × (length l.tags.items ≡ l.slot) × AreTags l.tags.items l.slots.entries
