use Rattle.std.proofs.Common.{◌≡◌, is_none}
use Rattle.std.specs.List.{find}
use Rattle.blk_window.specs.Slots.{seen}
use Rattle.blk_window.proofs.pages.Pages.first_free.Given as goal

abbrev pub invariant-loop-slot : goal.invariant-loop-slot
invariant-loop-slot l =
    (goal.iterator-loop-slot).can_next l.slot-iterator
    × (goal.iterator-loop-slot).is_finite l.slot-iterator
    × (find (λ slot. is_none (seen slot.1)) l.slot-iterator ≡ find (λ slot. is_none (seen slot.1)) l.self.slots.entries)
