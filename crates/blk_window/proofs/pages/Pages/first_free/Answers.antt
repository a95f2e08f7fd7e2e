use Rattle.std.proofs.Common.{is_none, not, sym, ap}
use Rattle.blk_window.specs.Slots.{seen}
use Rattle.blk_window.proofs.Lists.{first_passes}
use Rattle.blk_window.proofs.pages.Pages.first_free.Goals as goal

pub returns-then-not-is_held : goal.returns-then-not-is_held
returns-then-not-is_held c =
    first_passes (λ page. is_none (seen page)) c.args.self.now.slots.entries _ (c.in-Some.slot.now, c.in-Some.page.now) _ (ap not (sym c.if-not-is_held.ensures)) c.in-Some.ensures.steps c.loop-slot.invariant.2
