use Rattle.std.proofs.Common.{sym, ◌∙◌}
use Rattle.blk_window.specs.Slots.{seen}
use Rattle.blk_window.proofs.HeldLists.{first_gives, last_gives}
use Rattle.blk_window.proofs.pages.Pages.giving_way.Goals as goal

pub returns-in-Some : goal.returns-in-Some
returns-in-Some c = first_gives seen 0 c.in-Some.slot c.args.self.now.slots.entries (sym c.in-Some.is ∙ c.first_free.ensures)

pub returns-in-None : goal.returns-in-None
returns-in-None c = last_gives seen 0 c.oldest.result c.args.self.now.slots.entries (sym c.first_free.ensures ∙ c.in-None.is) c.oldest.ensures
