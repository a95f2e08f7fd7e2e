use Rattle.blk_window.proofs.PageSlots.{few_held}
use Rattle.blk_window.proofs.window.Window.held_pages_agree.Goals as goal

pub returns-clause-few : goal.returns-clause-few
returns-clause-few g c = few_held c.args.self.now.pages
