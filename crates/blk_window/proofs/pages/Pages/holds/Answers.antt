use Rattle.std.proofs.Common.{◌∙◌}
use Rattle.blk_io.specs.FileNames.{file_of}
use Rattle.blk_window.specs.Slots.{seen}
use Rattle.blk_window.proofs.HeldLists.{found_is}
use Rattle.blk_window.proofs.pages.Pages.holds.Goals as goal

pub returns : goal.returns
returns c = c.is_some.ensures ∙ found_is seen (file_of c.args.file) c.args.number c.args.self.now.slots.entries c.find.result c.find.ensures
