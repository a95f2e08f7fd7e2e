use Rattle.std.proofs.Common.{◌≡◌, ℕ, ◌<◌, false}
use Rattle.blk_io.specs.FileNames.{file_of}
use Rattle.blk_window.specs.Slots.{shows, does_pass}
use Rattle.blk_window.proofs.pages.Pages.find.Given as goal

abbrev pub invariant-loop-slot : goal.invariant-loop-slot
invariant-loop-slot l = (k : ℕ) → k < l.slot → does_pass (shows (file_of l.file) l.number) k l.self.slots.entries ≡ false
