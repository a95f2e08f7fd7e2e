use Rattle.std.proofs.Common.{◌≡◌, take}
use Rattle.spec_image.specs.Steps.{with_words}
use Rattle.blk_entry.proofs.writing.fill.Given as goal

abbrev pub invariant-loop-at : goal.invariant-loop-at
invariant-loop-at g l = (g.R.Record.window_of l.view ≡ with_words (take l.at-index l.words) (g.R.Record.window_of l.initial.view)) × (g.R.RecordMut.reference l.view ≡ g.R.RecordMut.reference l.initial.view)
