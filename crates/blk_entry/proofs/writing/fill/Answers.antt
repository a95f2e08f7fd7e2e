use Rattle.std.proofs.Common.{sym, ◌∙◌, ap}
use Rattle.spec_image.specs.Steps.{with_word}
use Rattle.blk_entry.proofs.NewRecords.{with_words-more}
use Rattle.blk_entry.proofs.writing.fill.Goals as goal

pub loop-at-preserved : goal.loop-at-preserved
loop-at-preserved g c = (
  c.set_word.ensures.window ∙ ap (with_word _ _) c.loop-at.invariant.0 ∙ sym (with_words-more c.args.words.now c.loop-at.at-index _ (g.R.Record.window_of c.args.view.now) c.loop-at-test.true),
  c.set_word.ensures.same_reference ∙ c.loop-at.invariant.1,
)
