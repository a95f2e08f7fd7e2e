use Rattle.std.proofs.Common.{◌∙◌, ap, sym}
use Rattle.std.specs.Str.{bytes_eq}
use Rattle.blk_script.proofs.WordTable.{by_word-other, by_word-this}
use Rattle.blk_script.proofs.words.word_in.Goals as goal

pub returns-then-eq : goal.returns-then-eq
returns-then-eq c fields =
    c.loop-text.invariant fields
    ∙ by_word-this c.args.table.now c.loop-text.text-index _ c.args.field.now fields c.loop-text-test.true (ap (bytes_eq c.args.field.now) (sym c.as_bytes.ensures.value) ∙ sym c.eq.ensures ∙ c.if-eq.true)

pub loop-text-preserved : goal.loop-text-preserved
loop-text-preserved c fields =
    c.loop-text.invariant fields
    ∙ by_word-other c.args.table.now c.loop-text.text-index _ c.args.field.now fields c.loop-text-test.true (ap (bytes_eq c.args.field.now) (sym c.as_bytes.ensures.value) ∙ sym c.eq.ensures ∙ c.if-eq.false)
