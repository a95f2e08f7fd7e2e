use Rattle.std.proofs.Common.{sym, subst, arith}
use Rattle.std.proofs.lemmas.Result.{on_ok_weaker}
use Rattle.blk_evict.specs.RoomPrinting.{PrintsUnlessFailed, PrintsInPart}
use Rattle.blk_print.proofs.PrintedRanges.{no-data, some-data}
use Rattle.blk_evict.proofs.RoomTexts.{part-whole}
use Rattle.blk_print.proofs.range_printing.print_data.Goals as goal

pub returns-then-range-eq0-clause-printed : goal.returns-then-range-eq0-clause-printed
returns-then-range-eq0-clause-printed g c image there p =
    subst (PrintsUnlessFailed c.args.failed.now c.say_text.new.failed (g.K.Sink.written c.args.out.now) (g.K.Sink.written c.say_text.new.out)) (sym (no-data c.args.files.now c.args.range.now image p c.if-range-eq0.true)) c.say_text.ensures.prints

pub returns-then-range-eq0-clause-part : goal.returns-then-range-eq0-clause-part
returns-then-range-eq0-clause-part g c image there p =
    part-whole _ _ _ _ _ (subst (PrintsUnlessFailed c.args.failed.now c.say_text.new.failed (g.K.Sink.written c.args.out.now) (g.K.Sink.written c.say_text.new.out)) (sym (no-data c.args.files.now c.args.range.now image p c.if-range-eq0.true)) c.say_text.ensures.prints)

pub returns-clause-printed : goal.returns-clause-printed
returns-clause-printed g c =
    on_ok_weaker c.print_pieces.result
    (λ printed image there p. subst (PrintsUnlessFailed c.args.failed.now c.print_pieces.new.failed (g.K.Sink.written c.args.out.now) (g.K.Sink.written c.print_pieces.new.out)) (some-data c.args.files.now c.args.range.now image p (let n = c.if-range-eq0.false in grind (arith, n))) (printed image there p))
    c.print_pieces.ensures.printed

pub returns-clause-part : goal.returns-clause-part
returns-clause-part g c image there p =
    subst (PrintsInPart c.args.failed.now (g.K.Sink.written c.args.out.now) (g.K.Sink.written c.print_pieces.new.out)) (some-data c.args.files.now c.args.range.now image p (let n = c.if-range-eq0.false in grind (arith, n))) (c.print_pieces.ensures.part image there p)
