use Rattle.blk_print.proofs.PrintedRanges.{line-in-part, line-printed}
use Rattle.blk_evict.proofs.RoomTexts.{part-whole}
use Rattle.blk_print.proofs.range_printing.print_range.Goals as goal

pub returns-in_err-print_data-clause-part : goal.returns-in_err-print_data-clause-part
returns-in_err-print_data-clause-part g c image there p =
    line-in-part c.args.files.now c.args.range.now image p _ _ _ _ _ c.say_front.ensures.prints (c.print_data.ensures.part image there p)

pub returns-clause-printed : goal.returns-clause-printed
returns-clause-printed g c image there p =
    line-printed c.args.files.now c.args.range.now image p _ _ _ _ _ _ _ _ c.say_front.ensures.prints (c.in_ok-print_data.ensures.printed image there p) c.say_text.ensures.prints

pub returns-clause-part : goal.returns-clause-part
returns-clause-part g c image there p =
    part-whole _ _ _ _ _ (line-printed c.args.files.now c.args.range.now image p _ _ _ _ _ _ _ _ c.say_front.ensures.prints (c.in_ok-print_data.ensures.printed image there p) c.say_text.ensures.prints)
