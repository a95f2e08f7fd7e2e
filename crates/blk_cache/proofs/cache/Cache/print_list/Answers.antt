use Rattle.blk_evict.proofs.RoomTexts.{faults-on, part-whole}
use Rattle.blk_cache.proofs.Replies.{part-longer, rows-and-end}
use Rattle.blk_cache.proofs.cache.Cache.print_list.Goals as goal

pub returns-in_err-print_rows-clause-part : goal.returns-in_err-print_rows-clause-part
returns-in_err-print_rows-clause-part g c image there state k =
    part-longer c.args.failed.now (g.K.Sink.written c.args.out.now) (g.K.Sink.written c.print_rows.new.out) _ _ (c.print_rows.ensures.part image there state k)

pub returns-clause-printed : goal.returns-clause-printed
returns-clause-printed g c image there state k =
    rows-and-end c.args.failed.now c.print_rows.new.failed c.say_answer.new.failed (g.K.Sink.written c.args.out.now) (g.K.Sink.written c.print_rows.new.out) (g.K.Sink.written c.say_answer.new.out) c.args.answer.now state
    (c.in_ok-print_rows.ensures.printed image there state k) c.say_answer.ensures.prints

pub returns-clause-part : goal.returns-clause-part
returns-clause-part g c image there state k =
    part-whole c.args.failed.now c.say_answer.new.failed (g.K.Sink.written c.args.out.now) (g.K.Sink.written c.say_answer.new.out) _
    (rows-and-end c.args.failed.now c.print_rows.new.failed c.say_answer.new.failed (g.K.Sink.written c.args.out.now) (g.K.Sink.written c.print_rows.new.out) (g.K.Sink.written c.say_answer.new.out) c.args.answer.now state
    (c.in_ok-print_rows.ensures.printed image there state k) c.say_answer.ensures.prints)

pub returns-clause-failed : goal.returns-clause-failed
returns-clause-failed g c = faults-on _ _ _ _ _ _ c.in_ok-print_rows.ensures.failed c.say_answer.ensures.failed c.in_ok-print_rows.ensures.later_out.later c.say_answer.ensures.later.later
