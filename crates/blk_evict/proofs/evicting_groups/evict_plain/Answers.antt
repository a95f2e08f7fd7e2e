use Rattle.std.proofs.Common.{◌∙◌, List, ap, false, subst, sym, ℕ}
use Rattle.blk_io.specs.Streams.{Appends}
use Rattle.blk_script.specs.Reply.{evicted_line}
use Rattle.blk_evict.specs.RoomPrinting.{PrintsUnlessFailed}
use Rattle.blk_evict.proofs.GroupsOut.{as-text, main-said, on-ok-any}
use Rattle.blk_evict.proofs.evicting_groups.evict_plain.Goals as goal

pub returns-clause-prints : goal.returns-clause-prints
returns-clause-prints g c = on-ok-any c.remove_alone.result (λ from there state layout is.
    subst (λ (text : List ℕ). PrintsUnlessFailed c.args.failed.now c.say_evicted.new.failed (g.K.Sink.written c.args.out.now) (g.K.Sink.written c.say_evicted.new.out) text)
    (sym (as-text state layout from c.args.found.now false c.args.key.now is ∙ ap evicted_line (main-said state layout from c.args.found.now c.args.key.now is)))
    c.say_evicted.ensures.prints)

pub returns-clause-front : goal.returns-clause-front
returns-clause-front g c from there state layout is =
    subst (λ (text : List ℕ). Appends (g.K.Sink.written c.args.out.now) (g.K.Sink.written c.say_evicted.new.out) text)
    (sym (as-text state layout from c.args.found.now false c.args.key.now is ∙ ap evicted_line (main-said state layout from c.args.found.now c.args.key.now is)))
    c.say_evicted.ensures.prints.front

pub returns-clause-damaged : goal.returns-clause-damaged
returns-clause-damaged g c says =
    c.remove_alone.ensures.damaged says
