use Rattle.std.proofs.Common.{rules, refl}
use Rattle.percent_encoding.specs.Percent.{percent_decode}
use Rattle.spec_image.specs.Told.{Rises}
use Rattle.blk_model.specs.Bounds.{bounds_of}
use Rattle.spec_run.specs.Script.{doom_script, get_script, count_script, list_script, trim_script}
use Rattle.blk_inspect.specs.Texts.{inspect_text, verify_text}
use Rattle.blk_run.proofs.Performing.{performs_wider, script_performs}
use Rattle.blk_run.proofs.Showing.{text_wider}
use Rattle.blk_gen.specs.Generator.{gen_script}
use Rattle.blk_run.proofs.top.run_order.Goals as goal

pub returns-in-Count-clause-counts : goal.returns-in-Count-clause-counts
returns-in-Count-clause-counts g c is = record {
  answer = c.run_count.ensures.answer;
  printed = c.run_count.ensures.printed;
  damage = c.run_count.ensures.damage;
  ended = c.run_count.ensures.ended;
  made = c.run_count.ensures.made;
  stops = c.run_count.ensures.stops;
  unwritten = c.run_count.ensures.unwritten;
  silent = c.run_count.ensures.silent;
  clock = c.run_count.ensures.clock;
  never = c.run_count.ensures.never;
}

pub returns-in-Get-clause-performs : goal.returns-in-Get-clause-performs
returns-in-Get-clause-performs g c =
    let does = performs_wider c.get.result (bounds_of c.args.asked.limits) (Rises (g.F.Folder.faults c.args.folder.now) (g.F.Folder.faults c.get.new.folder)) (Rises (g.S.Source.faults c.args.input.now) (g.S.Source.faults c.args.input.now)) (g.K.Sink.faults c.args.out.now) (g.K.Sink.faults c.get.new.out)
    (record { folder = g.F.Folder.told c.args.folder.now; written = g.K.Sink.written c.args.out.now; left = g.S.Source.left c.args.input.now; clock = g.C.Clock.readings c.args.clock.now })
    (record { folder = g.F.Folder.told c.get.new.folder; written = g.K.Sink.written c.get.new.out; left = g.S.Source.left c.args.input.now; clock = g.C.Clock.readings c.get.new.clock })
    (get_script (percent_decode c.in-Get.key.now) c.in-Get.stream) (c.get.ensures.performs (g.S.Source.left c.args.input.now)) in
    search (rules, does)

pub returns-in-Doom-clause-performs : goal.returns-in-Doom-clause-performs
returns-in-Doom-clause-performs g c =
    let does = performs_wider c.doom.result (bounds_of c.args.asked.limits) (Rises (g.F.Folder.faults c.args.folder.now) (g.F.Folder.faults c.doom.new.folder)) (Rises (g.S.Source.faults c.args.input.now) (g.S.Source.faults c.args.input.now)) (g.K.Sink.faults c.args.out.now) (g.K.Sink.faults c.doom.new.out)
    (record { folder = g.F.Folder.told c.args.folder.now; written = g.K.Sink.written c.args.out.now; left = g.S.Source.left c.args.input.now; clock = g.C.Clock.readings c.args.clock.now })
    (record { folder = g.F.Folder.told c.doom.new.folder; written = g.K.Sink.written c.doom.new.out; left = g.S.Source.left c.args.input.now; clock = g.C.Clock.readings c.doom.new.clock })
    (doom_script (percent_decode c.in-Doom.key.now)) (c.doom.ensures.performs (g.S.Source.left c.args.input.now)) in
    search (rules, does)

pub returns-in-Inspect-clause-performs : goal.returns-in-Inspect-clause-performs
returns-in-Inspect-clause-performs g c =
    let does = text_wider (inspect_text c.in-Inspect.part) c.show_part.result (bounds_of c.args.asked.limits) (Rises (g.F.Folder.faults c.args.folder.now) (g.F.Folder.faults c.show_part.new.folder)) (Rises (g.S.Source.faults c.args.input.now) (g.S.Source.faults c.args.input.now)) (g.K.Sink.faults c.args.out.now) (g.K.Sink.faults c.show_part.new.out)
    (record { folder = g.F.Folder.told c.args.folder.now; written = g.K.Sink.written c.args.out.now; left = g.S.Source.left c.args.input.now; clock = g.C.Clock.readings c.args.clock.now })
    (record { folder = g.F.Folder.told c.show_part.new.folder; written = g.K.Sink.written c.show_part.new.out; left = g.S.Source.left c.args.input.now; clock = g.C.Clock.readings c.args.clock.now })
    (c.show_part.ensures.performs (bounds_of c.args.asked.limits) (g.S.Source.left c.args.input.now) (g.C.Clock.readings c.args.clock.now)) in
    search (rules, does)

pub returns-in-Verify-clause-performs : goal.returns-in-Verify-clause-performs
returns-in-Verify-clause-performs g c =
    let does = text_wider verify_text c.show_verdict.result (bounds_of c.args.asked.limits) (Rises (g.F.Folder.faults c.args.folder.now) (g.F.Folder.faults c.show_verdict.new.folder)) (Rises (g.S.Source.faults c.args.input.now) (g.S.Source.faults c.args.input.now)) (g.K.Sink.faults c.args.out.now) (g.K.Sink.faults c.show_verdict.new.out)
    (record { folder = g.F.Folder.told c.args.folder.now; written = g.K.Sink.written c.args.out.now; left = g.S.Source.left c.args.input.now; clock = g.C.Clock.readings c.args.clock.now })
    (record { folder = g.F.Folder.told c.show_verdict.new.folder; written = g.K.Sink.written c.show_verdict.new.out; left = g.S.Source.left c.args.input.now; clock = g.C.Clock.readings c.args.clock.now })
    (c.show_verdict.ensures.performs (bounds_of c.args.asked.limits) (g.S.Source.left c.args.input.now) (g.C.Clock.readings c.args.clock.now)) in
    search (rules, does)

pub returns-in-Count-clause-performs : goal.returns-in-Count-clause-performs
returns-in-Count-clause-performs g c =
    let does = script_performs c.run_count.result (bounds_of c.args.asked.limits) (Rises (g.F.Folder.faults c.args.folder.now) (g.F.Folder.faults c.run_count.new.folder)) (Rises (g.S.Source.faults c.args.input.now) (g.S.Source.faults c.args.input.now)) (g.K.Sink.faults c.args.out.now) (g.K.Sink.faults c.run_count.new.out)
    (record { folder = g.F.Folder.told c.args.folder.now; written = g.K.Sink.written c.args.out.now; left = g.S.Source.left c.args.input.now; clock = g.C.Clock.readings c.args.clock.now })
    (record { folder = g.F.Folder.told c.run_count.new.folder; written = g.K.Sink.written c.run_count.new.out; left = g.S.Source.left c.args.input.now; clock = g.C.Clock.readings c.run_count.new.clock })
    (count_script) (count_script) refl refl
    (record {
      plays = c.run_count.ensures.script;
      complete = λ from there usable readings clock no_device no_sink. c.run_count.ensures.complete from there usable readings clock (g.S.Source.left c.args.input.now) no_device no_sink;
      damage = λ from there damage is. c.run_count.ensures.shows from there damage is (g.S.Source.left c.args.input.now);
      cause = c.run_count.ensures.cause;
      memory = λ is. let nothing = c.run_count.ensures.memory is in record { unwritten = nothing.0; unread = refl; unprinted = nothing.1 };
    }) in
    search (rules, does)

pub returns-in-List-clause-performs : goal.returns-in-List-clause-performs
returns-in-List-clause-performs g c =
    let does = script_performs c.run_script.result (bounds_of c.args.asked.limits) (Rises (g.F.Folder.faults c.args.folder.now) (g.F.Folder.faults c.run_script.new.folder)) (Rises (g.S.Source.faults c.args.input.now) (g.S.Source.faults c.args.input.now)) (g.K.Sink.faults c.args.out.now) (g.K.Sink.faults c.run_script.new.out)
    (record { folder = g.F.Folder.told c.args.folder.now; written = g.K.Sink.written c.args.out.now; left = g.S.Source.left c.args.input.now; clock = g.C.Clock.readings c.args.clock.now })
    (record { folder = g.F.Folder.told c.run_script.new.folder; written = g.K.Sink.written c.run_script.new.out; left = g.S.Source.left c.args.input.now; clock = g.C.Clock.readings c.run_script.new.clock })
    (list_script) (list_script) refl refl
    (record {
      plays = c.run_script.ensures.script;
      complete = λ from there usable readings clock no_device no_sink. c.run_script.ensures.complete from there usable readings clock (g.S.Source.left c.args.input.now) no_device no_sink;
      damage = λ from there damage is. c.run_script.ensures.damage from there damage is (g.S.Source.left c.args.input.now);
      cause = c.run_script.ensures.cause;
      memory = λ is. let nothing = c.run_script.ensures.memory is in record { unwritten = nothing.0; unread = refl; unprinted = nothing.1 };
    }) in
    search (rules, does)

pub returns-in-Trim-clause-performs : goal.returns-in-Trim-clause-performs
returns-in-Trim-clause-performs g c =
    let does = script_performs c.run_script-in-Trim.result (bounds_of c.args.asked.limits) (Rises (g.F.Folder.faults c.args.folder.now) (g.F.Folder.faults c.run_script-in-Trim.new.folder)) (Rises (g.S.Source.faults c.args.input.now) (g.S.Source.faults c.args.input.now)) (g.K.Sink.faults c.args.out.now) (g.K.Sink.faults c.run_script-in-Trim.new.out)
    (record { folder = g.F.Folder.told c.args.folder.now; written = g.K.Sink.written c.args.out.now; left = g.S.Source.left c.args.input.now; clock = g.C.Clock.readings c.args.clock.now })
    (record { folder = g.F.Folder.told c.run_script-in-Trim.new.folder; written = g.K.Sink.written c.run_script-in-Trim.new.out; left = g.S.Source.left c.args.input.now; clock = g.C.Clock.readings c.run_script-in-Trim.new.clock })
    (trim_script c.in-Trim.bytes) (trim_script c.in-Trim.bytes) refl refl
    (record {
      plays = c.run_script-in-Trim.ensures.script;
      complete = λ from there usable readings clock no_device no_sink. c.run_script-in-Trim.ensures.complete from there usable readings clock (g.S.Source.left c.args.input.now) no_device no_sink;
      damage = λ from there damage is. c.run_script-in-Trim.ensures.damage from there damage is (g.S.Source.left c.args.input.now);
      cause = c.run_script-in-Trim.ensures.cause;
      memory = λ is. let nothing = c.run_script-in-Trim.ensures.memory is in record { unwritten = nothing.0; unread = refl; unprinted = nothing.1 };
    }) in
    search (rules, does)

pub returns-in-Generate-clause-performs : goal.returns-in-Generate-clause-performs
returns-in-Generate-clause-performs g c =
    let does = script_performs c.run_script-in-Generate.result (bounds_of c.args.asked.limits) (Rises (g.F.Folder.faults c.args.folder.now) (g.F.Folder.faults c.run_script-in-Generate.new.folder)) (Rises (g.S.Source.faults c.args.input.now) (g.S.Source.faults c.args.input.now)) (g.K.Sink.faults c.args.out.now) (g.K.Sink.faults c.run_script-in-Generate.new.out)
    (record { folder = g.F.Folder.told c.args.folder.now; written = g.K.Sink.written c.args.out.now; left = g.S.Source.left c.args.input.now; clock = g.C.Clock.readings c.args.clock.now })
    (record { folder = g.F.Folder.told c.run_script-in-Generate.new.folder; written = g.K.Sink.written c.run_script-in-Generate.new.out; left = g.S.Source.left c.args.input.now; clock = g.C.Clock.readings c.run_script-in-Generate.new.clock })
    (gen_script c.in-Generate.seed c.in-Generate.turns) (gen_script c.in-Generate.seed c.in-Generate.turns) refl refl
    (record {
      plays = c.run_script-in-Generate.ensures.script;
      complete = λ from there usable readings clock no_device no_sink. c.run_script-in-Generate.ensures.complete from there usable readings clock (g.S.Source.left c.args.input.now) no_device no_sink;
      damage = λ from there damage is. c.run_script-in-Generate.ensures.damage from there damage is (g.S.Source.left c.args.input.now);
      cause = c.run_script-in-Generate.ensures.cause;
      memory = λ is. let nothing = c.run_script-in-Generate.ensures.memory is in record { unwritten = nothing.0; unread = refl; unprinted = nothing.1 };
    }) in
    search (rules, does)
