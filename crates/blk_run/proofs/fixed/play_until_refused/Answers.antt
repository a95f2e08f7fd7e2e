use Rattle.blk_cache.specs.CacheKeeping.{KeepsState}
use Rattle.std.proofs.Common.{◌≡◌, ◌*◌, ◌+◌, ◌-◌, Bool, List, [], Result, Ok, Err, length, drop, map, refl, sym, ◌∙◌, ap, subst, arith, Some}
use Rattle.blk_model.specs.Request.{Request, request_of}
use Rattle.spec_run.specs.Script.{until_refused}
use Rattle.spec_run.specs.Run.{turns}
use Rattle.blk_cache.specs.declared.fault.StepFault.{StepFault}
use Rattle.blk_run.specs.Playing.{PlaysPart, SoFar, around, state_now, with_more}
use Rattle.spec_run.specs.Run.{commands_of}
use Rattle.blk_run.proofs.Parts.{stands_fewer}
use Rattle.blk_run.proofs.FixedTurns.{asked_fault, asked_last, asked_on, fault_is, next_is, none_is, nothing_left, up_to_end, up_to_none, made_none}
use Rattle.blk_io.proofs.GoingOn.{goes_on, stays_on}
use Rattle.blk_run.proofs.Reading.{reads_map, reads_none, reads_then}
use Rattle.blk_run.proofs.fixed.play_until_refused.Goals as goal

pub loop-command-init : goal.loop-command-init
loop-command-init g c = record {
  plays = reads_none (λ here far left at. up_to_none (turns (until_refused (map request_of c.args.commands.now))) far (KeepsState c.args.cache.now) (c.args.cache.now.notes) (left + 2 * (length c.args.commands.now - 0)) _
      (stands_fewer far (KeepsState c.args.cache.now) (c.args.cache.now.notes) (left + 2 * length c.args.commands.now) (left + 2 * (length c.args.commands.now - 0)) (g.F.Folder.told c.args.folder.now) (omega arith) at));
  refused = refl;
  is_open = c.requires.is_open;
  later = omega arith;
  printed_later = stays_on;
  handed = λ none. none;
}

pub returns-in_err-answer-clause-played : goal.returns-in_err-answer-clause-played
returns-in_err-answer-clause-played g c =
    reads_then c.loop-command.invariant.plays c.in_err-answer.ensures.asked (λ early mid late so_far was far left at.
    let before = so_far far left at in
    let here : SoFar = with_more far (commands_of before.made) in
    let enough : left + 2 * (length c.args.commands.now - c.loop-command.command-index) ≡ left + 2 * (length c.args.commands.now - (c.loop-command.command-index + 1)) + 2 = let w = c.loop-command-test.true in omega (arith, w) in
    let asked = was here left (stands_fewer here (KeepsState c.loop-command.cache) (c.loop-command.cache.notes) _ (left + 2) (g.F.Folder.told c.loop-command.folder) (omega (arith, enough)) before.plays.stands) in
    subst (λ (r : Result (Unit {0}) StepFault). PlaysPart r (turns (until_refused (map request_of c.args.commands.now))) far (KeepsState c.ask.new.cache) (c.ask.new.cache.notes) left
    (around (g.F.Folder.told c.args.folder.now) (g.K.Sink.written c.args.out.now) (Some early) c.args.refused.now) (around (g.F.Folder.told c.ask.new.folder) (g.K.Sink.written c.ask.new.out) (Some late) c.loop-command.refused)) (sym (fault_is c.from_residual.result c.in_err-answer.field-0.0 c.from_residual.ensures.1))
    (subst (λ (b : Bool). PlaysPart {A = Unit {0}} (Err c.in_err-answer.field-0.0) (turns (until_refused (map request_of c.args.commands.now))) far (KeepsState c.ask.new.cache) (c.ask.new.cache.notes) left
    (around (g.F.Folder.told c.args.folder.now) (g.K.Sink.written c.args.out.now) (Some early) c.args.refused.now) (around (g.F.Folder.told c.ask.new.folder) (g.K.Sink.written c.ask.new.out) (Some late) b)) (sym c.loop-command.invariant.refused)
    (asked_fault (turns (until_refused (map request_of c.args.commands.now))) (map request_of (drop c.loop-command.command-index c.args.commands.now)) (map request_of (drop (c.loop-command.command-index + 1) c.args.commands.now)) _ (next_is c.args.commands.now c.loop-command.command-index _ c.loop-command-test.true) far _ (KeepsState c.loop-command.cache) (KeepsState c.ask.new.cache) (c.loop-command.cache.notes) (c.ask.new.cache.notes) (left + 2 * (length c.args.commands.now - c.loop-command.command-index)) left
    (g.F.Folder.told c.loop-command.folder) (g.F.Folder.told c.ask.new.folder) (g.K.Sink.written c.loop-command.out) (g.K.Sink.written c.ask.new.out) (Some mid) (Some late) c.args.refused.now before c.in_err-answer.field-0.0 asked)))

pub returns-then-is_refusal-clause-played : goal.returns-then-is_refusal-clause-played
returns-then-is_refusal-clause-played g c =
    reads_then c.loop-command.invariant.plays c.in_ok-answer.ensures.asked (λ early mid late so_far was far left at.
    let before = so_far far left at in
    let here : SoFar = with_more far (commands_of before.made) in
    let enough : left + 2 * (length c.args.commands.now - c.loop-command.command-index) ≡ left + 2 * (length c.args.commands.now - (c.loop-command.command-index + 1)) + 2 = let w = c.loop-command-test.true in omega (arith, w) in
    let asked = was here left (stands_fewer here (KeepsState c.loop-command.cache) (c.loop-command.cache.notes) _ (left + 2) (g.F.Folder.told c.loop-command.folder) (omega (arith, enough)) before.plays.stands) in
    asked_last (turns (until_refused (map request_of c.args.commands.now))) (map request_of (drop c.loop-command.command-index c.args.commands.now)) (map request_of (drop (c.loop-command.command-index + 1) c.args.commands.now)) _ (next_is c.args.commands.now c.loop-command.command-index _ c.loop-command-test.true) far _ (KeepsState c.loop-command.cache) (KeepsState c.ask.new.cache) (c.loop-command.cache.notes) (c.ask.new.cache.notes) (left + 2 * (length c.args.commands.now - c.loop-command.command-index)) left
    (g.F.Folder.told c.loop-command.folder) (g.F.Folder.told c.ask.new.folder) (g.K.Sink.written c.loop-command.out) (g.K.Sink.written c.ask.new.out) (Some mid) (Some late) c.args.refused.now before c.in_ok-answer.answer asked (sym c.is_refusal.ensures ∙ c.if-is_refusal.true))

pub loop-command-preserved : goal.loop-command-preserved
loop-command-preserved g c = record {
  plays = reads_then c.loop-command.invariant.plays c.in_ok-answer.ensures.asked (λ early mid late so_far was far left at.
      let before = so_far far left at in
      let here : SoFar = with_more far (commands_of before.made) in
      let enough : left + 2 * (length c.args.commands.now - c.loop-command.command-index) ≡ left + 2 * (length c.args.commands.now - (c.loop-command.command-index + 1)) + 2 = let w = c.loop-command-test.true in omega (arith, w) in
      let asked = was here (left + 2 * (length c.args.commands.now - (c.loop-command.command-index + 1))) (stands_fewer here (KeepsState c.loop-command.cache) (c.loop-command.cache.notes) _ _ (g.F.Folder.told c.loop-command.folder) (omega (arith, enough)) before.plays.stands) in
      asked_on (turns (until_refused (map request_of c.args.commands.now))) (map request_of (drop c.loop-command.command-index c.args.commands.now)) (map request_of (drop (c.loop-command.command-index + 1) c.args.commands.now)) _ (next_is c.args.commands.now c.loop-command.command-index _ c.loop-command-test.true) far _ (KeepsState c.loop-command.cache) (KeepsState c.ask.new.cache) (c.loop-command.cache.notes) (c.ask.new.cache.notes) (left + 2 * (length c.args.commands.now - c.loop-command.command-index)) (left + 2 * (length c.args.commands.now - (c.loop-command.command-index + 1)))
      (g.F.Folder.told c.loop-command.folder) (g.F.Folder.told c.ask.new.folder) (g.K.Sink.written c.loop-command.out) (g.K.Sink.written c.ask.new.out) (Some mid) (Some late) c.args.refused.now before c.in_ok-answer.answer asked (sym c.is_refusal.ensures ∙ c.if-is_refusal.false));
  refused = c.loop-command.invariant.refused;
  is_open = c.in_ok-answer.ensures.is_open;
  later = let a = c.loop-command.invariant.later in let b = c.in_ok-answer.ensures.later in omega (arith, a, b);
  printed_later = goes_on c.loop-command.invariant.printed_later c.in_ok-answer.ensures.printed_later;
  handed = λ none. c.in_ok-answer.ensures.handed;
}

pub returns-clause-played : goal.returns-clause-played
returns-clause-played g c =
    reads_map c.loop-command.invariant.plays (λ early late so_far far left at.
    let before = so_far far left at in
    let none = none_is c.args.commands.now c.loop-command.command-index c.loop-command-test.false in
    subst (λ (b : Bool). PlaysPart {A = Unit {0}} (Ok tt) (turns (until_refused (map request_of c.args.commands.now))) far (KeepsState c.loop-command.cache) (c.loop-command.cache.notes) left
    (around (g.F.Folder.told c.args.folder.now) (g.K.Sink.written c.args.out.now) (Some early) c.args.refused.now) (around (g.F.Folder.told c.loop-command.folder) (g.K.Sink.written c.loop-command.out) (Some late) b)) (sym c.loop-command.invariant.refused)
    (up_to_end (turns (until_refused (map request_of c.args.commands.now))) (turns (until_refused (map request_of (drop c.loop-command.command-index c.args.commands.now)))) far _ _ _ (KeepsState c.loop-command.cache) (KeepsState c.loop-command.cache) (c.loop-command.cache.notes) (c.loop-command.cache.notes) (left + 2 * (length c.args.commands.now - c.loop-command.command-index)) left before (Ok tt) []
    (λ r there. ap (λ (l : List Request). turns (until_refused l) (state_now (with_more far (commands_of before.made))) r) none ∙ nothing_left (state_now (with_more far (commands_of before.made))) r)
    (made_none (with_more far (commands_of before.made)) (KeepsState c.loop-command.cache) (c.loop-command.cache.notes) left (around (g.F.Folder.told c.loop-command.folder) (g.K.Sink.written c.loop-command.out) (Some late) c.args.refused.now)
    (stands_fewer (with_more far (commands_of before.made)) (KeepsState c.loop-command.cache) (c.loop-command.cache.notes) _ left (g.F.Folder.told c.loop-command.folder) (omega arith) before.plays.stands))))
