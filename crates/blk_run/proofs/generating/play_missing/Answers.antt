use Rattle.std.proofs.Common.{◌+◌, true, false, if◌then◌else◌, sym, ◌∙◌, ap, arith}
use Rattle.blk_model.specs.Request.{to_create}
use Rattle.spec_run.specs.Script.{is_refused}
use Rattle.blk_gen.specs.Generator.{used_turn}
use Rattle.blk_cache.specs.CacheKeeping.{KeepsState}
use Rattle.blk_run.proofs.CountedTurns.{asked_as, behind_create, ends_there, goes_on, step_fails}
use Rattle.blk_run.proofs.Reading.{reads_map, reads_then}
use Rattle.blk_run.proofs.generating.play_missing.Goals as goal

pub returns-in_err-made-clause-played : goal.returns-in_err-made-clause-played
returns-in_err-made-clause-played g c =
    reads_map c.in_err-made.ensures.asked (λ early late was far left commands following w refused few within at.
    step_fails c.in_err-made.field-0.0 _ _ _ (KeepsState c.args.cache.now) (KeepsState c.ask_counted.new.cache) c.args.cache.now.notes c.ask_counted.new.cache.notes _ _ _ _ (asked_as _ _ (ap (to_create 0) c.key-key.ensures) _ _ _ _ _ _ _ _ _ _ _ was)
    (λ made counted. if is_refused made then following counted else used_turn c.args.number c.args.turn.now counted following) far left (left + 8) (omega arith) at w refused c.from_residual.result c.from_residual.ensures.1 (commands + 4) c.ask_counted.new.counts (following c.ask_counted.new.counts))

pub returns-then-is_refusal-clause-played : goal.returns-then-is_refusal-clause-played
returns-then-is_refusal-clause-played g c =
    reads_map c.in_ok-made.ensures.asked (λ early late was far left commands following w refused few within at.
    ends_there c.in_ok-made.made _ _ _ (KeepsState c.args.cache.now) (KeepsState c.ask_counted.new.cache) c.args.cache.now.notes c.ask_counted.new.cache.notes _ _ _ _ (asked_as _ _ (ap (to_create 0) c.key-key.ensures) _ _ _ _ _ _ _ _ _ _ _ was)
    (λ made counted. if is_refused made then following counted else used_turn c.args.number c.args.turn.now counted following) far (left + 8) commands at (omega (arith, few)) within w refused left (commands + 4) (omega arith) (omega arith) (following c.ask_counted.new.counts)
    (λ made is. behind_create c.in_ok-made.made made true (following c.ask_counted.new.counts) (used_turn c.args.number c.args.turn.now c.ask_counted.new.counts following) is (sym c.is_refusal.ensures ∙ c.if-is_refusal.true)))

pub returns-clause-played : goal.returns-clause-played
returns-clause-played g c =
    reads_then c.in_ok-made.ensures.asked c.play_used.ensures.played (λ early mid late was does far left commands following w refused few within at.
    goes_on c.in_ok-made.made _ _ _ (KeepsState c.args.cache.now) (KeepsState c.ask_counted.new.cache) c.args.cache.now.notes c.ask_counted.new.cache.notes _ _ _ _ (asked_as _ _ (ap (to_create 0) c.key-key.ensures) _ _ _ _ _ _ _ _ _ _ _ was)
    (λ made counted. if is_refused made then following counted else used_turn c.args.number c.args.turn.now counted following) far (left + 8) commands at (omega (arith, few)) within w refused left (left + 6) (commands + 1 + 3) (commands + 4) (omega arith) (omega arith) (used_turn c.args.number c.args.turn.now c.ask_counted.new.counts following) (following c.play_used.new.counts)
    (λ made is. behind_create c.in_ok-made.made made false (following c.ask_counted.new.counts) (used_turn c.args.number c.args.turn.now c.ask_counted.new.counts following) is (sym c.is_refusal.ensures ∙ c.if-is_refusal.false))
    c.play_used.result c.play_used.new.counts (KeepsState c.play_used.new.cache) c.play_used.new.cache.notes _ _
    (λ next at1 within1. does next left (commands + 1) following w refused (omega (arith, few)) within1 at1))
