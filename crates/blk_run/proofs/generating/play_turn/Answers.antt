use Rattle.std.proofs.Common.{◌+◌, true, false, if◌then◌else◌, sym, ◌∙◌, ap, arith}
use Rattle.blk_model.specs.Request.{to_open}
use Rattle.spec_run.specs.Script.{is_missing, is_refused}
use Rattle.blk_gen.specs.Generator.{created_turn, used_turn}
use Rattle.blk_cache.specs.CacheKeeping.{KeepsState}
use Rattle.blk_run.proofs.CountedTurns.{asked_as, behind_missing, behind_open, ends_there, goes_on, step_fails}
use Rattle.blk_run.proofs.Reading.{reads_map, reads_then}
use Rattle.blk_run.proofs.generating.play_turn.Goals as goal

pub returns-in_err-opened-clause-played : goal.returns-in_err-opened-clause-played
returns-in_err-opened-clause-played g c =
    reads_map c.in_err-opened.ensures.asked (λ early late was far left commands following w refused few within at.
    step_fails c.in_err-opened.field-0.0 _ _ _ (KeepsState c.args.cache.now) (KeepsState c.ask_counted.new.cache) c.args.cache.now.notes c.ask_counted.new.cache.notes _ _ _ _ (asked_as _ _ (ap (to_open 0) c.key-key.ensures) _ _ _ _ _ _ _ _ _ _ _ was)
    (λ opened counted. if is_missing opened then created_turn c.args.number c.args.turn.now counted following else if is_refused opened then following counted else used_turn c.args.number c.args.turn.now counted following) far left (left + 10) (omega arith) at w refused c.from_residual.result c.from_residual.ensures.1 (commands + 5) c.ask_counted.new.counts (following c.ask_counted.new.counts))

pub returns-then-is_missing-clause-played : goal.returns-then-is_missing-clause-played
returns-then-is_missing-clause-played g c =
    reads_then c.in_ok-opened.ensures.asked c.play_missing.ensures.played (λ early mid late was does far left commands following w refused few within at.
    goes_on c.in_ok-opened.opened _ _ _ (KeepsState c.args.cache.now) (KeepsState c.ask_counted.new.cache) c.args.cache.now.notes c.ask_counted.new.cache.notes _ _ _ _ (asked_as _ _ (ap (to_open 0) c.key-key.ensures) _ _ _ _ _ _ _ _ _ _ _ was)
    (λ opened counted. if is_missing opened then created_turn c.args.number c.args.turn.now counted following else if is_refused opened then following counted else used_turn c.args.number c.args.turn.now counted following) far (left + 10) commands at (omega (arith, few)) within w refused left (left + 8) (commands + 1 + 4) (commands + 5) (omega arith) (omega arith) (created_turn c.args.number c.args.turn.now c.ask_counted.new.counts following) (following c.play_missing.new.counts)
    (λ made is. behind_missing c.in_ok-opened.opened made (created_turn c.args.number c.args.turn.now c.ask_counted.new.counts following) (following c.ask_counted.new.counts) (used_turn c.args.number c.args.turn.now c.ask_counted.new.counts following) is (sym c.is_missing.ensures ∙ c.if-is_missing.true))
    c.play_missing.result c.play_missing.new.counts (KeepsState c.play_missing.new.cache) c.play_missing.new.cache.notes _ _
    (λ next at1 within1. does next left (commands + 1) following w refused (omega (arith, few)) within1 at1))

pub returns-then-is_refusal-clause-played : goal.returns-then-is_refusal-clause-played
returns-then-is_refusal-clause-played g c =
    reads_map c.in_ok-opened.ensures.asked (λ early late was far left commands following w refused few within at.
    ends_there c.in_ok-opened.opened _ _ _ (KeepsState c.args.cache.now) (KeepsState c.ask_counted.new.cache) c.args.cache.now.notes c.ask_counted.new.cache.notes _ _ _ _ (asked_as _ _ (ap (to_open 0) c.key-key.ensures) _ _ _ _ _ _ _ _ _ _ _ was)
    (λ opened counted. if is_missing opened then created_turn c.args.number c.args.turn.now counted following else if is_refused opened then following counted else used_turn c.args.number c.args.turn.now counted following) far (left + 10) commands at (omega (arith, few)) within w refused left (commands + 5) (omega arith) (omega arith) (following c.ask_counted.new.counts)
    (λ made is. behind_open c.in_ok-opened.opened made true (created_turn c.args.number c.args.turn.now c.ask_counted.new.counts following) (following c.ask_counted.new.counts) (used_turn c.args.number c.args.turn.now c.ask_counted.new.counts following) is (sym c.is_missing.ensures ∙ c.if-is_missing.false) (sym c.is_refusal.ensures ∙ c.if-is_refusal.true)))

pub returns-clause-played : goal.returns-clause-played
returns-clause-played g c =
    reads_then c.in_ok-opened.ensures.asked c.play_used.ensures.played (λ early mid late was does far left commands following w refused few within at.
    goes_on c.in_ok-opened.opened _ _ _ (KeepsState c.args.cache.now) (KeepsState c.ask_counted.new.cache) c.args.cache.now.notes c.ask_counted.new.cache.notes _ _ _ _ (asked_as _ _ (ap (to_open 0) c.key-key.ensures) _ _ _ _ _ _ _ _ _ _ _ was)
    (λ opened counted. if is_missing opened then created_turn c.args.number c.args.turn.now counted following else if is_refused opened then following counted else used_turn c.args.number c.args.turn.now counted following) far (left + 10) commands at (omega (arith, few)) within w refused left (left + 6) (commands + 1 + 3) (commands + 5) (omega arith) (omega arith) (used_turn c.args.number c.args.turn.now c.ask_counted.new.counts following) (following c.play_used.new.counts)
    (λ made is. behind_open c.in_ok-opened.opened made false (created_turn c.args.number c.args.turn.now c.ask_counted.new.counts following) (following c.ask_counted.new.counts) (used_turn c.args.number c.args.turn.now c.ask_counted.new.counts following) is (sym c.is_missing.ensures ∙ c.if-is_missing.false) (sym c.is_refusal.ensures ∙ c.if-is_refusal.false))
    c.play_used.result c.play_used.new.counts (KeepsState c.play_used.new.cache) c.play_used.new.cache.notes _ _
    (λ next at1 within1. does next left (commands + 1) following w refused (omega (arith, few)) within1 at1))
