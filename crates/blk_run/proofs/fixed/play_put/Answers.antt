use Rattle.blk_cache.specs.CacheKeeping.{KeepsState}
use Rattle.std.proofs.Common.{◌+◌, ◌∷◌, Result, sym, ◌∙◌, subst, arith, Some}
use Rattle.spec_run.specs.Script.{put_script, until_refused}
use Rattle.spec_run.specs.Run.{commands_of, turns}
use Rattle.blk_model.specs.Request.{to_create}
use Rattle.blk_cache.specs.declared.fault.StepFault.{StepFault}
use Rattle.blk_run.specs.Playing.{PlaysPart, around, with_more}
use Rattle.blk_run.proofs.FixedTurns.{fault_is, up_to_part}
use Rattle.blk_run.proofs.Parts.{stands_fewer}
use Rattle.blk_run.proofs.PutTurns.{put_fault, put_missing, put_opened, put_refused, put_unprinted, requests_of, sink_is}
use Rattle.blk_run.proofs.Reading.{reads_map, reads_then}
use Rattle.blk_run.proofs.fixed.play_put.Goals as goal

pub returns-in_err-opened-clause-played : goal.returns-in_err-opened-clause-played
returns-in_err-opened-clause-played g c =
    reads_map c.in_err-opened.ensures.asked (λ early late was far left at.
    let asked = was far left (stands_fewer far (KeepsState c.args.cache.now) (c.args.cache.now.notes) (left + 8) (left + 2) (g.F.Folder.told c.args.folder.now) (omega arith) at) in
    subst (λ (r : Result (Unit {0}) StepFault). PlaysPart r (turns (put_script c.args.put.key.now c.args.put.stream c.args.put.bytes.now)) far (KeepsState c.ask_unshown.new.cache) (c.ask_unshown.new.cache.notes) left
    (around (g.F.Folder.told c.args.folder.now) (g.K.Sink.written c.args.out.now) (Some early) c.args.refused.now) (around (g.F.Folder.told c.ask_unshown.new.folder) (g.K.Sink.written c.args.out.now) (Some late) c.args.refused.now)) (sym (fault_is c.from_residual.result c.in_err-opened.field-0.0 c.from_residual.ensures.1))
    (put_fault c.args.put.key.now c.args.put.stream c.args.put.bytes.now far (KeepsState c.ask_unshown.new.cache) (c.ask_unshown.new.cache.notes) left (g.F.Folder.told c.args.folder.now) (g.F.Folder.told c.ask_unshown.new.folder)
    (g.K.Sink.written c.args.out.now) (g.K.Sink.written c.args.out.now) (Some early) (Some late) c.args.refused.now c.in_err-opened.field-0.0 asked c.in_err-opened.ensures.no_sink))

pub returns-then-is_missing-clause-played : goal.returns-then-is_missing-clause-played
returns-then-is_missing-clause-played g c =
    reads_then c.in_ok-opened.ensures.asked c.play_until_refused.ensures.played (λ early mid late was does far left at.
    let asked = was far (left + 6) (stands_fewer far (KeepsState c.args.cache.now) (c.args.cache.now.notes) (left + 8) (left + 6 + 2) (g.F.Folder.told c.args.folder.now) (omega arith) at) in
    let before = put_missing c.args.put.key.now c.args.put.stream c.args.put.bytes.now far (KeepsState c.ask_unshown.new.cache) (c.ask_unshown.new.cache.notes) (left + 6) (g.F.Folder.told c.args.folder.now) (g.F.Folder.told c.ask_unshown.new.folder)
    (g.K.Sink.written c.args.out.now) (g.K.Sink.written c.args.out.now) (Some early) (Some mid) c.args.refused.now c.in_ok-opened.opened asked (sym c.is_missing.ensures ∙ c.if-is_missing.true) in
    up_to_part (turns (put_script c.args.put.key.now c.args.put.stream c.args.put.bytes.now)) (turns (until_refused (to_create 0 c.args.put.key.now ∷ requests_of c.args.put.stream c.args.put.bytes.now))) far _ _ _ (KeepsState c.ask_unshown.new.cache) (KeepsState c.play_until_refused.new.cache)
    (c.ask_unshown.new.cache.notes) (c.play_until_refused.new.cache.notes) (left + 6) left before c.play_until_refused.result (does (with_more far (commands_of before.made)) left before.plays.stands))

pub returns-in_err-print_opened-clause-played : goal.returns-in_err-print_opened-clause-played
returns-in_err-print_opened-clause-played g c =
    reads_map c.in_ok-opened.ensures.asked (λ early late was far left at.
    let asked = was far left (stands_fewer far (KeepsState c.args.cache.now) (c.args.cache.now.notes) (left + 8) (left + 2) (g.F.Folder.told c.args.folder.now) (omega arith) at) in
    subst (λ (r : Result (Unit {0}) StepFault). PlaysPart r (turns (put_script c.args.put.key.now c.args.put.stream c.args.put.bytes.now)) far (KeepsState c.ask_unshown.new.cache) (c.ask_unshown.new.cache.notes) left
    (around (g.F.Folder.told c.args.folder.now) (g.K.Sink.written c.args.out.now) (Some early) c.args.refused.now) (around (g.F.Folder.told c.ask_unshown.new.folder) (g.K.Sink.written c.print_opened.new.out) (Some late) c.args.refused.now))
    (sym (sink_is c.from_residual-in_err-print_opened.result c.in_err-print_opened.field-0.0 c.from_residual-in_err-print_opened.ensures.1 c.in_err-print_opened.ensures.only))
    (put_unprinted c.args.put.key.now c.args.put.stream c.args.put.bytes.now far (KeepsState c.ask_unshown.new.cache) (c.ask_unshown.new.cache.notes) left (g.F.Folder.told c.args.folder.now) (g.F.Folder.told c.ask_unshown.new.folder)
    (g.K.Sink.written c.args.out.now) (g.K.Sink.written c.print_opened.new.out) (Some early) (Some late) c.args.refused.now c.in_ok-opened.opened asked (sym c.is_missing.ensures ∙ c.if-is_missing.false) c.print_opened.ensures.front))

pub returns-then-is_refusal-clause-played : goal.returns-then-is_refusal-clause-played
returns-then-is_refusal-clause-played g c =
    reads_map c.in_ok-opened.ensures.asked (λ early late was far left at.
    let asked = was far left (stands_fewer far (KeepsState c.args.cache.now) (c.args.cache.now.notes) (left + 8) (left + 2) (g.F.Folder.told c.args.folder.now) (omega arith) at) in
    put_refused c.args.put.key.now c.args.put.stream c.args.put.bytes.now far (KeepsState c.ask_unshown.new.cache) (c.ask_unshown.new.cache.notes) left (g.F.Folder.told c.args.folder.now) (g.F.Folder.told c.ask_unshown.new.folder)
    (g.K.Sink.written c.args.out.now) (g.K.Sink.written c.print_opened.new.out) (Some early) (Some late) c.args.refused.now c.in_ok-opened.opened asked (sym c.is_missing.ensures ∙ c.if-is_missing.false)
    (sym c.is_refusal.ensures ∙ c.if-is_refusal.true) c.in_ok-print_opened.ensures.printed)

pub returns-clause-played : goal.returns-clause-played
returns-clause-played g c =
    reads_then c.in_ok-opened.ensures.asked c.play_until_refused-2.ensures.played (λ early mid late was does far left at.
    let asked = was far (left + 4) (stands_fewer far (KeepsState c.args.cache.now) (c.args.cache.now.notes) (left + 8) (left + 4 + 2) (g.F.Folder.told c.args.folder.now) (omega arith) at) in
    let before = put_opened c.args.put.key.now c.args.put.stream c.args.put.bytes.now far (KeepsState c.ask_unshown.new.cache) (c.ask_unshown.new.cache.notes) (left + 4) (g.F.Folder.told c.args.folder.now) (g.F.Folder.told c.ask_unshown.new.folder)
    (g.K.Sink.written c.args.out.now) (g.K.Sink.written c.print_opened.new.out) (Some early) (Some mid) c.args.refused.now c.in_ok-opened.opened asked (sym c.is_missing.ensures ∙ c.if-is_missing.false)
    (sym c.is_refusal.ensures ∙ c.if-is_refusal.false) c.in_ok-print_opened.ensures.printed in
    up_to_part (turns (put_script c.args.put.key.now c.args.put.stream c.args.put.bytes.now)) (turns (until_refused (requests_of c.args.put.stream c.args.put.bytes.now))) far _ _ _ (KeepsState c.ask_unshown.new.cache) (KeepsState c.play_until_refused-2.new.cache)
    (c.ask_unshown.new.cache.notes) (c.play_until_refused-2.new.cache.notes) (left + 4) left before c.play_until_refused-2.result (does (with_more far (commands_of before.made)) left before.plays.stands))
