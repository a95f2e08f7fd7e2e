use Rattle.std.proofs.Common.{◌≡◌, ◌||◌, Bool, true, false, refl, sym, ◌∙◌, ap, Some}
use Rattle.blk_model.specs.Request.{request_of}
use Rattle.blk_cache.specs.CacheKeeping.{KeepsState}
use Rattle.blk_run.proofs.Parts.{part_handed}
use Rattle.blk_run.proofs.LineTurns.{command_fault, command_part}
use Rattle.blk_run.proofs.Reading.{reads_map}
use Rattle.blk_run.proofs.playing.play_command.Goals as goal

or_true : (b : Bool) → true ≡ (b || true)
or_true true = refl
or_true false = refl

or_false : (b : Bool) → b ≡ (b || false)
or_false true = refl
or_false false = refl

pub returns-in_err-answer-clause-played : goal.returns-in_err-answer-clause-played
returns-in_err-answer-clause-played g c =
    reads_map c.in_err-answer.ensures.asked (λ early late was far left at.
    part_handed c.from_residual.result c.in_err-answer.field-0.0 _ far (KeepsState c.ask.new.cache) (c.ask.new.cache.notes) left _ _ c.from_residual.ensures.1
    (command_fault c.args.played.now.lines (request_of c.args.command.now) far (KeepsState c.ask.new.cache) (c.ask.new.cache.notes) left (g.F.Folder.told c.args.folder.now) (g.F.Folder.told c.ask.new.folder) (g.K.Sink.written c.args.out.now) (g.K.Sink.written c.ask.new.out) (Some early) (Some late) c.args.played.now.refused c.args.played.now.refused
    c.in_err-answer.field-0.0 (was far left at)))

pub returns-then-is_refusal-clause-played : goal.returns-then-is_refusal-clause-played
returns-then-is_refusal-clause-played g c =
    reads_map c.in_ok-answer.ensures.asked (λ early late was far left at.
    command_part c.args.played.now.lines (request_of c.args.command.now) far (KeepsState c.ask.new.cache) (c.ask.new.cache.notes) left (g.F.Folder.told c.args.folder.now) (g.F.Folder.told c.ask.new.folder) (g.K.Sink.written c.args.out.now) (g.K.Sink.written c.ask.new.out) (Some early) (Some late) c.args.played.now.refused true
    c.in_ok-answer.answer (was far left at) (or_true c.args.played.now.refused ∙ ap (λ (b : Bool). c.args.played.now.refused || b) (sym c.if-is_refusal.true ∙ c.is_refusal.ensures)))

pub returns-else-is_refusal-clause-played : goal.returns-else-is_refusal-clause-played
returns-else-is_refusal-clause-played g c =
    reads_map c.in_ok-answer.ensures.asked (λ early late was far left at.
    command_part c.args.played.now.lines (request_of c.args.command.now) far (KeepsState c.ask.new.cache) (c.ask.new.cache.notes) left (g.F.Folder.told c.args.folder.now) (g.F.Folder.told c.ask.new.folder) (g.K.Sink.written c.args.out.now) (g.K.Sink.written c.ask.new.out) (Some early) (Some late) c.args.played.now.refused c.args.played.now.refused
    c.in_ok-answer.answer (was far left at) (or_false c.args.played.now.refused ∙ ap (λ (b : Bool). c.args.played.now.refused || b) (sym c.if-is_refusal.false ∙ c.is_refusal.ensures)))
