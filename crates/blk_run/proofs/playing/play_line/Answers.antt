use Rattle.std.proofs.Common.{◌≡◌, ◌+◌, Ok, Err, length, refl, sym, ◌∙◌, ap, arith, Some}
use Rattle.blk_model.specs.Request.{request_of}
use Rattle.blk_script.specs.Line.{read_text}
use Rattle.blk_script.specs.declared.fault.LineFault.TheVariants as line_fault
use Rattle.blk_cache.specs.CacheKeeping.{KeepsState}
use Rattle.blk_run.proofs.Parts.{stands_fewer}
use Rattle.blk_run.proofs.LineTurns.{commands_have_bytes, error_part, line_part, one_line, part_same, says_too_long}
use Rattle.blk_run.proofs.Reading.{reads_map, reads_none}
use Rattle.blk_run.proofs.playing.play_line.Goals as goal

pub returns-in-Ok-clause-played : goal.returns-in-Ok-clause-played
returns-in-Ok-clause-played g c =
    reads_map c.play_command.ensures.played (λ early late does bytes holds far left at.
    let text : c.in-Some.bytes.now ≡ bytes = c.in-Some.ensures.whole bytes holds _ refl in
    let read : read_text bytes ≡ Ok (request_of c.in-Ok.command) = ap read_text (sym text) ∙ sym c.in-Ok.ensures in
    let long = commands_have_bytes bytes (request_of c.in-Ok.command) read in
    part_same c.play_command.result far (line_part (c.args.played.now.lines + 1) (Ok (request_of c.in-Ok.command))) _ (KeepsState c.play_command.new.cache) (c.play_command.new.cache.notes) left _ _
    (one_line (c.args.played.now.lines + 1) bytes (Ok (request_of c.in-Ok.command)) read)
    (does far left (stands_fewer far (KeepsState c.args.cache.now) (c.args.cache.now.notes) (left + (length bytes + 1)) (left + 2) (g.F.Folder.told c.args.folder.now) (omega (arith, long)) at)))

pub returns-in-Err-clause-played : goal.returns-in-Err-clause-played
returns-in-Err-clause-played g c =
    reads_none (λ here bytes holds far left at.
    let text : c.in-Some.bytes.now ≡ bytes = c.in-Some.ensures.whole bytes holds _ refl in
    let read : read_text bytes ≡ Err c.in-Err.why = ap read_text (sym text) ∙ sym c.in-Err.ensures in
    part_same c.play_error.result far (line_part (c.args.played.now.lines + 1) (Err c.in-Err.why)) _ (KeepsState c.args.cache.now) (c.args.cache.now.notes) left _ _
    (one_line (c.args.played.now.lines + 1) bytes (Err c.in-Err.why) read)
    (error_part c.play_error.result (c.args.played.now.lines + 1) c.in-Err.why far (KeepsState c.args.cache.now) (c.args.cache.now.notes) left (g.F.Folder.told c.args.folder.now) (g.K.Sink.written c.args.out.now) (g.K.Sink.written c.play_error.new.out) (Some here) c.args.played.now.refused c.play_error.new.played.refused
    (stands_fewer far (KeepsState c.args.cache.now) (c.args.cache.now.notes) (left + (length bytes + 1)) left (g.F.Folder.told c.args.folder.now) (omega arith) at) c.play_error.ensures.printed c.play_error.ensures.front c.play_error.ensures.refused c.play_error.ensures.only))

pub returns-in-None-clause-played : goal.returns-in-None-clause-played
returns-in-None-clause-played g c =
    reads_none (λ here bytes holds far left at.
    let read : read_text bytes ≡ Err line_fault.TooLong = says_too_long bytes (c.in-None.ensures.too_long bytes holds refl) in
    part_same c.play_error-in-None.result far (line_part (c.args.played.now.lines + 1) (Err line_fault.TooLong)) _ (KeepsState c.args.cache.now) (c.args.cache.now.notes) left _ _
    (one_line (c.args.played.now.lines + 1) bytes (Err line_fault.TooLong) read)
    (error_part c.play_error-in-None.result (c.args.played.now.lines + 1) line_fault.TooLong far (KeepsState c.args.cache.now) (c.args.cache.now.notes) left (g.F.Folder.told c.args.folder.now) (g.K.Sink.written c.args.out.now) (g.K.Sink.written c.play_error-in-None.new.out) (Some here) c.args.played.now.refused c.play_error-in-None.new.played.refused
    (stands_fewer far (KeepsState c.args.cache.now) (c.args.cache.now.notes) (left + (length bytes + 1)) left (g.F.Folder.told c.args.folder.now) (omega arith) at) c.play_error-in-None.ensures.printed c.play_error-in-None.ensures.front c.play_error-in-None.ensures.refused c.play_error-in-None.ensures.only))
