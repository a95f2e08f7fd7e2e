use Rattle.spec_run.proofs.Turns.{asked_next, commands_first, clock_read, fixed_turn, lines_turn, more_turns, played_away, played_command, played_error, played_none, played_text, played_then, run_cut, run_whole}
use Rattle.spec_run.proofs.scripts_are_played.Goals as goal

pub returns : goal.returns
returns c = record { nothing = played_none; command = played_command; error = played_error; away = played_away; text = played_text; go_on = played_then; lines = more_turns; reads = clock_read; lines_read = lines_turn; fixed_read = fixed_turn; cut = run_cut; whole = run_whole; first = commands_first; next = asked_next }
