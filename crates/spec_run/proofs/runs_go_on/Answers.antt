use Rattle.spec_run.proofs.Composing.{one_more, stays, stopped}
use Rattle.spec_run.proofs.InTurn.{many_more, note_exact, noted_then}
use Rattle.spec_run.proofs.runs_go_on.Goals as goal

pub returns : goal.returns
returns c = record { command = one_more; in_turn = many_more; follow = noted_then; part = stopped; between = stays; numbers = note_exact }
