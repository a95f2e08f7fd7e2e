use Rattle.spec_run.proofs.EarlyTexts.{evictions_early, fixed_early, lines_early}
use Rattle.spec_run.proofs.Replies.{answered_done, answered_noted}
use Rattle.spec_run.proofs.replies_follow_notes.Goals as goal

pub returns : goal.returns
returns c = record { noted = answered_noted; done = answered_done; early = evictions_early; lines = lines_early; fixed = fixed_early }
