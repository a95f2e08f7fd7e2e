use Rattle.law_state.proofs.CommandEnding.{closes-doomed, closes-free, closes-left, closes-settle, flushes-left, flushes-of-settled, flushes-settle}
use Rattle.law_state.proofs.commands.closes_settle.Goals as goal

pub returns : goal.returns
returns c = record { several = closes-free; ends = closes-settle; leaves = closes-left; doomed = closes-doomed; flushes = flushes-settle; flushes_leave = flushes-left; none = flushes-of-settled }
