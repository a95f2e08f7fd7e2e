use Rattle.blk_model.proofs.Opened.{open_valid}
use Rattle.blk_model.proofs.Rests.{rest-open_state}
use Rattle.blk_model.proofs.laws.opened_states_are_valid.Goals as goal

pub returns : goal.returns
returns c = record { valid = open_valid; at_rest = rest-open_state }
