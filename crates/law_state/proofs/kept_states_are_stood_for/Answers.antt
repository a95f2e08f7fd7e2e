use Rattle.law_state.proofs.Keeping.{kept-held, kept-found, kept-stands, kept-sound}
use Rattle.law_state.proofs.Ended.{kept-ends}
use Rattle.law_state.proofs.kept_states_are_stood_for.Goals as goal

pub returns : goal.returns
returns c = record { held = kept-held; found = kept-found; stands = kept-stands; sound = kept-sound; ends = kept-ends }
