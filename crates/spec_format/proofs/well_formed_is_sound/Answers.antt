use Rattle.spec_format.proofs.Finished.{formed_sound, formed-kept, sound-whole}
use Rattle.spec_format.proofs.well_formed_is_sound.Goals as goal

pub returns : goal.returns
returns c = record { sound = formed_sound; kept = formed-kept; whole = sound-whole }
