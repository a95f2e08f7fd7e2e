use Rattle.spec_image.proofs.Quiet.{commands-keep, no-note, quiet-keeps}
use Rattle.spec_image.proofs.commands_keep_the_session.Goals as goal

pub returns : goal.returns
returns c = record { along = quiet-keeps; after = commands-keep; unnoted = no-note }
