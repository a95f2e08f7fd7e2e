use Rattle.spec_format.proofs.Session.{commands-words-kept, quiet-words-kept}
use Rattle.spec_format.proofs.commands_keep_session_words.Goals as goal

pub returns : goal.returns
returns c = record { along = quiet-words-kept; after = commands-words-kept }
