use Rattle.spec_image.proofs.NotesLemmas.{are_true-append}
use Rattle.spec_image.proofs.notes_go_on.Goals as goal

pub returns : goal.returns
returns c = are_true-append
