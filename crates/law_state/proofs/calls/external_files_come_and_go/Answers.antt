use Rattle.law_state.proofs.Externals.{deleted-removed, deleting-finds, made-added, making-finds}
use Rattle.law_state.proofs.calls.external_files_come_and_go.Goals as goal

pub returns : goal.returns
returns c = record { making = making-finds; made = made-added; deleting = deleting-finds; deleted = deleted-removed }
