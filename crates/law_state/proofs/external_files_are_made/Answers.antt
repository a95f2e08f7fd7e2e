use Rattle.law_state.proofs.MakingFiles.{deleted-gone, made-unlinked}
use Rattle.law_state.proofs.external_files_are_made.Goals as goal

pub returns : goal.returns
returns c = record { unlinked = made-unlinked; deleted = deleted-gone }
