use Rattle.blk_cache.proofs.OpenedFolders.{made-repairable, repaired-kept, told-totals}
use Rattle.blk_cache.proofs.laws.repaired_folders_keep_their_state.Goals as goal

pub returns : goal.returns
returns c = record { made = made-repairable; keeps = repaired-kept; totals = told-totals }
