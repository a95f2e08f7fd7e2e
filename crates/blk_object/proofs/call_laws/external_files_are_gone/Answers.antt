use Rattle.blk_object.proofs.KeptExternalFiles.{deletions-find, deletions-remove}
use Rattle.blk_object.proofs.call_laws.external_files_are_gone.Goals as goal

pub returns : goal.returns
returns c = record { find = deletions-find; removed = deletions-remove }
