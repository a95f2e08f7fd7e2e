use Rattle.blk_object.proofs.KeptExternalFiles.{creations-add, creations-find}
use Rattle.blk_object.proofs.KeptFreeNumbers.{kept-have-free}
use Rattle.blk_object.proofs.call_laws.external_files_are_added.Goals as goal

pub returns : goal.returns
returns c = record { free = kept-have-free; find = creations-find; added = creations-add }
