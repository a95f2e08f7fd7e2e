use Rattle.blk_object.proofs.HeldDooms.{held-out-counted}
use Rattle.blk_object.proofs.TakenParts.{left-keeps}
use Rattle.blk_object.proofs.UnlinkedLoads.{counted-keeps, freed-keeps}
use Rattle.blk_object.proofs.dooming_laws.held_objects_are_doomed.Goals as goal

pub returns : goal.returns
returns c = record { taken = left-keeps; freed = freed-keeps; counted = counted-keeps; ends = held-out-counted }
