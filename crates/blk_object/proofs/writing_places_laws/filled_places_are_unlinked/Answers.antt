use Rattle.blk_object.proofs.WritingPlaces.{filled-unlinked, filling-finds, freed-removes}
use Rattle.blk_object.proofs.writing_places_laws.filled_places_are_unlinked.Goals as goal

pub returns : goal.returns
returns c = record { finds = filling-finds; unlinked = filled-unlinked; removed = freed-removes }
