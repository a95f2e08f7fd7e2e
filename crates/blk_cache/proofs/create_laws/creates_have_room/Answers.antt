use Rattle.blk_cache.proofs.CreateRoom.{have-room, wants-one}
use Rattle.blk_cache.proofs.create_laws.creates_have_room.Goals as goal

pub returns-clause-wants : goal.returns-clause-wants
returns-clause-wants c = wants-one

pub returns-clause-has : goal.returns-clause-has
returns-clause-has c = have-room
