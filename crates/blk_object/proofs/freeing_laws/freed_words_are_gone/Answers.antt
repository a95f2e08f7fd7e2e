use Rattle.blk_object.proofs.FreedPlaces.{all-counted, all-gone, all-out, freeable, going-finds, going-finds-doomed}
use Rattle.blk_object.proofs.Sessions.{freed-session}
use Rattle.blk_object.proofs.freeing_laws.freed_words_are_gone.Goals as goal

pub returns : goal.returns
returns c = record { may = freeable; gone = all-gone; out = all-out; counters = all-counted; session = freed-session; find = going-finds; doomed = going-finds-doomed }
