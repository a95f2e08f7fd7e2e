use Rattle.blk_stream.proofs.StreamLists.{written_load}
use Rattle.blk_stream.proofs.laws.written_streams_load.Goals as goal

pub returns : goal.returns
returns c = written_load
