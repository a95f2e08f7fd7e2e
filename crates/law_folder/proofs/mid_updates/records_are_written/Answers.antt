use Rattle.law_folder.proofs.updates.Records.{follows-written, fields-written}
use Rattle.law_folder.proofs.mid_updates.records_are_written.Goals as goal

pub returns : goal.returns
returns c = record { chain_next = follows-written; fields = fields-written }
