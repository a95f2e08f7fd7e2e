use Rattle.blk_object.proofs.KeptEntries.{change-own, writing-keeps}
use Rattle.blk_object.proofs.KeptNewEntries.{written-new}
use Rattle.blk_object.proofs.call_laws.new_entries_are_written.Goals as goal

pub returns : goal.returns
returns c = record { own = change-own; kept = writing-keeps; new = written-new }
