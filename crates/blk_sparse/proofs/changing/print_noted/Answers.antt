use Rattle.std.proofs.Common.{◌+◌}
use Rattle.blk_sparse.proofs.ChangedUsed.{noted-map}
use Rattle.blk_sparse.proofs.changing.print_noted.Goals as goal

pub returns : goal.returns
returns c = record { noted = noted-map c.args.map _ c.args.place (c.args.place + c.args.len) c.print.new.out c.note_write.ensures.part c.note_write.ensures.present c.print.ensures.read_back }
