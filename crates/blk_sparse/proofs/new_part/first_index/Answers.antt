use Rattle.blk_sparse.proofs.NewIndex.{first-index-is}
use Rattle.blk_sparse.proofs.new_part.first_index.Goals as goal

pub returns-clause-index : goal.returns-clause-index
returns-clause-index c =
    first-index-is c.args.child.now.signature c.args.child.now.key_len c.args.place c.args.count c.new-map.result c.note_write.new.self c.print.new.out c.requires.signature c.new-map.ensures.signature c.new-map.ensures.key_len c.new-map.ensures.present c.note_write.ensures.present c.note_write.ensures.part c.print.ensures.read_back
