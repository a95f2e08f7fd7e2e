use Rattle.blk_lru.proofs.NodeWords.{node_kind}
use Rattle.blk_object.proofs.KeptMarks.{check-as-records}
use Rattle.blk_object.proofs.ending.clean.Goals as goal

pub returns-then-object-clause-untold : goal.returns-then-object-clause-untold
returns-then-object-clause-untold g c good =
    c.set_dirty_word.ensures.sets.untold (λ image there. check-as-records image c.args.object.now.node (g.met.F.Folder.are_bytes c.args.folder.now image there) (node_kind c.args.files.now c.args.object.now.node c.requires.stands) (good image there))
