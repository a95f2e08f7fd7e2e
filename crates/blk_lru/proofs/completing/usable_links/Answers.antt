use Rattle.blk_disk.specs.Tables.{Agrees}
use Rattle.blk_lru.specs.Nodes.{list_among}
use Rattle.blk_lru.proofs.Conditions.{untold_on}
use Rattle.blk_lru.proofs.Flights.{no_neighbours}
use Rattle.blk_lru.proofs.completing.usable_links.Goals as goal

pub returns-then-links-eq0-clause-checked : goal.returns-then-links-eq0-clause-checked
returns-then-links-eq0-clause-checked g c image there =
    no_neighbours c.args.files.now image (list_among c.args.files.now image).transaction c.args.links.now (c.requires.links image there) c.if-links-eq0.true

pub returns-in_err-prev-clause-untold : goal.returns-in_err-prev-clause-untold
returns-in_err-prev-clause-untold g c =
    untold_on c.checked-2.result c.from_residual-in_err-prev.result c.in_err-prev.field-0.0 {a = g.F.Folder.told c.args.folder.now} (Agrees c.args.files.now) (Agrees c.args.files.now) (λ image is. is) c.in_ok-next.ensures.reads.stays c.checked-2.ensures.untold c.in_err-prev.was c.from_residual-in_err-prev.ensures.1
