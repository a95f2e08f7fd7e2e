use Rattle.blk_chain.proofs.Heads.{names-parts}
use Rattle.std.proofs.Common.{◌≡◌, None}
use Rattle.blk_io.proofs.Carried.{carried}
use Rattle.blk_object.proofs.OwnedPlaces.{loaded-checks}
use Rattle.blk_evict.proofs.looking.read_charge.Goals as goal

pub read_head-requires-clause-kind : goal.read_head-requires-clause-kind
read_head-requires-clause-kind g c = let p = names-parts c.args.files.now c.args.entry c.requires.names in p.1.0

pub read_head-requires-clause-stands : goal.read_head-requires-clause-stands
read_head-requires-clause-stands g c = let p = names-parts c.args.files.now c.args.entry c.requires.names in p.1.1

pub returns-in_err-head-clause-untold : goal.returns-in_err-head-clause-untold
returns-in_err-head-clause-untold g c agrees lies =
    carried c.read_head.result c.from_residual.result c.in_err-head.field-0.0 (λ _. (g.F.Folder.told c.args.folder.now).files ≡ None) c.in_err-head.was c.from_residual.ensures.1
    (c.read_head.ensures.untold agrees (λ image there. loaded-checks image c.args.entry (lies image there).0 (g.met.F.Folder.are_bytes c.args.folder.now image there) (lies image there).1))
