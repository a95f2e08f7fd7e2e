use Rattle.std.proofs.Common.{refl}
use Rattle.std.proofs.lemmas.Result.{on_ok_weaker}
use Rattle.blk_disk.specs.Open.{IsOpen}
use Rattle.blk_disk.specs.Tables.{Agrees}
use Rattle.blk_lru.proofs.Conditions.{told_now}
use Rattle.blk_audit.proofs.Carrying.{untold_last, untold_on}
use Rattle.blk_audit.proofs.walking.walk.Goals as goal

pub returns-clause-checked : goal.returns-clause-checked
returns-clause-checked g c = on_ok_weaker c.walk_over.result (λ ends image there. record { nodes = c.in_ok-nodes.ensures.checked image there; ends = ends image (told_now image c.in_ok-nodes.ensures.reads.stays there) }) c.walk_over.ensures.checked

pub returns-in_err-nodes-clause-untold : goal.returns-in_err-nodes-clause-untold
returns-in_err-nodes-clause-untold g c =
    untold_on c.read_nodes.result c.from_residual.result c.in_err-nodes.field-0.0 {a = g.F.Folder.told c.args.folder.now} (IsOpen c.args.files.now) (Agrees c.args.files.now) (λ image is. is.agrees) refl c.read_nodes.ensures.untold c.in_err-nodes.was c.from_residual.ensures.1

pub returns-clause-untold : goal.returns-clause-untold
returns-clause-untold g c =
    untold_last c.walk_over.result {a = g.F.Folder.told c.args.folder.now} (IsOpen c.args.files.now) (IsOpen c.args.files.now) (λ image is. is) c.in_ok-nodes.ensures.reads.stays c.walk_over.ensures.untold
