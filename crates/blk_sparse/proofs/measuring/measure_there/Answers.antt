use Rattle.std.proofs.Common.{◌≡◌, ◌-◌, ℕ, None, Some, refl, sym, subst, ap, ◌∙◌, true}
use Rattle.spec_image.specs.Image.{Image}
use Rattle.spec_image.specs.Told.{Told}
use Rattle.spec_image.proofs.Runs.{some_inj}
use Rattle.blk_model.specs.Items.{part}
use Rattle.spec_folder.specs.View.{entry_at}
use Rattle.blk_io.proofs.Carried.{carried}
use Rattle.blk_disk.specs.Tables.{is_node_among}
use Rattle.blk_io.specs.Faults.{IfDamaged}
use Rattle.blk_object.specs.Owning.{LoadsWith}
use Rattle.blk_object.proofs.DamageChecks.{handed, moved, node-word-checked}
use Rattle.blk_object.proofs.OwnedPlaces.{loaded-checks}
use Rattle.blk_sparse.proofs.MapsRead.{part-loads}
use Rattle.blk_sparse.proofs.MeasuredParts.{there-measured}
use Rattle.blk_sparse.proofs.PartUses.{node-there}
use Rattle.blk_sparse.proofs.PartsOut.{stays-there}
use Rattle.blk_sparse.proofs.UsedParts.{its-part}
use Rattle.blk_sparse.proofs.measuring.measure_there.Goals as goal

pub returns-in_err-node-clause-untold : goal.returns-in_err-node-clause-untold
returns-in_err-node-clause-untold g c from there state layout unlinked number object node entry signature n p at =
    carried c.node_of.result c.from_residual.result c.in_err-node.field-0.0 (λ _. (g.F.Folder.told c.args.folder.now).files ≡ None) c.in_err-node.was c.from_residual.ensures.1
    (c.node_of.ensures.untold (λ image is. (c.requires.is_open image is).agrees)
    (λ image is. subst (λ (i : Image). is_node_among c.args.files.now (entry_at i c.args.part).rankings_node ≡ true) (some_inj (sym there ∙ is))
    (node-there state layout unlinked (part object.key n) c.args.part from (its-part state layout unlinked number object node entry signature from p n c.args.part at) c.args.files.now (c.requires.is_open from there).agrees)))

pub returns-in_err-node-clause-damaged : goal.returns-in_err-node-clause-damaged
returns-in_err-node-clause-damaged g c =
    handed c.node_of.result c.from_residual.result c.in_err-node.field-0.0 _ c.args.files.now (g.F.Folder.told c.node_of.new.folder)
    (λ damage wrong. moved c.args.files.now (g.F.Folder.told c.args.folder.now) (g.F.Folder.told c.node_of.new.folder) damage c.node_of.ensures.reads.stays (node-word-checked c.args.files.now (g.F.Folder.told c.args.folder.now) _ _ damage wrong))
    c.in_err-node.was c.from_residual.ensures.1 c.node_of.ensures.damaged

pub returns-in_err-head-clause-untold : goal.returns-in_err-head-clause-untold
returns-in_err-head-clause-untold g c from there state layout unlinked number object node entry signature n p at =
    let same = ap (λ (t : Told). t.files) (sym c.in_ok-node.ensures.reads.stays) in
    carried c.read_head.result c.from_residual-in_err-head.result c.in_err-head.field-0.0 (λ _. (g.F.Folder.told c.args.folder.now).files ≡ None) c.in_err-head.was c.from_residual-in_err-head.ensures.1
    (subst (λ (t : Told). IfDamaged c.read_head.result (λ _. t.files ≡ None)) c.in_ok-node.ensures.reads.stays
    (c.read_head.ensures.untold (λ image is. (c.requires.is_open image (same ∙ is)).agrees)
    (λ image is. loaded-checks image c.args.part at.was (g.met.F.Folder.are_bytes c.node_of.new.folder image is) (subst (LoadsWith c.args.part at.was) (some_inj (sym there ∙ same ∙ is)) (part-loads state layout unlinked number object node entry signature from p n c.args.part at)))))

pub returns-clause-measured : goal.returns-clause-measured
returns-clause-measured g c from there state layout unlinked number object node entry signature n p at =
    let now = stays-there (g.F.Folder.told c.args.folder.now) (g.F.Folder.told c.node_of.new.folder) from there c.in_ok-node.ensures.reads.stays in
    there-measured state layout unlinked number object node entry signature from p n c.args.part at c.in_ok-head.head c.in_ok-node.node c.args.end
    (record { node = Some c.in_ok-node.node; charged = c.charge_of_head.result; bytes = c.saturating_sub.result })
    (c.in_ok-head.ensures.head from now) (c.in_ok-node.ensures.node from there) refl c.charge_of_head.ensures.charge (c.saturating_sub.ensures ∙ ap (λ (k : ℕ). c.args.end - k) c.from.ensures)
