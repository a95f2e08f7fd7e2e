use Rattle.std.proofs.Common.{◌≡◌, ℕ, ◌<◌, None, arith}
use Rattle.std.proofs.lemmas.List.Elements.{All-from_get_or}
use Rattle.std.proofs.lemmas.Result.{on_ok_weaker}
use Rattle.blk_io.proofs.Carried.{carried}
use Rattle.blk_model.specs.Items.{IsBytes}
use Rattle.blk_sparse.proofs.Begun.{all-begun, all-stops, first-stops, mid-untold, write-untold}
use Rattle.blk_sparse.proofs.beginning.give_index.Goals as goal

pub returns-in_err-write_object-clause-stops : goal.returns-in_err-write_object-clause-stops
returns-in_err-write_object-clause-stops g c from there state layout unlinked number object node signature p small h =
    let bytes : IsBytes c.args.bytes.now = All-from_get_or (λ (b : ℕ). b < 256) c.args.bytes.now 0 (λ i within. omega (arith, c.type_inv.bytes i)) in
    first-stops (g.F.Folder.told c.args.folder.now) (g.F.Folder.told c.write_object.new.folder) (g.F.Folder.told c.write_object.new.folder) c.args.entry c.args.bytes.now bytes from there state layout unlinked number object node signature p small h c.in_err-write_object.ensures.stops

pub returns-in_err-write_object-clause-untold : goal.returns-in_err-write_object-clause-untold
returns-in_err-write_object-clause-untold g c from there state layout unlinked number object node signature p small h =
    let bytes : IsBytes c.args.bytes.now = All-from_get_or (λ (b : ℕ). b < 256) c.args.bytes.now 0 (λ i within. omega (arith, c.type_inv.bytes i)) in
    carried c.write_object.result c.from_residual.result c.in_err-write_object.field-0.0 (λ _. (g.F.Folder.told c.args.folder.now).files ≡ None) c.in_err-write_object.was c.from_residual.ensures.1
    (write-untold (g.F.Folder.told c.args.folder.now) (g.F.Folder.told c.write_object.new.folder) (g.F.Folder.told c.write_object.new.folder) c.args.entry c.args.bytes.now bytes from there state layout unlinked number object node signature p small h c.write_object.result c.write_object.ensures.untold)

pub returns-clause-stops : goal.returns-clause-stops
returns-clause-stops g c from there state layout unlinked number object node signature p small h =
    let bytes : IsBytes c.args.bytes.now = All-from_get_or (λ (b : ℕ). b < 256) c.args.bytes.now 0 (λ i within. omega (arith, c.type_inv.bytes i)) in
    all-stops (g.F.Folder.told c.args.folder.now) (g.F.Folder.told c.write_object.new.folder) (g.F.Folder.told c.set_parent.new.folder) c.args.entry c.args.bytes.now bytes from there state layout unlinked number object node signature p small h c.in_ok-write_object.ensures.stops c.in_ok-write_object.ensures.written c.set_parent.ensures.stops

pub returns-clause-begun : goal.returns-clause-begun
returns-clause-begun g c = on_ok_weaker c.set_parent.result
    (λ marks from there state layout unlinked number object node signature p small h.
    let bytes : IsBytes c.args.bytes.now = All-from_get_or (λ (b : ℕ). b < 256) c.args.bytes.now 0 (λ i within. omega (arith, c.type_inv.bytes i)) in
    all-begun (g.F.Folder.told c.args.folder.now) (g.F.Folder.told c.write_object.new.folder) (g.F.Folder.told c.set_parent.new.folder) c.args.entry c.args.bytes.now bytes from there state layout unlinked number object node signature p small h c.in_ok-write_object.ensures.stops c.in_ok-write_object.ensures.written marks)
    c.set_parent.ensures.marked

pub returns-clause-untold : goal.returns-clause-untold
returns-clause-untold g c from there state layout unlinked number object node signature p small h =
    let bytes : IsBytes c.args.bytes.now = All-from_get_or (λ (b : ℕ). b < 256) c.args.bytes.now 0 (λ i within. omega (arith, c.type_inv.bytes i)) in
    mid-untold (g.F.Folder.told c.args.folder.now) (g.F.Folder.told c.write_object.new.folder) (g.F.Folder.told c.set_parent.new.folder) c.args.entry c.args.bytes.now bytes from there state layout unlinked number object node signature p small h c.in_ok-write_object.ensures.stops c.in_ok-write_object.ensures.written c.set_parent.result c.set_parent.ensures.untold
