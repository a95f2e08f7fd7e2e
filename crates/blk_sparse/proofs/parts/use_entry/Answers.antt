use Rattle.std.proofs.Common.{◌≡◌, ℕ, None, sym, subst, ap, ◌∙◌, true}
use Rattle.std.specs.Option.{ForSome}
use Rattle.std.proofs.lemmas.Result.{on_ok_weaker}
use Rattle.spec_image.specs.Image.{Image}
use Rattle.spec_image.specs.Told.{TellsBytes, Told}
use Rattle.spec_image.proofs.Runs.{passes_none, some_inj}
use Rattle.blk_io.proofs.Carried.{carried, if_damaged_weaker}
use Rattle.spec_format.specs.Address.{is_address}
use Rattle.spec_folder.specs.View.{entry_at}
use Rattle.blk_disk.specs.Open.{IsOpen}
use Rattle.blk_disk.specs.Tables.{is_node_among}
use Rattle.blk_object.proofs.DamageChecks.{handed, moved, node-word-checked, touch-checked}
use Rattle.blk_sparse.specs.Parts.{FindsBeforeOrAfter}
use Rattle.blk_sparse.proofs.PartUses.{mid-listed, node-among, node-there, now-finds, used-end, used-stops}
use Rattle.blk_sparse.proofs.parts.use_entry.Goals as goal

pub returns-in_err-node-clause-stops : goal.returns-in_err-node-clause-stops
returns-in_err-node-clause-stops g c from there state layout unlinked item l =
    passes_none (FindsBeforeOrAfter state item) c.in_err-node.ensures.reads.stays (λ image is. subst (FindsBeforeOrAfter state item) (some_inj (sym there ∙ is)) (now-finds state layout unlinked item c.args.entry from l))

pub returns-in_err-node-clause-untold : goal.returns-in_err-node-clause-untold
returns-in_err-node-clause-untold g c from there state layout unlinked item l =
    carried c.node_of.result c.from_residual.result c.in_err-node.field-0.0 (λ _. (g.F.Folder.told c.args.folder.now).files ≡ None) c.in_err-node.was c.from_residual.ensures.1
    (c.node_of.ensures.untold (λ image is. (c.requires.is_open image is).agrees)
    (λ image is. subst (λ (i : Image). is_node_among c.args.files.now (entry_at i c.args.entry).rankings_node ≡ true) (some_inj (sym there ∙ is)) (node-there state layout unlinked item c.args.entry from l c.args.files.now (c.requires.is_open from there).agrees)))

pub returns-in_err-node-clause-damaged : goal.returns-in_err-node-clause-damaged
returns-in_err-node-clause-damaged g c =
    handed c.node_of.result c.from_residual.result c.in_err-node.field-0.0 _ c.args.files.now (g.F.Folder.told c.node_of.new.folder)
    (λ damage wrong. moved c.args.files.now (g.F.Folder.told c.args.folder.now) (g.F.Folder.told c.node_of.new.folder) damage c.node_of.ensures.reads.stays (node-word-checked c.args.files.now (g.F.Folder.told c.args.folder.now) _ _ damage wrong))
    c.in_err-node.was c.from_residual.ensures.1 c.node_of.ensures.damaged

pub returns-in_err-node-clause-is_open : goal.returns-in_err-node-clause-is_open
returns-in_err-node-clause-is_open g c = subst (λ (t : Told). ForSome t.files (IsOpen c.args.files.now)) (sym c.in_err-node.ensures.reads.stays) c.requires.is_open

pub touch-requires-clause-stands : goal.touch-requires-clause-stands
touch-requires-clause-stands g c = node-among c.args.files.now c.in_ok-node.node (subst (λ (v : ℕ). is_address v ≡ true) c.word-word.ensures.word c.word-word.ensures.address) c.in_ok-node.ensures.kind c.in_ok-node.ensures.stands

pub touch-requires-clause-is_open : goal.touch-requires-clause-is_open
touch-requires-clause-is_open g c = subst (λ (t : Told). ForSome t.files (IsOpen c.args.files.now)) (sym c.in_ok-node.ensures.reads.stays) c.requires.is_open

pub returns-clause-stops : goal.returns-clause-stops
returns-clause-stops g c from there state layout unlinked item l =
    used-stops c.args.files.now (g.F.Folder.told c.args.folder.now) (g.F.Folder.told c.node_of.new.folder) (g.F.Folder.told c.touch.new.f) c.args.entry c.in_ok-node.node c.args.moment c.in_ok-node.ensures.reads.stays c.in_ok-node.ensures.node from there state layout unlinked item l c.touch.ensures.stops

pub returns-clause-used : goal.returns-clause-used
returns-clause-used g c = on_ok_weaker c.touch.result
    (λ steps from there state layout unlinked item l.
    used-end c.args.files.now (g.F.Folder.told c.args.folder.now) (g.F.Folder.told c.node_of.new.folder) (g.F.Folder.told c.touch.new.f) c.args.entry c.in_ok-node.node c.args.moment c.in_ok-node.ensures.reads.stays c.in_ok-node.ensures.node from there state layout unlinked item l
    (subst TellsBytes (sym c.in_ok-node.ensures.reads.stays) (g.met.F.Folder.are_bytes c.args.folder.now)) (subst (λ (t : Told). ForSome t.files (IsOpen c.args.files.now)) (sym c.in_ok-node.ensures.reads.stays) c.requires.is_open) steps)
    c.touch.ensures.steps

pub returns-clause-untold : goal.returns-clause-untold
returns-clause-untold g c from there state layout unlinked item l =
    let same = ap (λ (t : Told). t.files) c.in_ok-node.ensures.reads.stays in
    if_damaged_weaker c.touch.result _ _ (λ damage none. sym same ∙ none)
    (c.touch.ensures.untold (mid-listed c.args.files.now (g.F.Folder.told c.args.folder.now) (g.F.Folder.told c.node_of.new.folder) (g.F.Folder.told c.touch.new.f) c.args.entry c.in_ok-node.node c.args.moment c.in_ok-node.ensures.reads.stays c.in_ok-node.ensures.node from there state layout unlinked item l))

pub returns-clause-damaged : goal.returns-clause-damaged
returns-clause-damaged g c =
    if_damaged_weaker c.touch.result _ _ (λ damage wrong. touch-checked c.in_ok-node.node c.args.files.now (g.F.Folder.told c.node_of.new.folder) (g.F.Folder.told c.touch.new.f) damage wrong) c.touch.ensures.damaged
