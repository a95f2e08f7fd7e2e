use Rattle.std.proofs.Common.{◌≡◌, None, true}
use Rattle.std.proofs.lemmas.Result.{on_ok_weaker}
use Rattle.blk_io.proofs.Carried.{carried, if_damaged_weaker}
use Rattle.law_state.proofs.PartlyOut.{kept-begin}
use Rattle.blk_model.specs.Items.{Item}
use Rattle.spec_folder.specs.Removal.{without_items}
use Rattle.blk_object.specs.RemovingObjects.{FindsEither}
use Rattle.blk_object.proofs.GoingNext.{behind-next}
use Rattle.blk_object.proofs.RemovedObjects.{counting-removed, counting-stops, counting-told}
use Rattle.blk_object.proofs.Sessions.{counted-then}
use Rattle.blk_object.proofs.removing_objects.remove_read.Goals as goal

pub returns-in_err-take_read-clause-untold : goal.returns-in_err-take_read-clause-untold
returns-in_err-take_read-clause-untold g c from there by state layout unlinked objects keep item k p =
    carried c.take_read.result c.from_residual.result c.in_err-take_read.field-0.0 (λ _. (g.F.Folder.told c.args.folder.now).files ≡ None) c.in_err-take_read.was c.from_residual.ensures.1
    (c.take_read.ensures.untold from there by state layout unlinked objects keep item k p)

pub returns-clause-removed : goal.returns-clause-removed
returns-clause-removed g c =
    on_ok_weaker c.count_less.result
    (λ counted from there by state layout unlinked objects keep item k p. counting-removed (g.F.Folder.told c.args.folder.now) (g.F.Folder.told c.take_read.new.folder) (g.F.Folder.told c.count_less.new.folder) state (without_items state objects keep) layout unlinked c.args.node c.args.found.now.entry c.args.owned.now.charge from there (c.in_ok-take_read.ensures.stops from there by state layout unlinked objects keep item k p) (c.in_ok-take_read.ensures.gone from there by state layout unlinked objects keep item k p) counted)
    c.count_less.ensures.counted

pub returns-clause-stops : goal.returns-clause-stops
returns-clause-stops g c from there by state layout unlinked objects keep item k p =
    counting-stops (g.F.Folder.told c.args.folder.now) (g.F.Folder.told c.take_read.new.folder) (g.F.Folder.told c.count_less.new.folder) state (without_items state objects keep) layout unlinked c.args.node c.args.found.now.entry c.args.owned.now.charge from there (c.in_ok-take_read.ensures.stops from there by state layout unlinked objects keep item k p) (c.in_ok-take_read.ensures.gone from there by state layout unlinked objects keep item k p) c.count_less.ensures.stops

pub returns-clause-session : goal.returns-clause-session
returns-clause-session g c =
    on_ok_weaker c.count_less.result
    (λ counted from there by state layout unlinked objects keep item k p.
    counted-then (g.F.Folder.told c.args.folder.now) (g.F.Folder.told c.take_read.new.folder) (g.F.Folder.told c.count_less.new.folder) from (FindsEither state (without_items state objects keep)) c.args.owned.now.charge there (c.in_ok-take_read.ensures.stops from there by state layout unlinked objects keep item k p)
    (λ image is. (c.in_ok-take_read.ensures.out from there by state layout (λ (other : Item). true) layout.chains unlinked item (kept-begin state layout unlinked from k.entries) (behind-next state layout item p.was c.args.node c.args.found.now.entry c.args.found.now.before p.lies p.node_is p.entry_is) image is).session)
    counted)
    c.count_less.ensures.counted

pub returns-clause-untold : goal.returns-clause-untold
returns-clause-untold g c from there by state layout unlinked objects keep item k p =
    if_damaged_weaker c.count_less.result _ _ (λ damage none. counting-told (g.F.Folder.told c.args.folder.now) (g.F.Folder.told c.take_read.new.folder) (g.F.Folder.told c.count_less.new.folder) state (without_items state objects keep) layout unlinked c.args.node c.args.found.now.entry c.args.owned.now.charge from there (c.in_ok-take_read.ensures.stops from there by state layout unlinked objects keep item k p) (c.in_ok-take_read.ensures.gone from there by state layout unlinked objects keep item k p) none) c.count_less.ensures.untold
