use Rattle.std.proofs.Common.{◌≡◌, None}
use Rattle.std.proofs.lemmas.Result.{on_ok_weaker}
use Rattle.blk_io.proofs.Carried.{carried, if_damaged_weaker}
use Rattle.spec_folder.specs.Completion.{insert}
use Rattle.spec_folder.specs.ListImages.{operation_steps}
use Rattle.blk_object.proofs.MakingListed.{can-insert, inserting-finds, listing-counts, listing-finds, listing-listed, part-tells, record-parts}
use Rattle.blk_object.proofs.MakingTimes.{listing-times, node-kind}
use Rattle.blk_object.proofs.DamageChecks.{checked-where-stays, handed, insert-checked, short-checked}
use Rattle.blk_object.proofs.making.list_entry.Goals as goal

pub returns-in_err-insert_front-clause-stops : goal.returns-in_err-insert_front-clause-stops
returns-in_err-insert_front-clause-stops g c = inserting-finds (g.F.Folder.told c.args.folder.now) (g.F.Folder.told c.insert_front.new.f) c.args.files.now c.args.entry c.args.node c.insert_front.ensures.stops

pub returns-in_err-insert_front-clause-untold : goal.returns-in_err-insert_front-clause-untold
returns-in_err-insert_front-clause-untold g c can =
    carried c.insert_front.result c.from_residual.result c.in_err-insert_front.field-0.0 (λ _. (g.F.Folder.told c.args.folder.now).files ≡ None) c.in_err-insert_front.was c.from_residual.ensures.1
    (c.insert_front.ensures.untold (λ from there. can-insert (g.F.Folder.told c.args.folder.now) (g.F.Folder.told c.insert_front.new.f) c.args.files.now c.args.entry c.args.node from (can from there)))

pub link_front-requires-clause-kind : goal.link_front-requires-clause-kind
link_front-requires-clause-kind g c = (record-parts c.args.files.now c.args.entry c.requires.stands).0

pub link_front-requires-clause-stands : goal.link_front-requires-clause-stands
link_front-requires-clause-stands g c = (record-parts c.args.files.now c.args.entry c.requires.stands).1

pub returns-clause-listed : goal.returns-clause-listed
returns-clause-listed g c =
    on_ok_weaker c.link_front.result
    (λ linked. listing-listed (g.F.Folder.told c.args.folder.now) (g.F.Folder.told c.insert_front.new.f) c.args.files.now c.args.entry c.args.node c.insert_front.ensures.stops (g.met.F.Folder.are_bytes c.args.folder.now) c.requires.is_open c.in_ok-insert_front.ensures.steps (g.F.Folder.told c.link_front.new.f) linked)
    c.link_front.ensures.linked

pub returns-clause-counters : goal.returns-clause-counters
returns-clause-counters g c =
    on_ok_weaker c.link_front.result
    (λ linked. listing-counts (g.F.Folder.told c.args.folder.now) (g.F.Folder.told c.insert_front.new.f) c.args.files.now c.args.entry c.args.node c.insert_front.ensures.stops (g.met.F.Folder.are_bytes c.args.folder.now) c.requires.is_open c.in_ok-insert_front.ensures.steps (g.F.Folder.told c.link_front.new.f) linked)
    c.link_front.ensures.linked

pub returns-clause-stops : goal.returns-clause-stops
returns-clause-stops g c =
    listing-finds (g.F.Folder.told c.args.folder.now) (g.F.Folder.told c.insert_front.new.f) c.args.files.now c.args.entry c.args.node c.insert_front.ensures.stops (g.met.F.Folder.are_bytes c.args.folder.now) c.requires.is_open c.in_ok-insert_front.ensures.steps (g.F.Folder.told c.link_front.new.f) c.link_front.ensures.commits

pub returns-clause-untold : goal.returns-clause-untold
returns-clause-untold g c can =
    if_damaged_weaker c.link_front.result (λ _. (g.F.Folder.told c.insert_front.new.f).files ≡ None) (λ _. (g.F.Folder.told c.args.folder.now).files ≡ None)
    (λ damage none. part-tells (g.F.Folder.told c.args.folder.now) (g.F.Folder.told c.insert_front.new.f) (operation_steps insert c.args.node) c.insert_front.ensures.prefix none) c.link_front.ensures.untold

pub returns-clause-times : goal.returns-clause-times
returns-clause-times g c =
    on_ok_weaker c.link_front.result
    (λ steps. listing-times (g.F.Folder.told c.args.folder.now) (g.F.Folder.told c.insert_front.new.f) (g.F.Folder.told c.link_front.new.f) c.args.files.now c.args.entry c.args.node c.requires.is_open c.requires.stands (node-kind c.args.files.now c.args.node c.requires.node)
    c.in_ok-insert_front.ensures.checked c.in_ok-insert_front.ensures.steps steps) c.link_front.ensures.steps

pub returns-in_err-insert_front-clause-damaged : goal.returns-in_err-insert_front-clause-damaged
returns-in_err-insert_front-clause-damaged g c =
    handed c.insert_front.result c.from_residual.result c.in_err-insert_front.field-0.0 _ c.args.files.now (g.F.Folder.told c.insert_front.new.f) (insert-checked c.args.files.now _ _) c.in_err-insert_front.was c.from_residual.ensures.1 c.insert_front.ensures.damaged

pub returns-clause-damaged : goal.returns-clause-damaged
returns-clause-damaged g c =
    checked-where-stays c.link_front.result c.args.files.now (g.F.Folder.told c.insert_front.new.f) (g.F.Folder.told c.link_front.new.f) _ (λ damage short. short-checked c.args.files.now (g.F.Folder.told c.insert_front.new.f) _ _ _ damage short) c.link_front.ensures.unwritten c.link_front.ensures.short
