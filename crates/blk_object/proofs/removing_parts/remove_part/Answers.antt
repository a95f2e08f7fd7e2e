use Rattle.std.proofs.Common.{◌≡◌, None}
use Rattle.spec_image.proofs.Runs.{passes_weaker}
use Rattle.blk_io.proofs.Carried.{carried, if_damaged_weaker}
use Rattle.blk_model.specs.Items.{part}
use Rattle.blk_object.proofs.GoingNext.{next-counted-out, next-keeps, next-session, next-told, part-going, part-stops}
use Rattle.blk_object.proofs.removing_parts.remove_part.Goals as goal

pub returns-in_err-charge-clause-untold : goal.returns-in_err-charge-clause-untold
returns-in_err-charge-clause-untold g c from there state layout keep chains unlinked item k p =
    carried c.take_away.result c.from_residual.result c.in_err-charge.field-0.0 (λ _. (g.F.Folder.told c.args.folder.now).files ≡ None) c.in_err-charge.was c.from_residual.ensures.1
    (c.take_away.ensures.untold_out from there state layout keep chains unlinked item k p)

pub returns-in_err-charge-clause-part : goal.returns-in_err-charge-clause-part
returns-in_err-charge-clause-part g c from there state layout keep chains unlinked number object n k at others p =
    passes_weaker (c.in_err-charge.ensures.going from there state layout keep chains unlinked (part object.key n) k p)
    (λ image going. part-going state layout keep chains unlinked number object n c.args.node c.args.found.now.entry c.args.found.now.before from image k at others p going)
    (λ image going. part-going state layout keep chains unlinked number object n c.args.node c.args.found.now.entry c.args.found.now.before from image k at others p going)

pub returns-in_err-count_less-clause-part : goal.returns-in_err-count_less-clause-part
returns-in_err-count_less-clause-part g c from there state layout keep chains unlinked number object n k at others p =
    part-stops (g.F.Folder.told c.args.folder.now) (g.F.Folder.told c.take_away.new.folder) (g.F.Folder.told c.count_less.new.folder) state layout keep chains unlinked number object n c.args.node c.args.found.now.entry c.args.found.now.before from there c.in_ok-charge.charge
    (c.in_ok-charge.ensures.going from there state layout keep chains unlinked (part object.key n) k p) (c.in_ok-charge.ensures.out from there state layout keep chains unlinked (part object.key n) k p) k at others p c.in_err-count_less.ensures.stops_out

pub returns-in_err-count_less-clause-untold : goal.returns-in_err-count_less-clause-untold
returns-in_err-count_less-clause-untold g c from there state layout keep chains unlinked item k p =
    carried c.count_less.result c.from_residual-in_err-count_less.result c.in_err-count_less.field-0.0 (λ _. (g.F.Folder.told c.args.folder.now).files ≡ None) c.in_err-count_less.was c.from_residual-in_err-count_less.ensures.1
    (if_damaged_weaker c.count_less.result _ _ (λ damage none.
    next-told (g.F.Folder.told c.args.folder.now) (g.F.Folder.told c.take_away.new.folder) (g.F.Folder.told c.count_less.new.folder) state layout keep chains unlinked item c.args.node c.args.found.now.entry c.args.found.now.before from there c.in_ok-charge.charge
    (c.in_ok-charge.ensures.going from there state layout keep chains unlinked item k p) (c.in_ok-charge.ensures.out from there state layout keep chains unlinked item k p) none)
    c.count_less.ensures.untold)

pub returns-clause-removed : goal.returns-clause-removed
returns-clause-removed g c from there state layout keep chains unlinked item k p counted =
    next-counted-out (g.F.Folder.told c.args.folder.now) (g.F.Folder.told c.take_away.new.folder) (g.F.Folder.told c.count_less.new.folder) state layout keep chains unlinked item c.args.node c.args.found.now.entry c.args.found.now.before from there c.in_ok-charge.charge
    (c.in_ok-charge.ensures.going from there state layout keep chains unlinked item k p) (c.in_ok-charge.ensures.out from there state layout keep chains unlinked item k p) k p counted c.in_ok-count_less.ensures.counted

pub returns-clause-session : goal.returns-clause-session
returns-clause-session g c from there state layout keep chains unlinked item k p =
    next-session (g.F.Folder.told c.args.folder.now) (g.F.Folder.told c.take_away.new.folder) (g.F.Folder.told c.count_less.new.folder) state layout keep chains unlinked item c.args.node c.args.found.now.entry c.args.found.now.before from there c.in_ok-charge.charge
    (c.in_ok-charge.ensures.going from there state layout keep chains unlinked item k p) (c.in_ok-charge.ensures.out from there state layout keep chains unlinked item k p) c.in_ok-count_less.ensures.counted

pub returns-clause-keeps : goal.returns-clause-keeps
returns-clause-keeps g c from there state layout keep chains unlinked item k p =
    next-keeps (g.F.Folder.told c.args.folder.now) (g.F.Folder.told c.take_away.new.folder) (g.F.Folder.told c.count_less.new.folder) state layout keep chains unlinked item c.args.node c.args.found.now.entry c.args.found.now.before from there c.in_ok-charge.charge
    (c.in_ok-charge.ensures.going from there state layout keep chains unlinked item k p) (c.in_ok-charge.ensures.out from there state layout keep chains unlinked item k p) c.in_ok-count_less.ensures.counted

pub returns-clause-part : goal.returns-clause-part
returns-clause-part g c from there state layout keep chains unlinked number object n k at others p =
    part-stops (g.F.Folder.told c.args.folder.now) (g.F.Folder.told c.take_away.new.folder) (g.F.Folder.told c.count_less.new.folder) state layout keep chains unlinked number object n c.args.node c.args.found.now.entry c.args.found.now.before from there c.in_ok-charge.charge
    (c.in_ok-charge.ensures.going from there state layout keep chains unlinked (part object.key n) k p) (c.in_ok-charge.ensures.out from there state layout keep chains unlinked (part object.key n) k p) k at others p c.in_ok-count_less.ensures.stops_out
