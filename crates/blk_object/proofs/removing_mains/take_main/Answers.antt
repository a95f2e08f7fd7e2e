use Rattle.std.proofs.Common.{◌≡◌, None, sym, subst, ◌∙◌}
use Rattle.std.proofs.lemmas.Result.{on_ok_weaker}
use Rattle.spec_image.proofs.Runs.{some_inj}
use Rattle.blk_io.proofs.Carried.{carried, if_damaged_weaker}
use Rattle.blk_object.specs.Removing.{MayGoOut}
use Rattle.blk_object.proofs.GoingNext.{main-counted, main-may-go, main-session, main-stops, main-taking, main-told}
use Rattle.blk_object.proofs.removing_mains.take_main.Goals as goal

pub returns-in_err-take_out-clause-stops : goal.returns-in_err-take_out-clause-stops
returns-in_err-take_out-clause-stops g c from there state layout unlinked number object k at live p =
    main-taking (g.F.Folder.told c.args.folder.now) (g.F.Folder.told c.take_out.new.folder) (g.F.Folder.told c.take_out.new.folder) state layout unlinked number object c.args.node c.args.found.now.entry c.args.found.now.before from there k at live p c.in_err-take_out.ensures.stops

pub returns-in_err-take_out-clause-untold : goal.returns-in_err-take_out-clause-untold
returns-in_err-take_out-clause-untold g c from there state layout unlinked number object k at live p =
    carried c.take_out.result c.from_residual.result c.in_err-take_out.field-0.0 (λ _. (g.F.Folder.told c.args.folder.now).files ≡ None) c.in_err-take_out.was c.from_residual.ensures.1
    (c.take_out.ensures.untold (λ image is. subst (MayGoOut c.args.node c.args.found.now.entry c.args.found.now.before) (some_inj (sym there ∙ is))
    (main-may-go (g.F.Folder.told c.args.folder.now) (g.F.Folder.told c.take_out.new.folder) (g.F.Folder.told c.take_out.new.folder) state layout unlinked number object c.args.node c.args.found.now.entry c.args.found.now.before from there k at live p c.in_err-take_out.ensures.stops)))

pub returns-clause-out : goal.returns-clause-out
returns-clause-out g c = on_ok_weaker c.count_less.result
    (λ less from there state layout unlinked number object k at live p counts is.
    main-counted (g.F.Folder.told c.args.folder.now) (g.F.Folder.told c.take_out.new.folder) (g.F.Folder.told c.count_less.new.folder) state layout unlinked number object c.args.node c.args.found.now.entry c.args.found.now.before from there k at live p c.in_ok-take_out.ensures.stops c.in_ok-take_out.ensures.taken c.args.charge less counts is)
    c.count_less.ensures.counted

pub returns-clause-session : goal.returns-clause-session
returns-clause-session g c = on_ok_weaker c.count_less.result
    (λ less from there state layout unlinked number object k at live p.
    main-session (g.F.Folder.told c.args.folder.now) (g.F.Folder.told c.take_out.new.folder) (g.F.Folder.told c.count_less.new.folder) state layout unlinked number object c.args.node c.args.found.now.entry c.args.found.now.before from there k at live p c.in_ok-take_out.ensures.stops c.in_ok-take_out.ensures.taken c.args.charge less)
    c.count_less.ensures.counted

pub returns-clause-stops : goal.returns-clause-stops
returns-clause-stops g c from there state layout unlinked number object k at live p =
    main-stops (g.F.Folder.told c.args.folder.now) (g.F.Folder.told c.take_out.new.folder) (g.F.Folder.told c.count_less.new.folder) state layout unlinked number object c.args.node c.args.found.now.entry c.args.found.now.before from there k at live p c.in_ok-take_out.ensures.stops c.in_ok-take_out.ensures.taken c.count_less.ensures.stops_out

pub returns-clause-untold : goal.returns-clause-untold
returns-clause-untold g c from there state layout unlinked number object k at live p =
    if_damaged_weaker c.count_less.result _ _ (λ damage none. main-told (g.F.Folder.told c.args.folder.now) (g.F.Folder.told c.take_out.new.folder) (g.F.Folder.told c.count_less.new.folder) state layout unlinked number object c.args.node c.args.found.now.entry c.args.found.now.before from there k at live p c.in_ok-take_out.ensures.stops none) c.count_less.ensures.untold
