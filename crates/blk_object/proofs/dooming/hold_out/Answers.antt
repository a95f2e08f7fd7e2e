use Rattle.std.proofs.Common.{◌≡◌, None, sym, subst, ◌∙◌}
use Rattle.std.proofs.lemmas.Result.{on_ok_weaker}
use Rattle.spec_image.proofs.Runs.{some_inj}
use Rattle.blk_io.proofs.Carried.{carried, if_damaged_weaker}
use Rattle.blk_object.specs.Removing.{MayGoOut}
use Rattle.blk_object.proofs.HeldDooms.{held-doomed, held-may-go, held-on, held-stops, held-taking, held-told, held-whole}
use Rattle.blk_object.proofs.dooming.hold_out.Goals as goal

pub returns-in_err-take_out-clause-stops : goal.returns-in_err-take_out-clause-stops
returns-in_err-take_out-clause-stops g c from there state layout unlinked number object loaded k can p =
    held-taking (g.F.Folder.told c.args.folder.now) (g.F.Folder.told c.take_out.new.folder) (g.F.Folder.told c.take_out.new.folder) state layout unlinked number object loaded c.args.node c.args.found.now.entry c.args.found.now.before from there k can p c.in_err-take_out.ensures.stops

pub returns-in_err-take_out-clause-untold : goal.returns-in_err-take_out-clause-untold
returns-in_err-take_out-clause-untold g c from there state layout unlinked number object loaded k can p =
    carried c.take_out.result c.from_residual.result c.in_err-take_out.field-0.0 (λ _. (g.F.Folder.told c.args.folder.now).files ≡ None) c.in_err-take_out.was c.from_residual.ensures.1
    (c.take_out.ensures.untold (λ image is. subst (MayGoOut c.args.node c.args.found.now.entry c.args.found.now.before) (some_inj (sym there ∙ is))
    (held-may-go (g.F.Folder.told c.args.folder.now) (g.F.Folder.told c.take_out.new.folder) (g.F.Folder.told c.take_out.new.folder) state layout unlinked number object loaded c.args.node c.args.found.now.entry c.args.found.now.before from there k can p c.in_err-take_out.ensures.stops)))

pub returns-clause-held : goal.returns-clause-held
returns-clause-held g c = on_ok_weaker c.doom_record.result
    (λ dooms from there state layout unlinked number object loaded k can p. held-doomed (g.F.Folder.told c.args.folder.now) (g.F.Folder.told c.take_out.new.folder) (g.F.Folder.told c.doom_record.new.folder) state layout unlinked number object loaded c.args.node c.args.found.now.entry c.args.found.now.before from there k can p c.in_ok-take_out.ensures.stops c.in_ok-take_out.ensures.taken dooms)
    c.doom_record.ensures.doomed

pub returns-clause-stops : goal.returns-clause-stops
returns-clause-stops g c from there state layout unlinked number object loaded k can p =
    held-stops (g.F.Folder.told c.args.folder.now) (g.F.Folder.told c.take_out.new.folder) (g.F.Folder.told c.doom_record.new.folder) state layout unlinked number object loaded c.args.node c.args.found.now.entry c.args.found.now.before from there k can p c.in_ok-take_out.ensures.stops c.in_ok-take_out.ensures.taken c.doom_record.ensures.stops

pub returns-clause-untold : goal.returns-clause-untold
returns-clause-untold g c from there state layout unlinked number object loaded k can p =
    let mid = held-on (g.F.Folder.told c.args.folder.now) (g.F.Folder.told c.take_out.new.folder) (g.F.Folder.told c.doom_record.new.folder) state layout unlinked number object loaded c.args.node c.args.found.now.entry c.args.found.now.before from there k can p c.in_ok-take_out.ensures.stops in
    let whole = held-whole (g.F.Folder.told c.args.folder.now) (g.F.Folder.told c.take_out.new.folder) (g.F.Folder.told c.doom_record.new.folder) state layout unlinked number object loaded c.args.node c.args.found.now.entry c.args.found.now.before from there k can p c.in_ok-take_out.ensures.stops c.in_ok-take_out.ensures.taken in
    if_damaged_weaker c.doom_record.result _ _ (λ damage none. absurd (held-told (g.F.Folder.told c.args.folder.now) (g.F.Folder.told c.take_out.new.folder) (g.F.Folder.told c.doom_record.new.folder) state layout unlinked number object loaded c.args.node c.args.found.now.entry c.args.found.now.before from there k can p c.in_ok-take_out.ensures.stops none))
    (c.doom_record.ensures.untold mid.image mid.is state layout number object loaded _ unlinked whole)
