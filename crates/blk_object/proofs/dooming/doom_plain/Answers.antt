use Rattle.std.proofs.Common.{◌≡◌, None}
use Rattle.std.proofs.lemmas.Result.{on_ok_weaker}
use Rattle.blk_io.proofs.Carried.{carried, if_damaged_weaker}
use Rattle.blk_object.proofs.HeldDooms.{doomed-counted, doomed-session, doomed-silent, doomed-stops}
use Rattle.blk_object.proofs.dooming.doom_plain.Goals as goal

pub returns-in_err-hold_out-clause-untold : goal.returns-in_err-hold_out-clause-untold
returns-in_err-hold_out-clause-untold g c from there state layout unlinked number object loaded k can p =
    carried c.hold_out.result c.from_residual.result c.in_err-hold_out.field-0.0 (λ _. (g.F.Folder.told c.args.folder.now).files ≡ None) c.in_err-hold_out.was c.from_residual.ensures.1
    (c.hold_out.ensures.untold from there state layout unlinked number object loaded k can p)

pub returns-clause-doomed : goal.returns-clause-doomed
returns-clause-doomed g c = on_ok_weaker c.count_less.result
    (λ less from there state layout unlinked number object loaded k can p counts is. doomed-counted (g.F.Folder.told c.args.folder.now) (g.F.Folder.told c.hold_out.new.folder) (g.F.Folder.told c.count_less.new.folder) state layout unlinked number object loaded from there k can (c.in_ok-hold_out.ensures.stops from there state layout unlinked number object loaded k can p) (c.in_ok-hold_out.ensures.held from there state layout unlinked number object loaded k can p) c.args.charge less counts is)
    c.count_less.ensures.counted

pub returns-clause-session : goal.returns-clause-session
returns-clause-session g c = on_ok_weaker c.count_less.result
    (λ less from there state layout unlinked number object loaded k can p. doomed-session (g.F.Folder.told c.args.folder.now) (g.F.Folder.told c.hold_out.new.folder) (g.F.Folder.told c.count_less.new.folder) state layout unlinked number object loaded from there k can (c.in_ok-hold_out.ensures.stops from there state layout unlinked number object loaded k can p) (c.in_ok-hold_out.ensures.held from there state layout unlinked number object loaded k can p) c.args.charge less)
    c.count_less.ensures.counted

pub returns-clause-stops : goal.returns-clause-stops
returns-clause-stops g c from there state layout unlinked number object loaded k can p = doomed-stops (g.F.Folder.told c.args.folder.now) (g.F.Folder.told c.hold_out.new.folder) (g.F.Folder.told c.count_less.new.folder) state layout unlinked number object loaded from there k can (c.in_ok-hold_out.ensures.stops from there state layout unlinked number object loaded k can p) (c.in_ok-hold_out.ensures.held from there state layout unlinked number object loaded k can p) c.count_less.ensures.stops

pub returns-clause-untold : goal.returns-clause-untold
returns-clause-untold g c from there state layout unlinked number object loaded k can p =
    if_damaged_weaker c.count_less.result _ _ (λ damage none. absurd (doomed-silent (g.F.Folder.told c.args.folder.now) (g.F.Folder.told c.hold_out.new.folder) (g.F.Folder.told c.count_less.new.folder) state layout unlinked number object loaded from there k can (c.in_ok-hold_out.ensures.stops from there state layout unlinked number object loaded k can p) (c.in_ok-hold_out.ensures.held from there state layout unlinked number object loaded k can p) none)) c.count_less.ensures.untold
