use Rattle.std.proofs.Common.{subst}
use Rattle.std.proofs.lemmas.Result.{on_ok_weaker}
use Rattle.spec_image.specs.Image.{Image}
use Rattle.spec_image.specs.Told.{Told, Applies}
use Rattle.blk_io.proofs.Carried.{if_damaged_weaker, told_at_end}
use Rattle.blk_repair.specs.Parts.{InTurn}
use Rattle.blk_repair.specs.Repair.{AreLinksMended, IsRepairedFor, MendsFiles, MendsLinks, MendsRest, counting_steps}
use Rattle.blk_repair.proofs.EndingRuns.{joined-either, joined-ends}
use Rattle.blk_repair.proofs.PartRuns.{in-turn}
use Rattle.blk_repair.proofs.RepairRuns.{here-still, led, none-before, still-told}
use Rattle.blk_repair.proofs.repairing.mend_all.Goals as goal

pub returns-clause-mended : goal.returns-clause-mended
returns-clause-mended g c =
    on_ok_weaker c.mend_behind.result
    (λ made from there is.
    led (g.F.Folder.told c.mend_behind.new.folder) (AreLinksMended c.args.scan.now from) (IsRepairedFor c.args.this_id from) from there (c.mend_links.ensures.stops from there is).passes (c.in_ok-mend_links.ensures.mended from there is) (λ mid here next. made mid here from next))
    c.mend_behind.ensures.mended

pub returns-clause-stops : goal.returns-clause-stops
returns-clause-stops g c from there is = joined-either (AreLinksMended c.args.scan.now from) from there (c.mend_links.ensures.stops from there is) (c.in_ok-mend_links.ensures.mended from there is) (λ mid here next. c.mend_behind.ensures.stops mid here from next)

pub returns-clause-last : goal.returns-clause-last
returns-clause-last g c =
    on_ok_weaker c.mend_behind.result
    (λ ends from there is. joined-ends (AreLinksMended c.args.scan.now from) from there (c.mend_links.ensures.stops from there is) (c.in_ok-mend_links.ensures.mended from there is) (λ mid here next. ends mid here from next)) c.mend_behind.ensures.last

pub returns-clause-untold : goal.returns-clause-untold
returns-clause-untold g c all =
    if_damaged_weaker c.mend_behind.result _ _
    (λ damage none. none-before (g.F.Folder.told c.args.folder.now) (g.F.Folder.told c.mend_links.new.folder) (λ from there. still-told from there (c.mend_links.ensures.stops from there (all from there)).passes) none)
    (c.mend_behind.ensures.untold
    (told_at_end (g.F.Folder.told c.args.folder.now).files (g.F.Folder.told c.mend_links.new.folder).files (λ mid. (entry : Image) × AreLinksMended c.args.scan.now entry mid) c.mend_links.ensures.writes.silent
    (λ from there mid here. (from, c.in_ok-mend_links.ensures.mended from there (all from there) mid here))))

pub returns-clause-clean : goal.returns-clause-clean
returns-clause-clean g c =
    on_ok_weaker c.mend_behind.result
    (λ clean from there is needs.
    let same = c.in_ok-mend_links.ensures.clean from there is needs.links in
    let here = here-still from there same in
    subst (λ (t : Told). Applies t (g.F.Folder.told c.mend_behind.new.folder) (counting_steps from c.args.this_id from)) same (clean from here from (c.in_ok-mend_links.ensures.mended from there is from here) needs)) c.mend_behind.ensures.clean

pub returns-clause-steps : goal.returns-clause-steps
returns-clause-steps g c =
    on_ok_weaker c.mend_behind.result
    (λ made from there is.
    in-turn (g.F.Folder.told c.mend_behind.new.folder) MendsLinks (InTurn (MendsFiles c.args.files.now c.args.scan.now.claims) (MendsRest c.args.scan.now from c.args.this_id)) from there (c.in_ok-mend_links.ensures.steps from there is)
    (λ mid here. made mid here from (c.in_ok-mend_links.ensures.mended from there is mid here))) c.mend_behind.ensures.steps
