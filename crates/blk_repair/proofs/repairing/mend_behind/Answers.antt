use Rattle.std.proofs.Common.{◌≡◌, Some, subst}
use Rattle.std.proofs.lemmas.Result.{on_ok_weaker}
use Rattle.std.specs.Option.{ForSome}
use Rattle.spec_image.specs.Image.{Image}
use Rattle.spec_image.specs.Told.{Told, Applies}
use Rattle.blk_io.proofs.Carried.{if_damaged_weaker, told_at_end}
use Rattle.law_recovery.specs.MendedChanges.{IsMidRepair}
use Rattle.blk_addr.specs.declared.claim_set.Claims.{Claims}
use Rattle.blk_repair.specs.Endings.{RepairBreaksOff}
use Rattle.blk_repair.specs.Parts.{AppliesOf}
use Rattle.blk_repair.specs.Repair.{AreLinksMended, IsNextFinished, IsRepairedFor, MendsFiles, MendsRest, counting_steps}
use Rattle.blk_repair.proofs.EndingRuns.{joined-either, joined-ends}
use Rattle.blk_repair.proofs.PartRuns.{in-turn}
use Rattle.blk_repair.proofs.RepairRuns.{files-next, finished-next, here-still, led, none-before, still-told}
use Rattle.blk_repair.proofs.repairing.mend_behind.Given as given
use Rattle.blk_repair.proofs.repairing.mend_behind.Goals as goal

module _ (g : given.Over) (c : goal.After-mend_rest g) (from : Image) (there : (g.F.Folder.told c.args.folder.now).files ≡ Some from) (entry : Image) (links : AreLinksMended c.args.scan.now entry from) where
  -- the files were repaired
  first : RepairBreaksOff (g.F.Folder.told c.args.folder.now) (g.F.Folder.told c.mend_store.new.folder) (IsMidRepair entry)
  first = c.mend_store.ensures.stops from there entry (files-next c.args.scan.now c.claims.result.now c.claims.ensures entry from links)

  -- the files were repaired, and the rest is next
  handed : ForSome (g.F.Folder.told c.mend_store.new.folder).files (IsNextFinished c.args.scan.now entry)
  handed mid here =
      finished-next c.args.scan.now c.claims.result.now c.claims.ensures entry from mid links (c.in_ok-mend_store.ensures.mended from there entry (files-next c.args.scan.now c.claims.result.now c.claims.ensures entry from links) mid here)

pub returns-clause-mended : goal.returns-clause-mended
returns-clause-mended g c =
    on_ok_weaker c.mend_rest.result
    (λ made from there entry links.
    led (g.F.Folder.told c.mend_rest.new.folder) (IsNextFinished c.args.scan.now entry) (IsRepairedFor c.args.this_id entry) from there (first g c from there entry links).passes (handed g c from there entry links) (λ mid here next. made mid here entry next))
    c.mend_rest.ensures.mended

pub returns-clause-stops : goal.returns-clause-stops
returns-clause-stops g c from there entry links = joined-either (IsNextFinished c.args.scan.now entry) from there (first g c from there entry links) (handed g c from there entry links) (λ mid here next. c.mend_rest.ensures.stops mid here entry next)

pub returns-clause-last : goal.returns-clause-last
returns-clause-last g c =
    on_ok_weaker c.mend_rest.result
    (λ ends from there entry links. joined-ends (IsNextFinished c.args.scan.now entry) from there (first g c from there entry links) (handed g c from there entry links) (λ mid here next. ends mid here entry next)) c.mend_rest.ensures.last

pub returns-clause-untold : goal.returns-clause-untold
returns-clause-untold g c some =
    if_damaged_weaker c.mend_rest.result _ _
    (λ damage none. none-before (g.F.Folder.told c.args.folder.now) (g.F.Folder.told c.mend_store.new.folder) (λ from there. still-told from there (first g c from there (some from there).0 (some from there).1).passes) none)
    (c.mend_rest.ensures.untold
    (told_at_end (g.F.Folder.told c.args.folder.now).files (g.F.Folder.told c.mend_store.new.folder).files (λ mid. (entry : Image) × IsNextFinished c.args.scan.now entry mid) c.mend_store.ensures.writes.silent
    (λ from there mid here. ((some from there).0, handed g c from there (some from there).0 (some from there).1 mid here))))

pub returns-clause-clean : goal.returns-clause-clean
returns-clause-clean g c =
    on_ok_weaker c.mend_rest.result
    (λ clean from there entry links needs.
    let same = c.in_ok-mend_store.ensures.clean from there entry (files-next c.args.scan.now c.claims.result.now c.claims.ensures entry from links) needs.files needs.only in
    let here = here-still from there same in
    subst (λ (t : Told). Applies t (g.F.Folder.told c.mend_rest.new.folder) (counting_steps entry c.args.this_id from)) same (clean from here entry (handed g c from there entry links from here) needs)) c.mend_rest.ensures.clean

pub returns-clause-steps : goal.returns-clause-steps
returns-clause-steps g c =
    on_ok_weaker c.mend_rest.result
    (λ made from there entry links.
    in-turn (g.F.Folder.told c.mend_rest.new.folder) (MendsFiles c.args.files.now c.args.scan.now.claims) (MendsRest c.args.scan.now entry c.args.this_id) from there
    (subst (λ (cs : Claims). AppliesOf (MendsFiles c.args.files.now cs) from (g.F.Folder.told c.args.folder.now) (g.F.Folder.told c.mend_store.new.folder)) c.claims.ensures (c.in_ok-mend_store.ensures.steps from there))
    (λ mid here. made mid here entry (handed g c from there entry links mid here))) c.mend_rest.ensures.steps
