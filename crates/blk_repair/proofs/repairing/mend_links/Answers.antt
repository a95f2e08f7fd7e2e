use Rattle.std.proofs.Common.{◌≡◌, ◌∙◌, Some, sym, subst}
use Rattle.std.proofs.lemmas.Result.{on_ok_weaker}
use Rattle.std.specs.Option.{ForSome}
use Rattle.spec_image.specs.Image.{Image}
use Rattle.spec_image.specs.Told.{Applies, PassesAny}
use Rattle.spec_image.proofs.Quiet.{passes_any}
use Rattle.blk_io.proofs.Carried.{if_damaged_weaker, told_at_end}
use Rattle.law_recovery.specs.ChainRepair.{chain_repair_steps}
use Rattle.law_recovery.specs.ListRepair.{HoldsTheSame, IsListMended, list_repair_steps}
use Rattle.law_recovery.proofs.MendedChanges.{holds-mid}
use Rattle.blk_repair.specs.Endings.{RepairBreaksOff}
use Rattle.blk_repair.specs.Parts.{Exactly}
use Rattle.blk_repair.specs.Removals.{IsListScanned}
use Rattle.blk_repair.specs.Repair.{AreBucketsScanned, IsRepairable}
use Rattle.blk_repair.proofs.EndingRuns.{links-break, list-breaks}
use Rattle.blk_repair.proofs.Endings.{breaks-weaker}
use Rattle.blk_repair.proofs.ListRuns.{steps-are}
use Rattle.blk_repair.proofs.PartRuns.{exactly-made, in-turn}
use Rattle.blk_repair.proofs.RepairRuns.{can-write, chains-next, here-still, links-done, list-clean, list-scanned, none-before, still-told}
use Rattle.blk_repair.proofs.repairing.mend_links.Given as given
use Rattle.blk_repair.proofs.repairing.mend_links.Goals as goal

pub returns-in_err-mend_list-clause-stops : goal.returns-in_err-mend_list-clause-stops
returns-in_err-mend_list-clause-stops g c from there is =
    breaks-weaker
    (list-breaks (g.F.Folder.told c.args.folder.now) (g.F.Folder.told c.mend_list.new.folder) c.walked_nodes.result.now c.kept_nodes.result.now from there
    (list-scanned c.args.scan.now c.walked_nodes.result.now c.kept_nodes.result.now from c.walked_nodes.ensures c.kept_nodes.ensures (can-write c.args.files.now from (g.met.F.Folder.are_bytes c.args.folder.now from there) (c.requires.is_open from there)) is)
    c.mend_list.ensures.prefix) (holds-mid from)

module _ (g : given.Over) (c : goal.After-mend_buckets g) (from : Image) (there : (g.F.Folder.told c.args.folder.now).files ≡ Some from) (is : IsRepairable c.args.scan.now from) where
  scanned : IsListScanned c.walked_nodes.result.now c.kept_nodes.result.now from
  scanned =
      list-scanned c.args.scan.now c.walked_nodes.result.now c.kept_nodes.result.now from c.walked_nodes.ensures c.kept_nodes.ensures (can-write c.args.files.now from (g.met.F.Folder.are_bytes c.args.folder.now from there) (c.requires.is_open from there))
      is

  first : RepairBreaksOff (g.F.Folder.told c.args.folder.now) (g.F.Folder.told c.mend_list.new.folder) (HoldsTheSame from)
  first = list-breaks (g.F.Folder.told c.args.folder.now) (g.F.Folder.told c.mend_list.new.folder) c.walked_nodes.result.now c.kept_nodes.result.now from there scanned c.mend_list.ensures.prefix

  held : PassesAny (g.F.Folder.told c.args.folder.now) (g.F.Folder.told c.mend_list.new.folder) (HoldsTheSame from)
  held = passes_any (c.mend_list.ensures.stops from there scanned)

  mended : ForSome (g.F.Folder.told c.mend_list.new.folder).files (IsListMended from)
  mended = c.in_ok-mend_list.ensures.mended from there scanned

pub returns-clause-mended : goal.returns-clause-mended
returns-clause-mended g c =
    on_ok_weaker c.mend_buckets.result
    (λ made from there is.
    links-done c.args.scan.now (g.F.Folder.told c.args.folder.now) (g.F.Folder.told c.mend_list.new.folder) from there is (held g c from there is) (mended g c from there is) (g.F.Folder.told c.mend_buckets.new.folder)
    (λ mid here scanned. (c.mend_buckets.ensures.stops mid here scanned).passes) made)
    c.mend_buckets.ensures.mended

pub returns-clause-stops : goal.returns-clause-stops
returns-clause-stops g c from there is =
    links-break c.args.scan.now (g.F.Folder.told c.args.folder.now) (g.F.Folder.told c.mend_list.new.folder) (g.F.Folder.told c.mend_buckets.new.folder) from there is (first g c from there is) (mended g c from there is) c.mend_buckets.ensures.stops

pub returns-clause-untold : goal.returns-clause-untold
returns-clause-untold g c all =
    if_damaged_weaker c.mend_buckets.result _ _
    (λ damage none. none-before (g.F.Folder.told c.args.folder.now) (g.F.Folder.told c.mend_list.new.folder) (λ from there. still-told from there (held g c from there (all from there))) none)
    (c.mend_buckets.ensures.untold
    (told_at_end (g.F.Folder.told c.args.folder.now).files (g.F.Folder.told c.mend_list.new.folder).files (AreBucketsScanned c.args.scan.now.chains) c.mend_list.ensures.prefix.silent
    (λ from there. chains-next c.args.scan.now (g.F.Folder.told c.args.folder.now) (g.F.Folder.told c.mend_list.new.folder) from there (all from there) (held g c from there (all from there)) (mended g c from there (all from there)))))

pub returns-clause-clean : goal.returns-clause-clean
returns-clause-clean g c =
    on_ok_weaker c.mend_buckets.result
    (λ clean from there is links.
    let same = list-clean (g.F.Folder.told c.args.folder.now) (g.F.Folder.told c.mend_list.new.folder) c.walked_nodes.result.now c.kept_nodes.result.now from (scanned g c from there is) links (c.in_ok-mend_list.ensures.steps from there) in
    let here = here-still from there same in
    clean from here (chains-next c.args.scan.now (g.F.Folder.told c.args.folder.now) (g.F.Folder.told c.mend_list.new.folder) from there is (held g c from there is) (mended g c from there is) from here) links ∙ same) c.mend_buckets.ensures.clean

pub returns-clause-steps : goal.returns-clause-steps
returns-clause-steps g c =
    on_ok_weaker c.mend_buckets.result
    (λ made from there is.
    let asked = steps-are from c.walked_nodes.result.now c.kept_nodes.result.now (scanned g c from there is) in
    in-turn (g.F.Folder.told c.mend_buckets.new.folder) (Exactly list_repair_steps) (Exactly chain_repair_steps) from there
    (exactly-made list_repair_steps from (subst (Applies (g.F.Folder.told c.args.folder.now) (g.F.Folder.told c.mend_list.new.folder)) (sym asked) (c.in_ok-mend_list.ensures.steps from there)))
    (λ mid here.
    exactly-made chain_repair_steps mid
    (made mid here (chains-next c.args.scan.now (g.F.Folder.told c.args.folder.now) (g.F.Folder.told c.mend_list.new.folder) from there is (held g c from there is) (mended g c from there is) mid here)))) c.mend_buckets.ensures.steps
