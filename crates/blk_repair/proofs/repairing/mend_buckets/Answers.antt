use Rattle.std.proofs.Common.{Option, refl, sym, subst, ◌∙◌}
use Rattle.std.proofs.lemmas.Result.{on_ok_weaker}
use Rattle.spec_image.specs.Told.{Applies}
use Rattle.spec_image.proofs.Runs.{grows_none, some_inj}
use Rattle.law_recovery.specs.ListRepair.{HoldsTheSame}
use Rattle.blk_scan.specs.declared.chains.KeptChains.{KeptChains}
use Rattle.blk_repair.specs.Repair.{AreBucketsScanned}
use Rattle.blk_repair.proofs.EndingRuns.{chains-break}
use Rattle.blk_repair.proofs.Endings.{breaks-none}
use Rattle.blk_repair.proofs.PartRuns.{none-asked}
use Rattle.blk_repair.proofs.RepairRuns.{chains-clean, chains-told, none-held}
use Rattle.blk_repair.proofs.repairing.mend_buckets.Goals as goal

pub returns-in-Some-clause-mended : goal.returns-in-Some-clause-mended
returns-in-Some-clause-mended g c =
    on_ok_weaker c.mend_chains.result
    (λ made from there is.
    made from there
    (chains-told c.in-Some.chains.now c.records.result.now c.ends.result.now c.whole.result.now from c.records.ensures c.ends.ensures c.whole.ensures (subst (λ (o : Option KeptChains). AreBucketsScanned o from) (sym c.in-Some.ensures) is))) c.mend_chains.ensures.mended

pub returns-in-Some-clause-untold : goal.returns-in-Some-clause-untold
returns-in-Some-clause-untold g c scanned =
    c.mend_chains.ensures.untold
    (λ from there.
    chains-told c.in-Some.chains.now c.records.result.now c.ends.result.now c.whole.result.now from c.records.ensures c.ends.ensures c.whole.ensures
    (subst (λ (o : Option KeptChains). AreBucketsScanned o from) (sym c.in-Some.ensures) (scanned from there)))

pub returns-in-Some-clause-clean : goal.returns-in-Some-clause-clean
returns-in-Some-clause-clean g c =
    on_ok_weaker c.mend_chains.result
    (λ made from there is links.
    chains-clean (g.F.Folder.told c.args.folder.now) (g.F.Folder.told c.mend_chains.new.folder) from links
    (made from there
    (chains-told c.in-Some.chains.now c.records.result.now c.ends.result.now c.whole.result.now from c.records.ensures c.ends.ensures c.whole.ensures (subst (λ (o : Option KeptChains). AreBucketsScanned o from) (sym c.in-Some.ensures) is))))
    c.mend_chains.ensures.steps

pub returns-in-None-clause-steps : goal.returns-in-None-clause-steps
returns-in-None-clause-steps g c from there is =
    subst (Applies (g.F.Folder.told c.args.folder.now) (g.F.Folder.told c.args.folder.now)) (sym (none-asked from (subst (λ (o : Option KeptChains). AreBucketsScanned o from) (sym c.in-None.ensures) is))) (grows_none refl)

pub returns-in-Some-clause-steps : goal.returns-in-Some-clause-steps
returns-in-Some-clause-steps g c =
    on_ok_weaker c.mend_chains.result
    (λ made from there is.
    made from there
    (chains-told c.in-Some.chains.now c.records.result.now c.ends.result.now c.whole.result.now from c.records.ensures c.ends.ensures c.whole.ensures (subst (λ (o : Option KeptChains). AreBucketsScanned o from) (sym c.in-Some.ensures) is))) c.mend_chains.ensures.steps

pub returns-in-Some-clause-stops : goal.returns-in-Some-clause-stops
returns-in-Some-clause-stops g c from there is =
    chains-break (g.F.Folder.told c.args.folder.now) (g.F.Folder.told c.mend_chains.new.folder) c.records.result.now c.ends.result.now c.whole.result.now c.mend_chains.ensures.prefix from there
    (chains-told c.in-Some.chains.now c.records.result.now c.ends.result.now c.whole.result.now from c.records.ensures c.ends.ensures c.whole.ensures (subst (λ (o : Option KeptChains). AreBucketsScanned o from) (sym c.in-Some.ensures) is))

pub returns-in-None-clause-stops : goal.returns-in-None-clause-stops
returns-in-None-clause-stops g c from there is =
    breaks-none (HoldsTheSame from) refl (λ i here. subst (HoldsTheSame from) (some_inj (sym there ∙ here)) (none-held c.args.scan.now.chains from is))
