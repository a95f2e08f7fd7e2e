use Rattle.std.proofs.Common.{inl, inr, sym, ap, ◌∙◌}
use Rattle.std.proofs.lemmas.Result.{IfOk-weaker, on_ok_weaker}
use Rattle.spec_image.specs.Told.{Told}
use Rattle.spec_format.specs.BlockFiles.{IsDamagedBy}
use Rattle.blk_io.specs.Faults.{damage_of}
use Rattle.blk_repair.proofs.Endings.{either-stayed, ends-stayed}
use Rattle.blk_cache.proofs.CarriedFaults.{damaged-on, if-memory, no-memory, open-damaged-weaker, open-memory-weaker}
use Rattle.blk_scan.proofs.FirstDamages.{length-checked, looked-as}
use Rattle.blk_cache.proofs.OpenRuns.{first-of_look, looking-as, stayed-still, untold-says}
use Rattle.blk_cache.proofs.opening.open_folder.Goals as goal

pub returns-in_err-look-clause-stops : goal.returns-in_err-look-clause-stops
returns-in_err-look-clause-stops g c from there = inl (stayed-still from there c.in_err-look.ensures.reads.stays)

pub returns-in_err-look-clause-damaged : goal.returns-in_err-look-clause-damaged
returns-in_err-look-clause-damaged g c =
    damaged-on c.from_residual.result c.in_err-look.field-0.0 c.from_residual.ensures.1 _ (looking-as c.in_err-look.field-0.0 (g.F.Folder.told c.args.folder.now) (g.F.Folder.told c.look.new.f) c.in_err-look.ensures.reads.stays c.in_err-look.ensures.cause)

pub returns-in_err-look-clause-first : goal.returns-in_err-look-clause-first
returns-in_err-look-clause-first g c = damaged-on c.from_residual.result c.in_err-look.field-0.0 c.from_residual.ensures.1 _ (first-of_look c.in_err-look.field-0.0 (g.F.Folder.told c.args.folder.now).files c.in_err-look.ensures.looked)

pub returns-in_err-look-clause-unwritten : goal.returns-in_err-look-clause-unwritten
returns-in_err-look-clause-unwritten g c from there bad = c.in_err-look.ensures.reads.stays

pub returns-in_err-look-clause-memory : goal.returns-in_err-look-clause-memory
returns-in_err-look-clause-memory g c = if-memory c.from_residual.result _ c.in_err-look.ensures.reads.stays

pub open_new-requires : goal.open_new-requires
open_new-requires g c = record { unfinished = λ i here. looked-as _ _ i c.in-Unfinished.is (c.in_ok-look.ensures.looked i (sym (ap (λ (t : Told). t.files) c.in_ok-look.ensures.reads.stays) ∙ here)) }

pub returns-in_err-open_new-in-Unfinished-clause-stops : goal.returns-in_err-open_new-in-Unfinished-clause-stops
returns-in_err-open_new-in-Unfinished-clause-stops g c from there = either-stayed c.in_ok-look.ensures.reads.stays (c.open_new.ensures.stops from (ap (λ (t : Told). t.files) c.in_ok-look.ensures.reads.stays ∙ there))

pub returns-in_err-open_new-in-Unfinished-clause-damaged : goal.returns-in_err-open_new-in-Unfinished-clause-damaged
returns-in_err-open_new-in-Unfinished-clause-damaged g c =
    damaged-on c.from_residual-in_err-open_new-in-Unfinished.result c.in_err-open_new-in-Unfinished.field-0.0 c.from_residual-in_err-open_new-in-Unfinished.ensures.1 _ c.in_err-open_new-in-Unfinished.ensures.damaged

pub returns-in_err-open_new-in-Unfinished-clause-first : goal.returns-in_err-open_new-in-Unfinished-clause-first
returns-in_err-open_new-in-Unfinished-clause-first g c =
    damaged-on c.from_residual-in_err-open_new-in-Unfinished.result c.in_err-open_new-in-Unfinished.field-0.0 c.from_residual-in_err-open_new-in-Unfinished.ensures.1 _
    (untold-says c.in_err-open_new-in-Unfinished.field-0.0 (g.F.Folder.told c.look.new.f) (g.F.Folder.told c.args.folder.now).files (λ damage. IsDamagedBy (damage_of damage)) (λ i there. ap (λ (t : Told). t.files) c.in_ok-look.ensures.reads.stays ∙ there)
    c.in_err-open_new-in-Unfinished.ensures.untold)

pub returns-in_err-open_new-in-Unfinished-clause-unwritten : goal.returns-in_err-open_new-in-Unfinished-clause-unwritten
returns-in_err-open_new-in-Unfinished-clause-unwritten g c from there bad = absurd (bad (inl (looked-as _ _ from c.in-Unfinished.is (c.in_ok-look.ensures.looked from there))))

pub returns-in_ok-open_new-in-Unfinished-clause-unwritten : goal.returns-in_ok-open_new-in-Unfinished-clause-unwritten
returns-in_ok-open_new-in-Unfinished-clause-unwritten g c from there bad = absurd (bad (inl (looked-as _ _ from c.in-Unfinished.is (c.in_ok-look.ensures.looked from there))))

pub returns-in_err-open_new-in-Unfinished-clause-memory : goal.returns-in_err-open_new-in-Unfinished-clause-memory
returns-in_err-open_new-in-Unfinished-clause-memory g c = no-memory c.from_residual-in_err-open_new-in-Unfinished.result c.in_err-open_new-in-Unfinished.field-0.0 _ c.from_residual-in_err-open_new-in-Unfinished.ensures.1

pub returns-in_ok-open_new-in-Unfinished-clause-opened : goal.returns-in_ok-open_new-in-Unfinished-clause-opened
returns-in_ok-open_new-in-Unfinished-clause-opened g c from there image here = c.in_ok-open_new-in-Unfinished.ensures.opened from (ap (λ (t : Told). t.files) c.in_ok-look.ensures.reads.stays ∙ there) image here

pub returns-in_ok-open_new-in-Unfinished-clause-checked : goal.returns-in_ok-open_new-in-Unfinished-clause-checked
returns-in_ok-open_new-in-Unfinished-clause-checked g c from there = inl (looked-as _ _ from c.in-Unfinished.is (c.in_ok-look.ensures.looked from there))

pub returns-in_ok-open_new-in-Unfinished-clause-stops : goal.returns-in_ok-open_new-in-Unfinished-clause-stops
returns-in_ok-open_new-in-Unfinished-clause-stops g c from there = either-stayed c.in_ok-look.ensures.reads.stays (c.open_new.ensures.stops from (ap (λ (t : Told). t.files) c.in_ok-look.ensures.reads.stays ∙ there))

pub returns-in_ok-open_new-in-Unfinished-clause-last : goal.returns-in_ok-open_new-in-Unfinished-clause-last
returns-in_ok-open_new-in-Unfinished-clause-last g c from there =
    ends-stayed c.in_ok-look.ensures.reads.stays (c.in_ok-open_new-in-Unfinished.ensures.last from (ap (λ (t : Told). t.files) c.in_ok-look.ensures.reads.stays ∙ there))

pub open_finished-requires : goal.open_finished-requires
open_finished-requires g c = record {
  complete = λ i here.
      let fin = looked-as _ _ i c.in-Finished.is (c.in_ok-look.ensures.looked i (sym (ap (λ (t : Told). t.files) c.in_ok-look.ensures.reads.stays) ∙ here)) in
      length-checked i fin.undamaged;
}

pub returns-in-Finished-clause-opened : goal.returns-in-Finished-clause-opened
returns-in-Finished-clause-opened g c =
    IfOk-weaker c.open_finished.result _ _
    (λ opened left from there. left from (ap (λ (t : Told). t.files) c.in_ok-look.ensures.reads.stays ∙ there) (looked-as _ _ from c.in-Finished.is (c.in_ok-look.ensures.looked from there))) c.open_finished.ensures.opened

pub returns-in-Finished-clause-checked : goal.returns-in-Finished-clause-checked
returns-in-Finished-clause-checked g c =
    on_ok_weaker c.open_finished.result
    (λ well from there. inr (well from (ap (λ (t : Told). t.files) c.in_ok-look.ensures.reads.stays ∙ there) (looked-as _ _ from c.in-Finished.is (c.in_ok-look.ensures.looked from there)))) c.open_finished.ensures.checked

pub returns-in-Finished-clause-stops : goal.returns-in-Finished-clause-stops
returns-in-Finished-clause-stops g c from there =
    either-stayed c.in_ok-look.ensures.reads.stays (c.open_finished.ensures.stops from (ap (λ (t : Told). t.files) c.in_ok-look.ensures.reads.stays ∙ there) (looked-as _ _ from c.in-Finished.is (c.in_ok-look.ensures.looked from there)))

pub returns-in-Finished-clause-last : goal.returns-in-Finished-clause-last
returns-in-Finished-clause-last g c =
    on_ok_weaker c.open_finished.result
    (λ made from there. ends-stayed c.in_ok-look.ensures.reads.stays (made from (ap (λ (t : Told). t.files) c.in_ok-look.ensures.reads.stays ∙ there) (looked-as _ _ from c.in-Finished.is (c.in_ok-look.ensures.looked from there)))) c.open_finished.ensures.last

pub returns-in-Finished-clause-first : goal.returns-in-Finished-clause-first
returns-in-Finished-clause-first g c =
    open-damaged-weaker c.open_finished.result _ _
    (λ damage first from there.
    let fin = looked-as _ _ from c.in-Finished.is (c.in_ok-look.ensures.looked from there) in
    record { finished = fin.finished; first = first from (ap (λ (t : Told). t.files) c.in_ok-look.ensures.reads.stays ∙ there) fin }) c.open_finished.ensures.first

pub returns-in-Finished-clause-unwritten : goal.returns-in-Finished-clause-unwritten
returns-in-Finished-clause-unwritten g c from there bad =
    let fin = looked-as _ _ from c.in-Finished.is (c.in_ok-look.ensures.looked from there) in
    c.open_finished.ensures.unwritten from (ap (λ (t : Told). t.files) c.in_ok-look.ensures.reads.stays ∙ there) fin (λ well. bad (inr well)) ∙ c.in_ok-look.ensures.reads.stays

pub returns-in-Finished-clause-memory : goal.returns-in-Finished-clause-memory
returns-in-Finished-clause-memory g c = open-memory-weaker c.open_finished.result _ _ (λ same. same ∙ c.in_ok-look.ensures.reads.stays) c.open_finished.ensures.memory

pub returns-in_ok-open_new-in-Unfinished-clause-made : goal.returns-in_ok-open_new-in-Unfinished-clause-made
returns-in_ok-open_new-in-Unfinished-clause-made g c from there un = c.in_ok-open_new-in-Unfinished.ensures.made from (ap (λ (t : Told). t.files) c.in_ok-look.ensures.reads.stays ∙ there)

pub returns-in-Finished-clause-made : goal.returns-in-Finished-clause-made
returns-in-Finished-clause-made g c =
    on_ok_weaker c.open_finished.result
    (λ well from there un. let fin = looked-as _ _ from c.in-Finished.is (c.in_ok-look.ensures.looked from there) in absurd (fin.finished un)) c.open_finished.ensures.checked
