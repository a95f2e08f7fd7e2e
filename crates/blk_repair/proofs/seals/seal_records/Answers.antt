use Rattle.std.proofs.Common.{◌≡◌, ℕ, ◌+◌, None, drop, refl, arith, subst, sym}
use Rattle.std.specs.Option.{ForSome}
use Rattle.std.proofs.lemmas.List.Elements.{All-get_or}
use Rattle.spec_image.specs.Told.{Along}
use Rattle.spec_image.proofs.Runs.{part_whole}
use Rattle.spec_format.specs.Sealed.{RecordChecks, seal_steps}
use Rattle.blk_io.proofs.Carried.{carried, if_damaged_weaker}
use Rattle.blk_repair.specs.Damages.{AllCheck}
use Rattle.blk_repair.specs.Seals.{seals_steps}
use Rattle.blk_repair.proofs.Progress.{begun, ended, now_along, stays-open, stopped, was_untold, went_on}
use Rattle.blk_repair.proofs.SealRuns.{seal-open, seals-check, seals-done, seals-end, seals-lead, seals-open, seals-pass}
use Rattle.blk_repair.proofs.seals.seal_records.Goals as goal

pub loop-record-init : goal.loop-record-init
loop-record-init g c = record { progress = begun (g.F.Folder.told c.args.folder.now) (g.F.Folder.told c.args.folder.now) (seals_steps c.args.records.now) refl; is_open = c.requires.is_open; later = omega arith }

pub seal-requires-clause-agrees : goal.seal-requires-clause-agrees
seal-requires-clause-agrees g c image there = (c.loop-record.invariant.is_open image there).agrees

pub returns-in_err-seal-clause-prefix : goal.returns-in_err-seal-clause-prefix
returns-in_err-seal-clause-prefix g c = record {
  made = stopped c.loop-record.invariant.progress (λ image. seal_steps image c.record-item.result) (seals_steps (drop (c.loop-record.record-index + 1) c.args.records.now)) (g.F.Folder.told c.seal.new.folder)
      (seals-lead c.args.records.now c.loop-record.record-index c.record-item.result c.loop-record-test.true c.record-item.is) c.in_err-seal.ensures.prefix.made;
  silent = λ none. c.in_err-seal.ensures.prefix.silent (c.loop-record.invariant.progress.silent none);
}

pub returns-in_err-seal-clause-stops : goal.returns-in_err-seal-clause-stops
returns-in_err-seal-clause-stops g c = seals-pass (g.F.Folder.told c.args.folder.now) (g.F.Folder.told c.seal.new.folder) c.args.records.now (returns-in_err-seal-clause-prefix g c).made

pub returns-in_err-seal-clause-is_open : goal.returns-in_err-seal-clause-is_open
returns-in_err-seal-clause-is_open g c =
    stays-open c.args.files.now (g.F.Folder.told c.args.folder.now) (g.F.Folder.told c.seal.new.folder) (seals_steps c.args.records.now) (seals-open c.args.files.now c.args.records.now) c.requires.is_open
    (returns-in_err-seal-clause-prefix g c).made (returns-in_err-seal-clause-prefix g c).silent

pub returns-in_err-seal-clause-untold : goal.returns-in_err-seal-clause-untold
returns-in_err-seal-clause-untold g c next =
    let all : ForSome (g.F.Folder.told c.args.folder.now).files (λ from. Along (AllCheck c.args.records.now) from (seals_steps c.args.records.now from)) = (λ from there. seals-check (next from there).0 from c.args.records.now (next from there).1) in
    carried c.seal.result c.from_residual.result c.in_err-seal.field-0.0 (λ _. (g.F.Folder.told c.args.folder.now).files ≡ None) c.in_err-seal.was c.from_residual.ensures.1
    (if_damaged_weaker c.seal.result _ _ (λ damage none. was_untold c.loop-record.invariant.progress none)
    (c.seal.ensures.untold
    (λ image here. subst (λ (w : ℕ). RecordChecks w image) (sym c.record-item.is) (All-get_or (λ w. RecordChecks w image) c.args.records.now c.loop-record.record-index c.record-item.result c.loop-record-test.true (now_along c.loop-record.invariant.progress (AllCheck c.args.records.now) all image here)))))

pub loop-record-preserved : goal.loop-record-preserved
loop-record-preserved g c = record {
  progress = went_on c.loop-record.invariant.progress (λ image. seal_steps image c.record-item.result) (seals_steps (drop (c.loop-record.record-index + 1) c.args.records.now)) (g.F.Folder.told c.seal.new.folder)
      (seals-lead c.args.records.now c.loop-record.record-index c.record-item.result c.loop-record-test.true c.record-item.is) c.in_ok-seal.ensures.steps c.in_ok-seal.ensures.prefix.silent;
  is_open = stays-open c.args.files.now (g.F.Folder.told c.loop-record.folder) (g.F.Folder.told c.seal.new.folder) (λ image. seal_steps image c.record-item.result) (seal-open c.args.files.now c.record-item.result)
      c.loop-record.invariant.is_open c.in_ok-seal.ensures.prefix.made c.in_ok-seal.ensures.prefix.silent;
  later = omega (arith, c.loop-record.invariant.later, c.in_ok-seal.ensures.later);
}

pub returns-clause-steps : goal.returns-clause-steps
returns-clause-steps g c = ended c.loop-record.invariant.progress (seals-end c.args.records.now c.loop-record.record-index c.loop-record-test.false)

pub returns-clause-sealed : goal.returns-clause-sealed
returns-clause-sealed g c = seals-done (g.F.Folder.told c.args.folder.now) (g.F.Folder.told c.loop-record.folder) c.args.records.now (returns-clause-steps g c)

pub returns-clause-stops : goal.returns-clause-stops
returns-clause-stops g c = seals-pass (g.F.Folder.told c.args.folder.now) (g.F.Folder.told c.loop-record.folder) c.args.records.now (λ image there. part_whole (returns-clause-steps g c image there))
