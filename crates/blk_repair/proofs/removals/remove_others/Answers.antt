use Rattle.std.proofs.Common.{◌≡◌, ◌≤◌, ℕ, ◌+◌, None, sym, ◌∙◌, ap, subst, arith, rules}
use Rattle.spec_image.specs.Told.{Told}
use Rattle.spec_image.proofs.Runs.{part_whole}
use Rattle.blk_io.proofs.Carried.{carried, if_damaged_weaker}
use Rattle.blk_repair.proofs.Progress.{ended, was_untold}
use Rattle.blk_repair.proofs.RemovalRuns.{HasTaken, removals-done, removals-mend, removals-pass, taken-listed, taken-none, taken-out, taken-part, taken-pass}
use Rattle.blk_repair.proofs.removals.remove_others.Goals as goal
use Rattle.blk_repair.proofs.removals.remove_others.Goals.{then-is_next, else-is_next+in_ok-remove}

pub loop-i-init : goal.loop-i-init
loop-i-init g c = record { taken = taken-none (g.F.Folder.told c.args.folder.now) c.args.files.now c.args.walked.now c.args.kept.now c.requires.is_open; few = omega arith; later = omega arith }

pub returns-in_err-remove-clause-prefix : goal.returns-in_err-remove-clause-prefix
returns-in_err-remove-clause-prefix g c = record {
  made = taken-part (g.F.Folder.told c.args.folder.now) (g.F.Folder.told c.loop-i.folder) c.args.files.now c.args.walked.now c.args.kept.now c.loop-i.i c.loop-i.passed c.index-walked-i.result c.loop-i.invariant.taken c.loop-i-test.true
      c.index-walked-i.is (sym c.is_next.ensures ∙ c.if-is_next.false) (g.F.Folder.told c.remove.new.f) c.in_err-remove.ensures.prefix.made;
  silent = search rules;
}

pub returns-in_err-remove-clause-stops : goal.returns-in_err-remove-clause-stops
returns-in_err-remove-clause-stops g c = removals-pass (g.F.Folder.told c.args.folder.now) (g.F.Folder.told c.remove.new.f) c.args.walked.now c.args.kept.now (returns-in_err-remove-clause-prefix g c).made

pub returns-in_err-remove-clause-untold : goal.returns-in_err-remove-clause-untold
returns-in_err-remove-clause-untold g c some =
    carried c.remove.result c.from_residual.result c.in_err-remove.field-0.0 (λ _. (g.F.Folder.told c.args.folder.now).files ≡ None) c.in_err-remove.was c.from_residual.ensures.1
    (if_damaged_weaker c.remove.result _ _ (λ damage none. was_untold c.loop-i.invariant.taken.progress none)
    (c.remove.ensures.untold (taken-listed (g.F.Folder.told c.args.folder.now) (g.F.Folder.told c.loop-i.folder) c.args.files.now c.args.walked.now c.args.kept.now c.loop-i.i c.loop-i.passed c.index-walked-i.result c.loop-i.invariant.taken c.loop-i-test.true
    c.index-walked-i.is some)))

pub loop-i-preserved : goal.loop-i-preserved
loop-i-preserved g c = elim c.if-is_next.branch [
  | then-is_next w ↦
      record {
        taken =
            subst (λ (t : Told). HasTaken (g.F.Folder.told c.args.folder.now) t c.args.files.now c.args.walked.now c.args.kept.now (c.loop-i.i + 1) c.if-is_next.passed) (ap g.F.Folder.told (sym w.folder-is))
            (subst (λ (p : ℕ). HasTaken (g.F.Folder.told c.args.folder.now) (g.F.Folder.told c.loop-i.folder) c.args.files.now c.args.walked.now c.args.kept.now (c.loop-i.i + 1) p) (sym w.passed-is)
            (taken-pass (g.F.Folder.told c.args.folder.now) (g.F.Folder.told c.loop-i.folder) c.args.files.now c.args.walked.now c.args.kept.now c.loop-i.i c.loop-i.passed c.index-walked-i.result c.loop-i.invariant.taken c.loop-i-test.true c.index-walked-i.is
            (sym c.is_next.ensures ∙ w.if-is_next.true)));
        few = let one = c.loop-i.invariant.few in let is = w.passed-is in omega (arith, one, is);
        later = let one = c.loop-i.invariant.later in subst (λ f. g.F.Folder.faults c.args.folder.now ≤ g.F.Folder.faults f) (sym w.folder-is) one;
      }
  | else-is_next+in_ok-remove w ↦
      record {
        taken =
            subst (λ (t : Told). HasTaken (g.F.Folder.told c.args.folder.now) t c.args.files.now c.args.walked.now c.args.kept.now (c.loop-i.i + 1) c.if-is_next.passed) (ap g.F.Folder.told (sym w.folder-is))
            (subst (λ (p : ℕ). HasTaken (g.F.Folder.told c.args.folder.now) (g.F.Folder.told w.remove.new.f) c.args.files.now c.args.walked.now c.args.kept.now (c.loop-i.i + 1) p) (sym w.passed-is)
            (taken-out (g.F.Folder.told c.args.folder.now) (g.F.Folder.told c.loop-i.folder) c.args.files.now c.args.walked.now c.args.kept.now c.loop-i.i c.loop-i.passed c.index-walked-i.result c.loop-i.invariant.taken c.loop-i-test.true
            c.index-walked-i.is (sym c.is_next.ensures ∙ w.if-is_next.false) (g.F.Folder.told w.remove.new.f) w.in_ok-remove.ensures.steps w.remove.ensures.prefix.silent w.remove.ensures.is_open));
        few = let one = c.loop-i.invariant.few in let is = w.passed-is in omega (arith, one, is);
        later = let one = c.loop-i.invariant.later in let other = w.remove.ensures.later in subst (λ f. g.F.Folder.faults c.args.folder.now ≤ g.F.Folder.faults f) (sym w.folder-is) (omega (arith, one, other));
      }
]

pub returns-clause-steps : goal.returns-clause-steps
returns-clause-steps g c = ended c.loop-i.invariant.taken.progress (removals-done c.args.walked.now c.args.kept.now c.loop-i.i c.loop-i.passed c.loop-i-test.false)

pub returns-clause-prefix : goal.returns-clause-prefix
returns-clause-prefix g c = record {
  made = λ image there. part_whole (returns-clause-steps g c image there);
  silent = search rules;
}

pub returns-clause-mended : goal.returns-clause-mended
returns-clause-mended g c = removals-mend (g.F.Folder.told c.args.folder.now) (g.F.Folder.told c.loop-i.folder) c.args.walked.now c.args.kept.now (returns-clause-steps g c)

pub returns-clause-stops : goal.returns-clause-stops
returns-clause-stops g c = removals-pass (g.F.Folder.told c.args.folder.now) (g.F.Folder.told c.loop-i.folder) c.args.walked.now c.args.kept.now (returns-clause-prefix g c).made
