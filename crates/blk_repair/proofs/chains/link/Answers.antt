use Rattle.std.proofs.Common.{◌≡◌, ℕ, ◌+◌, None, drop, refl, arith, subst, sym, rules}
use Rattle.std.specs.Option.{ForSome}
use Rattle.std.proofs.lemmas.List.Elements.{All-get_or}
use Rattle.spec_image.proofs.Runs.{part_whole}
use Rattle.blk_io.proofs.Carried.{carried, if_damaged_weaker}
use Rattle.spec_format.specs.Sealed.{RecordChecks}
use Rattle.blk_disk.specs.Open.{IsOpen}
use Rattle.law_recovery.specs.ChainRepair.{next_words_steps, next_steps}
use Rattle.blk_repair.specs.Damages.{AllCheck}
use Rattle.blk_repair.proofs.Choices.{next-open}
use Rattle.blk_repair.proofs.ChainRuns.{link-leads, links-end}
use Rattle.blk_repair.proofs.RecordRuns.{links-check}
use Rattle.blk_repair.proofs.Progress.{Leads, begun, ended, now_along, stays-open, stopped, was_untold, went_on}
use Rattle.blk_repair.proofs.chains.link.Given as given
use Rattle.blk_repair.proofs.chains.link.Goals as goal

-- the step of one round
leads : (g : given.Over) (c : goal.In_ok-set_next g) → Leads (next_words_steps (drop c.loop-i.i c.args.records.now)) (next_steps c.index-records-i.result c.first_word-behind.result) (next_words_steps (drop (c.loop-i.i + 1) c.args.records.now))
leads g c = link-leads c.args.records.now c.loop-i.i c.index-records-i.result c.first_word-behind.result c.loop-i-test.true c.index-records-i.is c.first_word-behind.ensures

pub loop-i-init : goal.loop-i-init
loop-i-init g c = record { progress = begun (g.F.Folder.told c.args.folder.now) (g.F.Folder.told c.args.folder.now) (next_words_steps c.args.records.now) refl; is_open = c.requires.is_open; later = omega arith }

pub returns-in_err-set_next-clause-prefix : goal.returns-in_err-set_next-clause-prefix
returns-in_err-set_next-clause-prefix g c = record {
  made = stopped c.loop-i.invariant.progress (next_steps c.index-records-i.result c.first_word-behind.result) (next_words_steps (drop (c.loop-i.i + 1) c.args.records.now)) (g.F.Folder.told c.set_next.new.folder)
      (link-leads c.args.records.now c.loop-i.i c.index-records-i.result c.first_word-behind.result c.loop-i-test.true c.index-records-i.is c.first_word-behind.ensures) c.in_err-set_next.ensures.prefix.made;
  silent = search rules;
}

pub returns-in_err-set_next-clause-untold : goal.returns-in_err-set_next-clause-untold
returns-in_err-set_next-clause-untold g c all =
    carried c.set_next.result c.from_residual.result c.in_err-set_next.field-0.0 (λ _. (g.F.Folder.told c.args.folder.now).files ≡ None) c.in_err-set_next.was c.from_residual.ensures.1
    (if_damaged_weaker c.set_next.result _ _ (λ damage none. was_untold c.loop-i.invariant.progress none)
    (c.set_next.ensures.untold
    (λ image here. subst (λ (w : ℕ). RecordChecks w image) (sym c.index-records-i.is) (All-get_or (λ w. RecordChecks w image) c.args.records.now c.loop-i.i c.index-records-i.result c.loop-i-test.true (now_along c.loop-i.invariant.progress (AllCheck c.args.records.now) (λ from there. links-check c.args.files.now c.args.records.now from (c.requires.is_open from there) c.requires.stand (all from there)) image here)))))

pub loop-i-preserved : goal.loop-i-preserved
loop-i-preserved g c = record {
  progress = went_on c.loop-i.invariant.progress (next_steps c.index-records-i.result c.first_word-behind.result) (next_words_steps (drop (c.loop-i.i + 1) c.args.records.now)) (g.F.Folder.told c.set_next.new.folder) (leads g c) c.in_ok-set_next.ensures.steps c.in_ok-set_next.ensures.prefix.silent;
  is_open = open_now;
  later = omega (arith, c.loop-i.invariant.later, c.in_ok-set_next.ensures.later);
}
  where
    open_now : ForSome (g.F.Folder.told c.set_next.new.folder).files (IsOpen c.args.files.now)
    open_now = stays-open c.args.files.now (g.F.Folder.told c.loop-i.folder) (g.F.Folder.told c.set_next.new.folder) (next_steps c.index-records-i.result c.first_word-behind.result) (next-open c.args.files.now c.index-records-i.result c.first_word-behind.result)
        c.loop-i.invariant.is_open c.in_ok-set_next.ensures.prefix.made c.in_ok-set_next.ensures.prefix.silent

pub returns-clause-steps : goal.returns-clause-steps
returns-clause-steps g c = ended c.loop-i.invariant.progress (links-end c.args.records.now c.loop-i.i c.loop-i-test.false)

pub returns-clause-prefix : goal.returns-clause-prefix
returns-clause-prefix g c = record {
  made = λ image there. part_whole (returns-clause-steps g c image there);
  silent = search rules;
}
