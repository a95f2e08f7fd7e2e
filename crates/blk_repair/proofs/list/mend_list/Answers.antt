use Rattle.std.proofs.Common.{◌≡◌, ℕ, Option, None, true, sym, subst}
use Rattle.std.proofs.lemmas.Result.{on_ok_weaker}
use Rattle.std.specs.Option.{IfSome}
use Rattle.blk_io.proofs.Carried.{carried, if_damaged_weaker}
use Rattle.blk_disk.specs.Tables.{is_node_among}
use Rattle.blk_repair.proofs.Progress.{was_untold}
use Rattle.blk_repair.proofs.ListRuns.{can-end-now, completed-first, completing-part, ended-now, ended-then, ending-part, last-has, mending-mends, mending-passes, removed-last, removing-part}
use Rattle.blk_repair.proofs.list.mend_list.Goals as goal

pub returns-in_err-complete-clause-stops : goal.returns-in_err-complete-clause-stops
returns-in_err-complete-clause-stops g c =
    mending-passes (g.F.Folder.told c.args.folder.now) (g.F.Folder.told c.complete.new.f) c.args.walked.now c.args.kept.now
    (completing-part (g.F.Folder.told c.args.folder.now) c.args.walked.now c.args.kept.now (g.F.Folder.told c.complete.new.f) c.in_err-complete.ensures.prefix.made)

pub end_at-requires-clause-stands : goal.end_at-requires-clause-stands
end_at-requires-clause-stands g c =
    subst (λ (l : Option ℕ). IfSome l (λ node. is_node_among c.args.files.now node ≡ true)) (sym c.last_of.ensures) (last-has (λ node. is_node_among c.args.files.now node ≡ true) c.args.walked.now c.requires.stand)

pub returns-in_err-end_at-clause-prefix : goal.returns-in_err-end_at-clause-prefix
returns-in_err-end_at-clause-prefix g c = record {
  made = ending-part (g.F.Folder.told c.args.folder.now) c.args.walked.now c.args.kept.now (g.F.Folder.told c.complete.new.f) c.in_ok-complete.ensures.steps c.in_ok-complete.ensures.prefix.silent c.last_of.result c.last_of.ensures (g.F.Folder.told c.end_at.new.folder)
      c.in_err-end_at.ensures.prefix.made;
  silent = λ none. c.in_err-end_at.ensures.prefix.silent (c.in_ok-complete.ensures.prefix.silent none);
}

pub returns-in_err-end_at-clause-stops : goal.returns-in_err-end_at-clause-stops
returns-in_err-end_at-clause-stops g c = mending-passes (g.F.Folder.told c.args.folder.now) (g.F.Folder.told c.end_at.new.folder) c.args.walked.now c.args.kept.now (returns-in_err-end_at-clause-prefix g c).made

pub returns-in_err-end_at-clause-untold : goal.returns-in_err-end_at-clause-untold
returns-in_err-end_at-clause-untold g c scanned =
    carried c.end_at.result c.from_residual-in_err-end_at.result c.in_err-end_at.field-0.0 (λ _. (g.F.Folder.told c.args.folder.now).files ≡ None) c.in_err-end_at.was c.from_residual-in_err-end_at.ensures.1
    (if_damaged_weaker c.end_at.result _ _
    (λ damage none. was_untold (completed-first (g.F.Folder.told c.args.folder.now) c.args.walked.now c.args.kept.now (g.F.Folder.told c.complete.new.f) c.in_ok-complete.ensures.steps c.in_ok-complete.ensures.prefix.silent) none)
    (c.end_at.ensures.untold
    (can-end-now (g.F.Folder.told c.args.folder.now) c.args.walked.now c.args.kept.now (g.F.Folder.told c.complete.new.f) c.in_ok-complete.ensures.steps c.in_ok-complete.ensures.prefix.silent c.last_of.result c.last_of.ensures scanned)))

pub returns-clause-steps : goal.returns-clause-steps
returns-clause-steps g c =
    on_ok_weaker c.remove_others.result
    (λ out. removed-last (g.F.Folder.told c.args.folder.now) c.args.walked.now c.args.kept.now (g.F.Folder.told c.complete.new.f) c.in_ok-complete.ensures.steps c.in_ok-complete.ensures.prefix.silent c.last_of.result c.last_of.ensures (g.F.Folder.told c.end_at.new.folder)
    c.in_ok-end_at.ensures.steps c.in_ok-end_at.ensures.prefix.silent (g.F.Folder.told c.remove_others.new.folder) c.remove_others.ensures.prefix.silent out) c.remove_others.ensures.steps

pub returns-clause-prefix : goal.returns-clause-prefix
returns-clause-prefix g c = record {
  made = removing-part (g.F.Folder.told c.args.folder.now) c.args.walked.now c.args.kept.now (g.F.Folder.told c.complete.new.f) c.in_ok-complete.ensures.steps c.in_ok-complete.ensures.prefix.silent c.last_of.result c.last_of.ensures (g.F.Folder.told c.end_at.new.folder)
      c.in_ok-end_at.ensures.steps c.in_ok-end_at.ensures.prefix.silent (g.F.Folder.told c.remove_others.new.folder) c.remove_others.ensures.prefix.made;
  silent = λ none. c.remove_others.ensures.prefix.silent (c.in_ok-end_at.ensures.prefix.silent (c.in_ok-complete.ensures.prefix.silent none));
}

pub returns-clause-mended : goal.returns-clause-mended
returns-clause-mended g c =
    on_ok_weaker c.remove_others.result (λ made. mending-mends (g.F.Folder.told c.args.folder.now) (g.F.Folder.told c.remove_others.new.folder) c.args.walked.now c.args.kept.now made) (returns-clause-steps g c)

pub returns-clause-stops : goal.returns-clause-stops
returns-clause-stops g c = mending-passes (g.F.Folder.told c.args.folder.now) (g.F.Folder.told c.remove_others.new.folder) c.args.walked.now c.args.kept.now (returns-clause-prefix g c).made

pub returns-clause-untold : goal.returns-clause-untold
returns-clause-untold g c scanned =
    if_damaged_weaker c.remove_others.result _ _
    (λ damage none.
    was_untold
    (ended-then (g.F.Folder.told c.args.folder.now) c.args.walked.now c.args.kept.now (g.F.Folder.told c.complete.new.f) c.in_ok-complete.ensures.steps c.in_ok-complete.ensures.prefix.silent c.last_of.result c.last_of.ensures (g.F.Folder.told c.end_at.new.folder)
    c.in_ok-end_at.ensures.steps c.in_ok-end_at.ensures.prefix.silent) none)
    (c.remove_others.ensures.untold
    (ended-now (g.F.Folder.told c.args.folder.now) c.args.walked.now c.args.kept.now (g.F.Folder.told c.complete.new.f) c.in_ok-complete.ensures.steps c.in_ok-complete.ensures.prefix.silent c.last_of.result c.last_of.ensures (g.F.Folder.told c.end_at.new.folder)
    c.in_ok-end_at.ensures.steps c.in_ok-end_at.ensures.prefix.silent scanned))
