use Rattle.std.proofs.Common.{◌≡◌, ◌++◌, ◌∷◌, [], ℕ, true, List, Some, refl, sym, ap, ◌∙◌, arith}
use Rattle.std.specs.Prelude.{slice_get}
use Rattle.std.specs.List.{filter}
use Rattle.std.proofs.lemmas.List.{append_assoc}
use Rattle.std.proofs.lemmas.Option.{slice_get_read}
use Rattle.std.specs.Prelude.{length}
use Rattle.blk_disk.specs.Tables.{Agrees, is_record_among}
use Rattle.blk_lru.proofs.Conditions.{told_now}
use Rattle.blk_audit.proofs.Carrying.{untold_on}
use Rattle.blk_verdict.proofs.ListedFacts.{one_more}
use Rattle.blk_verdict.proofs.Searched.{all_at}
use Rattle.blk_scan.specs.Bare.{is_bare_record}
use Rattle.blk_scan.proofs.bare.add_records.Goals as goal

pub loop-i-preserved : goal.loop-i-preserved
loop-i-preserved g c = record {
  bare = λ image there are all.
      let entry : ℕ = c.index-entries-i.result in
      let at : slice_get c.args.entries.now c.loop-i.i ≡ Some entry = slice_get_read c.args.entries.now (length c.args.entries.now) c.loop-i.i entry refl c.loop-i-test.true c.index-entries-i.is in
      c.in_ok-add_record.ensures.added image (told_now image c.loop-i.invariant.stays there) are (all_at (λ w. is_record_among c.args.files.now w ≡ true) c.args.entries.now c.loop-i.i entry all at)
      ∙ ap (λ (before : List ℕ). before ++ filter (is_bare_record image) (entry ∷ [])) (c.loop-i.invariant.bare image there are all)
      ∙ append_assoc c.args.bare.now.items _ (filter (is_bare_record image) (entry ∷ []))
      ∙ ap (λ (more : List ℕ). c.args.bare.now.items ++ more) (sym (one_more (is_bare_record image) c.args.entries.now c.loop-i.i entry at));
  stand = λ all. c.in_ok-add_record.ensures.stand (c.loop-i.invariant.stand all);
  stays = c.in_ok-add_record.ensures.reads.stays ∙ c.loop-i.invariant.stays;
  later = omega (arith, c.in_ok-add_record.ensures.reads.later, c.loop-i.invariant.later);
}

pub returns-in_err-add_record-clause-untold : goal.returns-in_err-add_record-clause-untold
returns-in_err-add_record-clause-untold g c =
    untold_on c.add_record.result c.from_residual.result c.in_err-add_record.field-0.0 {a = g.F.Folder.told c.args.folder.now} (Agrees c.args.files.now) (Agrees c.args.files.now) (λ image agrees. agrees) c.loop-i.invariant.stays c.add_record.ensures.untold
    c.in_err-add_record.was c.from_residual.ensures.1
