use Rattle.std.proofs.Common.{◌≡◌, ◌∷◌, ◌++◌, [], ℕ, true, Some, length, refl, ap, ◌∙◌, arith}
use Rattle.std.specs.Prelude.{slice_get}
use Rattle.std.proofs.lemmas.Option.{slice_get_read}
use Rattle.blk_disk.specs.Tables.{Agrees, is_record_among}
use Rattle.blk_lru.proofs.Conditions.{told_now}
use Rattle.blk_audit.proofs.Carrying.{untold_converted}
use Rattle.blk_verdict.proofs.Searched.{all_at}
use Rattle.blk_inspect.specs.declared.rows.RecordRow.{RecordRow}
use Rattle.blk_inspect.proofs.Listed.{record_more, record_parts}
use Rattle.blk_inspect.proofs.listing.record_rows.Goals as goal

pub record_at-requires-clause-kind : goal.record_at-requires-clause-kind
record_at-requires-clause-kind g c =
    let at : slice_get c.args.entries.now c.loop-entry.entry-index ≡ Some c.entry-item.result = slice_get_read c.args.entries.now (length c.args.entries.now) c.loop-entry.entry-index c.entry-item.result refl c.loop-entry-test.true c.entry-item.is in
    (record_parts c.args.files.now c.entry-item.result (all_at (λ w. is_record_among c.args.files.now w ≡ true) c.args.entries.now c.loop-entry.entry-index c.entry-item.result c.requires.stand at)).0

pub record_at-requires-clause-stands : goal.record_at-requires-clause-stands
record_at-requires-clause-stands g c =
    let at : slice_get c.args.entries.now c.loop-entry.entry-index ≡ Some c.entry-item.result = slice_get_read c.args.entries.now (length c.args.entries.now) c.loop-entry.entry-index c.entry-item.result refl c.loop-entry-test.true c.entry-item.is in
    (record_parts c.args.files.now c.entry-item.result (all_at (λ w. is_record_among c.args.files.now w ≡ true) c.args.entries.now c.loop-entry.entry-index c.entry-item.result c.requires.stand at)).1

pub returns-in_err-said-clause-untold : goal.returns-in_err-said-clause-untold
returns-in_err-said-clause-untold g c =
    untold_converted c.record_at.result c.from_residual.result c.in_err-said.field-0.0 {a = g.F.Folder.told c.args.folder.now} (Agrees c.args.files.now) (Agrees c.args.files.now) (λ image agrees. agrees) (c.record_at.ensures.reads.stays ∙ c.loop-entry.invariant.stays) c.record_at.ensures.untold
    c.in_err-said.was c.from_residual.ensures.1

pub loop-entry-preserved : goal.loop-entry-preserved
loop-entry-preserved g c = record {
  rows = λ image there are.
      let at : slice_get c.args.entries.now c.loop-entry.entry-index ≡ Some c.entry-item.result = slice_get_read c.args.entries.now (length c.args.entries.now) c.loop-entry.entry-index c.entry-item.result refl c.loop-entry-test.true c.entry-item.is in
      let row : ℕ → RecordRow = λ w. record { entry = w; hash = c.in_ok-said.said.words.hash } in
      c.in_ok-add_record.ensures
      ∙ ap (λ (w : ℕ). c.loop-entry.rows.items ++ row w ∷ []) c.word.ensures.word
      ∙ record_more image c.args.entries.now c.loop-entry.entry-index c.entry-item.result c.in_ok-said.said c.loop-entry.rows.items c.loop-entry-test.true at (c.in_ok-said.ensures.said image (told_now image c.loop-entry.invariant.stays there) are) (c.loop-entry.invariant.rows image there are);
  stays = c.record_at.ensures.reads.stays ∙ c.loop-entry.invariant.stays;
  later = omega (arith, c.record_at.ensures.reads.later, c.loop-entry.invariant.later);
}
