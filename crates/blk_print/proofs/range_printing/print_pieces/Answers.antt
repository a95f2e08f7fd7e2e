use Rattle.std.proofs.Common.{◌≡◌, true, false, None, refl, sym, ◌∙◌, ap, arith}
use Rattle.spec_image.specs.Told.{Told}
use Rattle.blk_io.proofs.Carried.{carried, if_damaged_weaker}
use Rattle.blk_print.proofs.PrintedRanges.{a-piece, all-printed, none-yet, one-more, some-printed}
use Rattle.blk_evict.proofs.RoomTexts.{faults-on, part-whole}
use Rattle.blk_io.proofs.GoingOn.{goes_on, stays_on}
use Rattle.blk_print.proofs.range_printing.print_pieces.Goals as goal

pub loop-done-init : goal.loop-done-init
loop-done-init g c = record {
  told = refl;
  later = omega arith;
  later_out = stays_on;
  within = omega arith;
  failed = λ was now. absurd (let e : false ≡ true = sym was ∙ now in cc);
  printed = λ image there p. none-yet c.args.files.now c.args.range.now image p c.args.failed.now (g.K.Sink.written c.args.out.now);
}

pub returns-in_err-print_piece-clause-part : goal.returns-in_err-print_piece-clause-part
returns-in_err-print_piece-clause-part g c image there p =
    some-printed c.args.files.now c.args.range.now image p c.args.failed.now c.loop-done.failed (g.K.Sink.written c.args.out.now) (g.K.Sink.written c.loop-done.out) (g.K.Sink.written c.print_piece.new.out) c.loop-done.done
    (c.loop-done.invariant.printed image there p) c.in_err-print_piece.ensures.unprinted

pub returns-in_err-print_piece-clause-untold : goal.returns-in_err-print_piece-clause-untold
returns-in_err-print_piece-clause-untold g c has =
    let same = ap (λ (t : Told). t.files) c.loop-done.invariant.told in
    carried c.print_piece.result c.from_residual.result c.in_err-print_piece.field-0.0 (λ _. (g.F.Folder.told c.args.folder.now).files ≡ None) c.in_err-print_piece.was c.from_residual.ensures.1
    (if_damaged_weaker c.print_piece.result _ _ (λ damage none. sym same ∙ none)
    (c.print_piece.ensures.untold (λ image there.
    let p = has image (sym same ∙ there) in
    a-piece c.args.files.now c.args.range.now image p _ c.loop-done.done refl refl refl (omega (arith, c.loop-done.invariant.within, c.min-next.ensures)))))

pub loop-done-preserved : goal.loop-done-preserved
loop-done-preserved g c = record {
  told = c.in_ok-print_piece.ensures.reads.stays ∙ c.loop-done.invariant.told;
  later = let a = c.in_ok-print_piece.ensures.reads.later in let b = c.loop-done.invariant.later in omega (arith, a, b);
  later_out = goes_on c.loop-done.invariant.later_out c.in_ok-print_piece.ensures.later_out;
  within = let a = c.loop-done.invariant.within in let m = c.min-next.ensures in omega (arith, a, m);
  failed = faults-on _ _ _ _ _ _ c.loop-done.invariant.failed c.in_ok-print_piece.ensures.failed c.loop-done.invariant.later_out.later c.in_ok-print_piece.ensures.later_out.later;
  printed = λ image there p.
      let now = ap (λ (t : Told). t.files) c.loop-done.invariant.told ∙ there in
      one-more c.args.files.now c.args.range.now image p _ _ _ _ _ _ c.loop-done.done c.min-next.result (c.loop-done.invariant.printed image there p)
      (c.in_ok-print_piece.ensures.printed image now (a-piece c.args.files.now c.args.range.now image p _ c.loop-done.done refl refl refl (omega (arith, c.loop-done.invariant.within, c.min-next.ensures))));
}

pub returns-clause-printed : goal.returns-clause-printed
returns-clause-printed g c image there p =
    all-printed c.args.files.now c.args.range.now image p c.args.failed.now c.loop-done.failed (g.K.Sink.written c.args.out.now) (g.K.Sink.written c.loop-done.out) c.loop-done.done c.loop-done-test.false (c.loop-done.invariant.printed image there p)

pub returns-clause-part : goal.returns-clause-part
returns-clause-part g c image there p =
    part-whole _ _ _ _ _ (all-printed c.args.files.now c.args.range.now image p c.args.failed.now c.loop-done.failed (g.K.Sink.written c.args.out.now) (g.K.Sink.written c.loop-done.out) c.loop-done.done c.loop-done-test.false (c.loop-done.invariant.printed image there p))
