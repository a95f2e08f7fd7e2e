use Rattle.std.proofs.Common.{ℕ, List, ap, sym, subst, ◌∙◌, ◌++◌, []}
use Rattle.std.specs.List.{flat_map}
use Rattle.std.specs.Option.{option_map}
use Rattle.std.proofs.lemmas.List.{take_all}
use Rattle.blk_io.specs.Streams.{Appends}
use Rattle.blk_run.proofs.Printed.{then_more, then_part, part_of, whole_part, one_more, pieces_split}
use Rattle.blk_io.proofs.GoingOn.{goes_on}
use Rattle.blk_run.proofs.printing.print_all.Goals as goal

pub returns-in_err-put-clause-prefix : goal.returns-in_err-put-clause-prefix
returns-in_err-put-clause-prefix g c =
    let part = then_part _ _ _ _ _ c.loop-piece.invariant.written c.in_err-put.ensures.prefix in
    subst (Appends _ _) (sym (pieces_split (λ piece. piece.now) c.args.pieces.now c.loop-piece.piece-index (record { ref_ptr = (0, 0); now = [] }) c.loop-piece-test.true)) (part_of _ _ _ _ part)

pub loop-piece-preserved : goal.loop-piece-preserved
loop-piece-preserved g c = record {
  written =
      then_more _ _ _ _ _ c.loop-piece.invariant.written c.in_ok-put.ensures.steps
      ∙ ap (λ (t : List ℕ). option_map (λ (w : List ℕ). w ++ t) (g.K.Sink.written c.args.out.now)) (sym (one_more (λ piece. piece.now) c.args.pieces.now c.loop-piece.piece-index (record { ref_ptr = (0, 0); now = [] }) c.loop-piece-test.true));
  later = goes_on c.loop-piece.invariant.later c.put.ensures.later;
}

pub returns-clause-prefix : goal.returns-clause-prefix
returns-clause-prefix g c =
    whole_part _ _ _
    (c.flush.ensures.stays
    ∙ c.loop-piece.invariant.written
    ∙ ap (λ (t : List ℕ). option_map (λ (w : List ℕ). w ++ t) (g.K.Sink.written c.args.out.now)) (ap (flat_map (λ piece. piece.now)) (take_all c.loop-piece.piece-index c.args.pieces.now c.loop-piece-test.false)))
