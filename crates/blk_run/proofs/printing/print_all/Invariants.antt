use Rattle.std.proofs.Common.{◌≡◌, ◌++◌, ℕ, List, take}
use Rattle.std.specs.List.{flat_map}
use Rattle.std.specs.Option.{option_map}
use Rattle.blk_io.specs.Streams.{GoesOn}
use Rattle.blk_run.proofs.printing.print_all.Given as goal

abbrev pub invariant-loop-piece : goal.invariant-loop-piece
invariant-loop-piece g l = record {
  written : g.K.Sink.written l.out ≡ option_map (λ (w : List ℕ). w ++ flat_map (λ piece. piece.now) (take l.piece-index l.pieces)) (g.K.Sink.written l.initial.out);
  later : GoesOn g.K.Sink.is g.K.Sink.faults l.initial.out l.out;
}
