use Rattle.std.proofs.Common.{subst, List, ℕ, length, ◌≡◌}
use Rattle.hex.specs.Hex.{encode_lower}
use Rattle.blk_script.proofs.Putting.{IsPutUpTo, put_more, put_partly, put_whole}
use Rattle.blk_script.proofs.Printed.{encode_lower-cut, encode_lower-none, tested_empty}
use Rattle.blk_io.proofs.GoingOn.{goes_on}
use Rattle.blk_script.proofs.print.print_bytes.Goals as goal

pub returns-in_err-print_piece-clause-prefix : goal.returns-in_err-print_piece-clause-prefix
returns-in_err-print_piece-clause-prefix g c =
    put_partly _ _ _ _ _ (encode_lower c.split_at.result.0.now) (encode_lower c.split_at.result.1.now) c.loop-left.invariant.put
    (encode_lower-cut _ _ _ _ c.split_at.ensures.front c.split_at.ensures.back) c.print_piece.ensures.prefix

pub loop-left-preserved : goal.loop-left-preserved
loop-left-preserved g c = record {
  put = put_more _ _ _ _ _ (encode_lower c.split_at.result.0.now) (encode_lower c.split_at.result.1.now) c.loop-left.invariant.put
      (encode_lower-cut _ _ _ _ c.split_at.ensures.front c.split_at.ensures.back) c.in_ok-print_piece.ensures.steps;
  later = goes_on c.loop-left.invariant.later c.print_piece.ensures.later;
}

pub returns-clause-steps : goal.returns-clause-steps
returns-clause-steps g c =
    let none : length c.loop-left.left.now ≡ 0 = tested_empty _ _ c.is_empty.ensures c.loop-left-test.false in
    let P : List ℕ → Type 0 = λ rest. IsPutUpTo (g.K.Sink.written c.args.out.now) (g.K.Sink.written c.loop-left.out) (encode_lower c.args.bytes.now) rest in
    put_whole _ _ _ (subst P (encode_lower-none _ none) c.loop-left.invariant.put)
