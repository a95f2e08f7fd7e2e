use Rattle.std.proofs.Common.{arith, subst, sym, ap, List, ℕ, ◌≡◌, ◌∙◌, ◌++◌}
use Rattle.percent_encoding.specs.Iter.{encoded_text}
use Rattle.blk_script.specs.Spelling.{key_text}
use Rattle.blk_script.proofs.Putting.{IsPutUpTo, not_yet, put_more, put_partly}
use Rattle.blk_script.proofs.Printed.{key_text-escaped, bytes_by_index}
use Rattle.blk_io.proofs.GoingOn.{goes_on, stays_on}
use Rattle.blk_script.proofs.print.print_key.Goals as goal

pub loop-piece-init : goal.loop-piece-init
loop-piece-init g c =
    let text : key_text c.args.key.now ≡ encoded_text c.into_iter-piece-iterator.result =
    sym (ap encoded_text c.into_iter-piece-iterator.ensures.into_iter_gives ∙ c.percent_encode-piece-items.ensures.text ∙ key_text-escaped _ (bytes_by_index _ (λ i. omega (arith, c.type_inv.key i)))) in
    record {
      put = subst (λ (rest : List ℕ). IsPutUpTo (g.K.Sink.written c.args.out.now) (g.K.Sink.written c.args.out.now) (key_text c.args.key.now) rest) text (not_yet _ _);
      later = stays_on;
    }

pub loop-piece-preserved : goal.loop-piece-preserved
loop-piece-preserved g c = record {
  put = put_more _ _ _ _ _ c.as_bytes.result.now (encoded_text c.next.new.self) c.loop-piece.invariant.put (c.in-Some.ensures.steps ∙ ap (λ (p : List ℕ). p ++ encoded_text c.next.new.self) (sym c.as_bytes.ensures.value)) c.in_ok-put.ensures.steps;
  later = goes_on c.loop-piece.invariant.later c.put.ensures.later;
}

pub returns-in_err-put-clause-prefix : goal.returns-in_err-put-clause-prefix
returns-in_err-put-clause-prefix g c =
    put_partly _ _ _ _ _ c.as_bytes.result.now (encoded_text c.next.new.self) c.loop-piece.invariant.put (c.in-Some.ensures.steps ∙ ap (λ (p : List ℕ). p ++ encoded_text c.next.new.self) (sym c.as_bytes.ensures.value)) c.put.ensures.prefix
