use Rattle.std.proofs.Common.{[], ◌∷◌, ◌+◌, map, drop}
use Rattle.std.proofs.lemmas.Result.{on_ok_weaker}
use Rattle.blk_script.specs.Spelling.{field_text}
use Rattle.blk_script.proofs.Putting.{not_yet, put_more, put_partly, put_whole}
use Rattle.blk_script.proofs.Printed.{after_first, line-fields, after_first-cut, after_first-end}
use Rattle.blk_io.proofs.GoingOn.{goes_on}
use Rattle.blk_script.proofs.print.print_fields.Goals as goal

pub returns-in_err-print_field-clause-prefix : goal.returns-in_err-print_field-clause-prefix
returns-in_err-print_field-clause-prefix g c =
    put_partly _ _ _ _ _ (field_text c.in-Some.first.now) (after_first (map field_text c.in-Some.rest.now)) (not_yet _ _)
    (line-fields _ _ _ c.in-Some.ensures.cases.0) c.print_field.ensures.prefix

pub loop-field-init : goal.loop-field-init
loop-field-init g c = record {
  put = put_more _ _ _ _ _ (field_text c.in-Some.first.now) (after_first (map field_text c.in-Some.rest.now)) (not_yet _ _)
      (line-fields _ _ _ c.in-Some.ensures.cases.0) c.in_ok-print_field.ensures.steps;
  later = c.print_field.ensures.later;
}

pub returns-in_err-print_further-clause-prefix : goal.returns-in_err-print_further-clause-prefix
returns-in_err-print_further-clause-prefix g c =
    put_partly _ _ _ _ _ _ (after_first (map field_text (drop (c.loop-field.field-index + 1) c.in-Some.rest.now))) c.loop-field.invariant.put
    (after_first-cut c.in-Some.rest.now c.loop-field.field-index _ c.loop-field-test.true) c.print_further.ensures.prefix

pub loop-field-preserved : goal.loop-field-preserved
loop-field-preserved g c = record {
  put = put_more _ _ _ _ _ _ (after_first (map field_text (drop (c.loop-field.field-index + 1) c.in-Some.rest.now))) c.loop-field.invariant.put
      (after_first-cut c.in-Some.rest.now c.loop-field.field-index _ c.loop-field-test.true) c.in_ok-print_further.ensures.steps;
  later = goes_on c.loop-field.invariant.later c.print_further.ensures.later;
}

pub returns-clause-steps : goal.returns-clause-steps
returns-clause-steps g c =
    on_ok_weaker c.put-2.result
    (λ put. put_whole _ _ _ (put_more _ _ _ _ _ (10 ∷ []) [] c.loop-field.invariant.put (after_first-end c.in-Some.rest.now c.loop-field.field-index c.loop-field-test.false) put))
    c.put-2.ensures.steps

pub returns-clause-prefix : goal.returns-clause-prefix
returns-clause-prefix g c =
    put_partly _ _ _ _ _ (10 ∷ []) [] c.loop-field.invariant.put (after_first-end c.in-Some.rest.now c.loop-field.field-index c.loop-field-test.false) c.put-2.ensures.prefix
