use Rattle.std.proofs.Common.{arith, sym, ◌∙◌}
use Rattle.blk_script.proofs.Digits.{number_field-begins, number_field-is, number_field-large}
use Rattle.blk_script.proofs.number.read_number.Goals as goal

pub returns-then-not-begins_number-clause-value : goal.returns-then-not-begins_number-clause-value
returns-then-not-begins_number-clause-value c = sym (number_field-begins c.args.most c.args.field.now (sym c.begins_number.ensures ∙ c.if-not-begins_number.true))

pub returns-in-Some-clause-value : goal.returns-in-Some-clause-value
returns-in-Some-clause-value c = sym (number_field-is c.args.most c.in-Some.number c.args.field.now (sym c.begins_number.ensures ∙ c.if-not-begins_number.false) c.in-Some.ensures.0 c.in-Some.ensures.1 c.if-number-most.true)

pub returns-in_default-clause-value : goal.returns-in_default-clause-value
returns-in_default-clause-value c = sym (number_field-large c.args.most c.args.field.now (λ digits. omega (arith, c.in-Some.ensures.1, c.if-number-most.false)))

pub returns-in_default-2-clause-value : goal.returns-in_default-2-clause-value
returns-in_default-2-clause-value c = sym (number_field-large c.args.most c.args.field.now (λ digits. let large = c.in_default.ensures digits in omega (arith, c.ranges.most.fits)))
