use Rattle.std.proofs.Common.{sym, ◌∙◌}
use Rattle.blk_script.proofs.Printed.{tested_empty, tested_some}
use Rattle.blk_script.proofs.Lines.{read_text-long, read_text-empty, read_text-fields}
use Rattle.blk_script.proofs.line.read_line.Goals as goal

pub returns-then-line-gt-LONGEST_LINE : goal.returns-then-line-gt-LONGEST_LINE
returns-then-line-gt-LONGEST_LINE c = sym (read_text-long c.args.line.now c.if-line-gt-LONGEST_LINE.true)

pub returns-then-is_empty : goal.returns-then-is_empty
returns-then-is_empty c = sym (read_text-empty c.args.line.now c.if-line-gt-LONGEST_LINE.false (tested_empty _ _ c.is_empty.ensures c.if-is_empty.true))

pub returns-in-Some : goal.returns-in-Some
returns-in-Some c =
    c.read_fields.ensures
    ∙ sym (read_text-fields c.args.line.now _ _ c.if-line-gt-LONGEST_LINE.false (tested_some _ _ c.is_empty.ensures c.if-is_empty.false) c.first_field.ensures.fields ∙ c.in-Some.ensures _)

pub returns-in-None : goal.returns-in-None
returns-in-None c =
    sym (read_text-fields c.args.line.now _ _ c.if-line-gt-LONGEST_LINE.false (tested_some _ _ c.is_empty.ensures c.if-is_empty.false) c.first_field.ensures.fields ∙ c.in-None.ensures _)
