use Rattle.std.proofs.Common.{ℕ, List, ◌∷◌, ◌+◌, ap, sym, ◌∙◌, take}
use Rattle.blk_script.specs.Fields.{line_fields}
use Rattle.blk_script.proofs.Splitting.{fields_of-at, fields_of-whole, left_behind, space_within}
use Rattle.blk_script.proofs.fields.first_field.Goals as goal

pub returns-in-Some-clause-fields : goal.returns-in-Some-clause-fields
returns-in-Some-clause-fields c =
    fields_of-at c.args.line.now c.in-Some.end (sym c.in-Some.ensures) ∙ ap (λ (left : List ℕ). take c.in-Some.end c.args.line.now ∷ line_fields left) (sym (left_behind c.args.line.now (c.in-Some.end + 1) (space_within c.args.line.now c.in-Some.end (sym c.in-Some.ensures))))

pub returns-in-None-clause-fields : goal.returns-in-None-clause-fields
returns-in-None-clause-fields c = fields_of-whole c.args.line.now (sym c.in-None.ensures)
